use Rattle.std.proofs.Common.{arith, ◌++◌, ap, ◌∙◌}
use Rattle.rv_text.proofs.Registers.{nothing_shown, name_shown}
use Rattle.rv_text.proofs.print.print_register.Goals as goal

pub returns-in_ok-extend_from_slice : goal.returns-in_ok-extend_from_slice
returns-in_ok-extend_from_slice c =
    let bytes = c.as_bytes.ensures.value ∙ c.reg_name.ensures ∙ name_shown c.args.reg in
    c.in_ok-extend_from_slice.ensures.items ∙ ap (λ text. c.args.out.now.items ++ text) bytes

pub returns-else-reg-lt-HARD_REGS : goal.returns-else-reg-lt-HARD_REGS
returns-else-reg-lt-HARD_REGS c = nothing_shown c.args.out.now.items c.args.reg (omega arith)
