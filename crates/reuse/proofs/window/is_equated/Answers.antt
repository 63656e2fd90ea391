use Rattle.std.proofs.Common.{length, ap, arith}
use Rattle.reuse.proofs.Last.{last_long, all_defined, told_same, told_other}
use Rattle.reuse.proofs.window.is_equated.Goals as goal

pub is_same-requires-clause-after : goal.is_same-requires-clause-after
is_same-requires-clause-after c =
    let long = last_long c.args.new.now c.args.window.now in
    let same = ap length c.in_ok-with_last.ensures in
    omega (arith, long, same, c.requires)

pub returns-clause-all : goal.returns-clause-all
returns-clause-all c =
    told_same c.args.window.now c.args.new.now c.add_all.new.to
    (λ n. all_defined c.add_all.new.to c.in_ok-regs.regs c.as_slice-2.result.now c.in_ok-insn_defines.field-0 c.args.window.now c.args.new.now n (c.in_ok-add_all.ensures n) c.as_slice-2.ensures.value (c.in_ok-insn_defines.ensures n) (c.in_ok-regs.ensures n))
    c.is_same.result c.in_ok-with_last.field-0 c.in_ok-with_last.ensures c.is_same.ensures.same

pub returns-clause-none : goal.returns-clause-none
returns-clause-none c =
    told_other c.args.window.now c.args.new.now c.add_all.new.to
    (λ n. all_defined c.add_all.new.to c.in_ok-regs.regs c.as_slice-2.result.now c.in_ok-insn_defines.field-0 c.args.window.now c.args.new.now n (c.in_ok-add_all.ensures n) c.as_slice-2.ensures.value (c.in_ok-insn_defines.ensures n) (c.in_ok-regs.ensures n))
    c.is_same.result c.in_ok-with_last.field-0 c.in_ok-with_last.ensures c.is_same.ensures.other
