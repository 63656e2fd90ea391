use Rattle.std.proofs.Common.{ℕ, ◌+◌, List, ◌∙◌, ap, arith}
use Rattle.rtx_tree.specs.declared.function.Insn.{Insn}
use Rattle.rtx_tree.specs.declared.function.Function.{Function}
use Rattle.new_insns.specs.Replaced.{window}
use Rattle.region_jobs.specs.Region.{region_length}
use Rattle.schedule.proofs.EndLaws.{end_seen}
use Rattle.schedule.proofs.pass.region_end.Goals as goal

pub returns-clause-end : goal.returns-clause-end
returns-clause-end c =
    let place = c.args.place in
    let most = c.min-most.result in
    ap (λ (n : ℕ). place + n) c.region_length-length.ensures.length
    ∙ (ap (λ (l : List Insn). place + region_length l) (c.as_slice.ensures.value ∙ (c.in_ok-rest.ensures ∙ ap (λ (g : Function). window g place most) c.in_ok-move_gap.ensures))
    ∙ end_seen c.args.chain.now place most
    (omega (arith, c.requires, c.len.ensures, c.in-Ok.ensures, c.saturating_add.ensures, c.min-most.ensures))
    (λ less. omega (arith, c.requires, c.len.ensures, c.in-Ok.ensures, c.saturating_add.ensures, c.min-most.ensures)))
