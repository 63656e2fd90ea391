use Rattle.std.proofs.Common.{◌∙◌, length, ap, arith}
use Rattle.rtx_tree.specs.declared.function.Function.{Function}
use Rattle.new_insns.specs.Replaced.{window}
use Rattle.schedule.proofs.EndLaws.{window_few}
use Rattle.schedule.proofs.pass.plan_between.Goals as goal

pub plan_of-requires-clause-few : goal.plan_of-requires-clause-few
plan_of-requires-clause-few c =
    let few = window_few c.args.chain.now c.args.place c.args.end c.requires.region in
    let same = ap length (c.as_slice.ensures.value ∙ (c.in_ok-insns.ensures ∙ ap (λ (g : Function). window g c.args.place c.args.end) c.in_ok-move_gap.ensures)) in
    omega (arith, few, same)
