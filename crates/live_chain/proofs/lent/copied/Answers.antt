use Rattle.std.proofs.Common.{[], ◌∷◌, ◌++◌, sym, ap, ◌∙◌, arith}
use Rattle.std.specs.Prelude.{slice_range}
use Rattle.live_chain.proofs.TailLaws.{none_ranged, range_more}
use Rattle.live_chain.proofs.lent.copied.Goals as goal

pub loop-at-init : goal.loop-at-init
loop-at-init c = c.new-copies.ensures ∙ sym (none_ranged c.args.insns.now c.args.first)

pub loop-at-preserved : goal.loop-at-preserved
loop-at-preserved c =
    let l = c.loop-at in
    let insns = c.args.insns.now in
    c.in_ok-push.ensures.ok
    ∙ (ap (λ copies. copies ++ c.in_ok-copy.field-0 ∷ []) l.invariant
    ∙ (ap (λ i. slice_range insns c.args.first l.at ++ i ∷ []) c.in_ok-copy.ensures
    ∙ sym (range_more insns c.args.first l.at c.item.result.now (omega arith) c.item.ensures)))
