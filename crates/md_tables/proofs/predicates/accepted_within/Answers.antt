use Rattle.std.proofs.Common.{◌≡◌, ap, subst, ◌∙◌, rules, arith}
use Rattle.std.specs.Prelude.{IfOk}
use Rattle.md_tables.specs.Predicates as spec
use Rattle.md_tables.specs.machine.Depths.{below, IsNext}
use Rattle.md_tables.proofs.DepthLaws.{first_round, next_round, settled}
use Rattle.md_tables.proofs.predicates.accepted_within.Goals as goal

pub loop-done-init : goal.loop-done-init
loop-done-init c = first_round c.args.rounds c.args.predicates.now c.as_slice.result.now c.in_ok-depths.depths c.in_ok-depths.ensures

pub returns-then-is_last : goal.returns-then-is_last
returns-then-is_last c =
    let ds = c.args.predicates.now in
    let next = subst (λ depths. IsNext c.args.rounds ds depths c.in_ok-next.next) c.as_slice-in-loop-done.ensures.value c.in_ok-next.ensures in
    let same : c.in_ok-next.next ≡ c.loop-done.depths = search rules in
    let all : below c.args.rounds c.loop-done.depths ≡ spec.accepted_within c.args.rounds ds =
    settled c.args.rounds c.loop-done._done ds c.loop-done.depths c.in_ok-next.next next c.loop-done.invariant same c.args.rounds (omega arith) in
    subst (λ flags. IfOk c.all_less.result (λ accepted. accepted ≡ flags)) (ap (below c.args.rounds) c.as_slice-then-is_last.ensures.value ∙ all) c.all_less.ensures

pub loop-done-preserved : goal.loop-done-preserved
loop-done-preserved c =
    let ds = c.args.predicates.now in
    let next = subst (λ depths. IsNext c.args.rounds ds depths c.in_ok-next.next) c.as_slice-in-loop-done.ensures.value c.in_ok-next.ensures in
    next_round c.args.rounds c.loop-done._done ds c.loop-done.depths c.in_ok-next.next c.loop-done-test.true next c.loop-done.invariant
