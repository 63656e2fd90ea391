use Rattle.md_tables.proofs.DepthLaws.{AreDepths}
use Rattle.md_tables.proofs.predicates.accepted_within.Given as goal

abbrev pub invariant-loop-done : goal.invariant-loop-done
invariant-loop-done l = AreDepths l._done l.predicates l.depths
