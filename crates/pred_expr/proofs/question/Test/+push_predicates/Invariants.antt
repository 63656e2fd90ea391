use Rattle.std.proofs.Common.{◌≡◌, ◌++◌, drop}
use Rattle.std.specs.List.{flat_map}
use Rattle.pred_expr.specs.Test.{predicates_of}
use Rattle.pred_expr.proofs.question.Test.+push_predicates.Given as goal

abbrev pub invariant-loop-part : goal.invariant-loop-part
invariant-loop-part l = l.names ++ flat_map predicates_of (drop l.part-index l.part-items) ≡ l.fn.names ++ predicates_of l.self
