use Rattle.std.proofs.Common.{◌≡◌, ◌++◌, drop}
use Rattle.std.specs.List.{flat_map}
use Rattle.md_draft.specs.Compact as spec
use Rattle.md_draft.proofs.compact.+push_operands.Given as goal

abbrev pub invariant-loop-kid : goal.invariant-loop-kid
invariant-loop-kid l = l.numbers ++ flat_map spec.operands_in (drop l.kid-index l.kid-items) ≡ l.fn.numbers ++ spec.operands_in l.x
