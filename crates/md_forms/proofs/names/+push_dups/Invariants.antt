use Rattle.std.proofs.Common.{◌≡◌, ◌++◌, drop}
use Rattle.std.specs.List.{flat_map}
use Rattle.md_forms.specs.Names as spec
use Rattle.md_forms.proofs.names.+push_dups.Given as goal

abbrev pub invariant-loop-kid : goal.invariant-loop-kid
invariant-loop-kid l = l.numbers ++ flat_map spec.dups_in (drop l.kid-index l.kid-items) ≡ l.fn.numbers ++ spec.dups_in l.x
