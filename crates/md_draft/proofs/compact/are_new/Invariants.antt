use Rattle.std.proofs.Common.{◌≡◌, ℕ, List, drop}
use Rattle.md_draft.specs.Compact.{given_names}
use Rattle.md_draft.specs.Compact as spec
use Rattle.md_draft.specs.machine.Known.{Knows}
use Rattle.md_draft.proofs.compact.are_new.Given as goal

abbrev pub invariant-loop-name : goal.invariant-loop-name
invariant-loop-name l = (known : List (List ℕ)) × Knows l.places known × (spec.are_new known (drop l.name-index l.names) ≡ spec.are_new (given_names l.given) l.names)
