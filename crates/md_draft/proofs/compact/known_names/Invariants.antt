use Rattle.std.proofs.Common.{drop}
use Rattle.md_draft.specs.Compact.{given_names}
use Rattle.md_draft.specs.machine.Known.{Knows}
use Rattle.md_draft.proofs.compact.known_names.Given as goal

abbrev pub invariant-loop-at : goal.invariant-loop-at
invariant-loop-at l = Knows l.places (given_names (drop l.at l.given))
