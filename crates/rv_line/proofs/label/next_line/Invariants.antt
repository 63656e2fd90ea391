-- What the items that are left give is what all give.
use Rattle.std.proofs.Common.{◌≡◌, drop}
use Rattle.rv_line.specs.Run.{next_line}
use Rattle.rv_line.proofs.label.next_line.Given as goal

abbrev pub invariant-loop-at : goal.invariant-loop-at
invariant-loop-at l = next_line (drop l.at l.items) ≡ next_line l.items
