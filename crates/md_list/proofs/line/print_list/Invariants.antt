use Rattle.std.proofs.Common.{◌≡◌, ◌++◌, drop}
use Rattle.md_list.specs.Listing as spec
use Rattle.md_list.proofs.line.print_list.Given as goal

abbrev pub invariant-loop-at : goal.invariant-loop-at
invariant-loop-at l = l.out.items ++ spec.lines_from l.at (drop l.at l.entries) (drop l.at l.names) ≡ l.fn.out.items ++ spec.lines_from 0 l.entries l.names
