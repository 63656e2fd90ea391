use Rattle.std.proofs.Common.{◌≡◌, ◌++◌, take}
use Rattle.tree_print.specs.Print.{separated}
use Rattle.tree_print.proofs.print.+print.Given as goal

abbrev pub invariant-print_separated-loop-i : goal.invariant-print_separated-loop-i
invariant-print_separated-loop-i l = l.out.items ≡ l.initial.out.items ++ separated (take l.i l.trees)
