use Rattle.std.proofs.Common.{◌≡◌, ◌++◌, take, flat_map}
use Rattle.rtl_print.specs.Print.{spaced_number}
use Rattle.rtl_print.proofs.print.print_bare.Given as goal

abbrev pub invariant-loop-kid : goal.invariant-loop-kid
invariant-loop-kid l = l.out.items ≡ l.initial.out.items ++ flat_map spaced_number (take l.kid-index l.kids)
