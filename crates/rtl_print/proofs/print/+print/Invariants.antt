use Rattle.std.proofs.Common.{◌≡◌, ◌++◌, take, flat_map}
use Rattle.rtl_print.specs.Print.{spaced_text}
use Rattle.rtl_print.specs.machine.Pieces.{separated}
use Rattle.rtl_print.proofs.print.+print.Given as goal

abbrev pub invariant-print_kids-loop-kid : goal.invariant-print_kids-loop-kid
invariant-print_kids-loop-kid l = l.out.items ≡ l.initial.out.items ++ flat_map spaced_text (take l.kid-index l.kids)

abbrev pub invariant-print_separated-loop-i : goal.invariant-print_separated-loop-i
invariant-print_separated-loop-i l = l.out.items ≡ l.initial.out.items ++ separated (take l.i l.kids)
