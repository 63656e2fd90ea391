use Rattle.std.proofs.Common.{◌≡◌, ◌++◌}
use Rattle.rtl_print.specs.machine.Pieces.{closed}
use Rattle.rtl_print.proofs.canonical.print_closed.Given as goal

abbrev pub invariant-loop-closing : goal.invariant-loop-closing
invariant-loop-closing l = l.out.items ≡ l.initial.out.items ++ closed l.closing
