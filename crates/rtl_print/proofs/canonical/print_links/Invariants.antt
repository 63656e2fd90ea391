use Rattle.std.proofs.Common.{◌≡◌, ◌++◌, take, flat_map}
use Rattle.rtl_print.specs.Canonical.{printed_link}
use Rattle.rtl_print.proofs.canonical.print_links.Given as goal

abbrev pub invariant-loop-arg : goal.invariant-loop-arg
invariant-loop-arg l = l.out.items ≡ l.initial.out.items ++ flat_map printed_link (take l.arg-index l.uses)
