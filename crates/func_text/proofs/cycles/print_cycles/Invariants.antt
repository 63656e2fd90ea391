use Rattle.std.proofs.Common.{◌≡◌, ◌++◌, take}
use Rattle.std.specs.List.{flat_map}
use Rattle.func_text.specs.Cycles.{line_of}
use Rattle.func_text.proofs.cycles.print_cycles.Given as goal

abbrev pub invariant-loop-cycle : goal.invariant-loop-cycle
invariant-loop-cycle l = l.out.items ≡ l.initial.out.items ++ flat_map (line_of l.function) (take l.cycle-index l.cycles)
