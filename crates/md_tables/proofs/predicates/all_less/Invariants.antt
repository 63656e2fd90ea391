use Rattle.std.proofs.Common.{◌≡◌, take}
use Rattle.md_tables.specs.machine.Depths.{below}
use Rattle.md_tables.proofs.predicates.all_less.Given as goal

abbrev pub invariant-loop-depth : goal.invariant-loop-depth
invariant-loop-depth l = l.flags ≡ below l.rounds (take l.depth-index l.depths)
