use Rattle.std.proofs.Common.{◌≡◌, ◌+◌, map, drop}
use Rattle.term_sums.specs.machine.Places.{part_place}
use Rattle.term_tree.specs.View.{tree_of}
use Rattle.term_sums.proofs.joints.place_of.Given as goal

abbrev pub invariant-loop-i : goal.invariant-loop-i
invariant-loop-i l =
    part_place (tree_of l.t) (map tree_of l.parts) ≡ l.i + part_place (tree_of l.t) (map tree_of (drop l.i l.parts))
