use Rattle.std.proofs.Common.{◌≡◌, map, drop, ◌++◌}
use Rattle.term_tree.specs.Tree.{trees_of}
use Rattle.term_tree.specs.View.{tree_of}
use Rattle.term_mean.specs.Extensions.{extended_all}
use Rattle.term_cuts.proofs.extensions.+extended.Given as goal

abbrev pub invariant-extended_all-loop-part : goal.invariant-extended_all-loop-part
invariant-extended_all-loop-part g l =
    map tree_of l.extensions.items ++ extended_all (g.M.Makes.made l.makes) l.e l.m (trees_of (map tree_of (drop l.part-index l.parts))) ≡ extended_all (g.M.Makes.made l.makes) l.e l.m (trees_of (map tree_of l.parts))
