use Rattle.std.proofs.Common.{◌≡◌, drop}
use Rattle.lint_about.specs.Within.{first_found, place_within}
use Rattle.lint_about.proofs.sought.+placed.Given as goal

abbrev pub invariant-place_among-loop-tree : goal.invariant-place_among-loop-tree
invariant-place_among-loop-tree l = first_found (place_within l.text) (drop l.tree-index l.trees) ≡ first_found (place_within l.text) l.trees
