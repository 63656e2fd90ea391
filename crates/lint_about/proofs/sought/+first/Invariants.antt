use Rattle.std.proofs.Common.{◌≡◌, drop}
use Rattle.lint_about.specs.Within.{first_found, first_in}
use Rattle.lint_about.proofs.sought.+first.Given as goal

abbrev pub invariant-first_among-loop-tree : goal.invariant-first_among-loop-tree
invariant-first_among-loop-tree l = first_found (first_in l.constants l.sought) (drop l.tree-index l.trees) ≡ first_found (first_in l.constants l.sought) l.trees
