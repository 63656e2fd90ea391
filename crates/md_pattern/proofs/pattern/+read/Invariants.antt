use Rattle.std.proofs.Common.{◌≡◌, drop, map}
use Rattle.md_pattern.specs.Pattern.{each, meaning_of}
use Rattle.md_pattern.proofs.Each.{joined}
use Rattle.md_pattern.proofs.pattern.+read.Given as goal

abbrev pub invariant-each-loop-tree : goal.invariant-each-loop-tree
invariant-each-loop-tree l = joined l.patterns (each (map (meaning_of l.constants) (drop l.tree-index l.trees))) ≡ each (map (meaning_of l.constants) l.trees)
