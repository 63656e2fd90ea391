use Rattle.std.proofs.Common.{◌≡◌, ◌+◌, drop, map}
use Rattle.lisp_read.specs.declared.position.Position.TheVariants.{Pattern}
use Rattle.lisp_read.specs.Parsed.{each_parsed}
use Rattle.lisp_read.specs.Expression.{each_at, meaning_of, read_at}
use Rattle.lisp_read.proofs.Each.{with_front}
use Rattle.lisp_read.proofs.expression.+read.Given as goal

abbrev pub invariant-patterns-loop-tree : goal.invariant-patterns-loop-tree
invariant-patterns-loop-tree l = with_front l.read (each_parsed (read_at Pattern) (drop l.tree-index l.trees)) ≡ each_parsed (read_at Pattern) l.trees

abbrev pub invariant-each_at-loop-i : goal.invariant-each_at-loop-i
invariant-each_at-loop-i l = with_front l.read (each_at (drop l.i l.positions) (drop (1 + l.i) (map meaning_of l.items))) ≡ each_at l.positions (drop 1 (map meaning_of l.items))
