use Rattle.std.proofs.Common.{arith}
use Rattle.md_pattern.proofs.Each.{each_next}
use Rattle.md_pattern.proofs.Inner.{no_head, no_inner, whole, below}
use Rattle.md_pattern.proofs.pattern.+read.Goals as goal

pub each-loop-tree-preserved : goal.each-loop-tree-preserved
each-loop-tree-preserved t c = each_next _ _ _ _ _ _ _ _ c.loop-tree-test.true c.tree-item.is c.in_ok-pattern.ensures c.in_ok-patterns.ensures c.loop-tree.invariant

pub expression-returns-in-Err : goal.expression-returns-in-Err
expression-returns-in-Err t c = no_head _ _ _ c.in-Err.ensures

pub expression-each-requires : goal.expression-each-requires
expression-each-requires t c = let less = below _ _ _ _ c.behind_head-parts.ensures c.in-Some.ensures in (omega (arith, less, c.decreases), tt)

pub expression-returns-in_ok-kids-in-Some : goal.expression-returns-in_ok-kids-in-Some
expression-returns-in_ok-kids-in-Some t c = whole _ _ _ _ _ _ _ c.in-Ok.ensures c.behind_head-parts.ensures c.in-Some.ensures c.in_ok-kids-in-Some.ensures c.made.ensures

pub expression-returns-in-None : goal.expression-returns-in-None
expression-returns-in-None t c = no_inner _ _ _ _ c.in-Ok.ensures c.behind_head-parts.ensures c.in-None.ensures
