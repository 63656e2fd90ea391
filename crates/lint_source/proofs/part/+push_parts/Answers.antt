use Rattle.std.proofs.Common.{arith}
use Rattle.lint_source.proofs.StandLaws.{named_by, starts_at, keeps_at, includes_at, finishes_at, agrees_still, same_still, same_both}
use Rattle.lint_source.proofs.part.+push_parts.Goals.{in-None, in-Some+else-room-eq0+in_ok-push_part-in-Some+in_ok-push_parts-in-Some}
use Rattle.lint_source.proofs.part.+push_parts.Goals as goal

pub loop-tree-init : goal.loop-tree-init
loop-tree-init g t c = record {
  few = omega arith;
  goes = λ source agrees. starts_at source c.args.name.now c.args.parts.now c.in_ok-trees.trees c.as_slice-tree-items.result.now c.as_slice-tree-items.ensures.value (c.in_ok-trees.ensures.reads source agrees);
  same = c.in_ok-trees.ensures.same;
}

pub loop-tree-preserved : goal.loop-tree-preserved
loop-tree-preserved g t c = elim c.match-included.branch [
  | in-None w ↦ record {
    few = omega (arith, w.count-is, c.loop-tree.invariant.few);
    goes = λ source agrees. keeps_at source c.args.name.now c.args.parts.now c.loop-tree.parts c.match-included.parts c.loop-tree.count c.match-included.count c.as_slice-tree-items.result.now c.loop-tree.tree-index c.tree-item.result
        c.loop-tree-test.true c.tree-item.is w.in-None.ensures w.parts-is w.count-is (c.loop-tree.invariant.goes source agrees);
    same = same_still g.F.Files.holds c.args.files.now c.loop-tree.files c.match-included.files w.files-is c.loop-tree.invariant.same;
  }
  | in-Some+else-room-eq0+in_ok-push_part-in-Some+in_ok-push_parts-in-Some w ↦ record {
    few = omega (arith, w.count-is);
    goes = λ source agrees. includes_at source c.args.name.now c.args.parts.now c.loop-tree.parts w.push_part.new.parts w.push_parts.new.parts c.match-included.parts c.loop-tree.count c.match-included.count c.as_slice-tree-items.result.now
        c.loop-tree.tree-index c.tree-item.result w.bytes.result.now c.loop-tree-test.true c.tree-item.is (named_by c.tree-item.result w.in-Some.file.now w.bytes.result.now w.in-Some.ensures w.bytes.ensures)
        w.in_ok-push_part-in-Some.ensures
        (w.in_ok-push_parts-in-Some.ensures.stand source (agrees_still source (g.F.Files.holds c.args.files.now) (g.F.Files.holds c.loop-tree.files) c.loop-tree.invariant.same agrees))
        w.parts-is w.count-is (c.loop-tree.invariant.goes source agrees);
    same = same_still g.F.Files.holds c.args.files.now w.push_parts.new.files c.match-included.files w.files-is
        (same_both (g.F.Files.holds c.args.files.now) (g.F.Files.holds c.loop-tree.files) (g.F.Files.holds w.push_parts.new.files) c.loop-tree.invariant.same w.in_ok-push_parts-in-Some.ensures.same);
  }
]

pub returns-clause-stand : goal.returns-clause-stand
returns-clause-stand g t c = λ source agrees.
    finishes_at source c.args.name.now c.args.parts.now c.loop-tree.parts c.push_part-2.new.parts c.loop-tree.count c.as_slice-tree-items.result.now c.loop-tree.tree-index
    c.loop-tree-test.false c.in_ok-push_part.ensures (c.loop-tree.invariant.goes source agrees)
