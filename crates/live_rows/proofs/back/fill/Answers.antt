use Rattle.std.proofs.Common.{◌≡◌, Some, length, refl, arith}
use Rattle.std.specs.Prelude.{slice_get}
use Rattle.std.proofs.lemmas.Option.{slice_get_read, slice_get_within}
use Rattle.live_rows.proofs.BackLaws.{AreListed-more}
use Rattle.live_rows.proofs.back.fill.Goals as goal

pub loop-at-preserved : goal.loop-at-preserved
loop-at-preserved c =
    let nodes = c.args.nodes.now in
    let inv = c.loop-at.invariant in
    let at = c.loop-at.at in
    let node = c.index-nodes-at.result in
    let first = c.in_ok-add_back.ensures in
    let second = c.in_ok-add_back-2.ensures in
    let here : slice_get nodes at ≡ Some node = slice_get_read nodes _ at node refl (omega arith) c.index-nodes-at.is in
    let longer : length c.add_back.new.back ≡ length nodes = omega arith in
    record {
      long = omega arith;
      below = second.below _ (omega arith) (first.below _ (omega arith) inv.below);
      listed = AreListed-more nodes at node c.loop-at.back c.add_back.new.back c.add_back-in-loop-at.new.back here inv.long longer first.kept first.added second.kept second.added inv.listed;
    }

pub returns : goal.returns
returns c =
    record {
      each = λ p q node within there leads. (let l = slice_get_within c.args.nodes.now q node there in c.loop-at.invariant.listed p q node (omega arith) within there leads);
      below = c.loop-at.invariant.below;
    }
