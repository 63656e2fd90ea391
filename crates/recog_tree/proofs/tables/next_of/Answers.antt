use Rattle.std.proofs.Common.{sym, ◌∙◌, arith}
use Rattle.recog_tree.proofs.Found.{past}
use Rattle.recog_tree.proofs.tables.next_of.Goals as goal

pub loop-place-preserved : goal.loop-place-preserved
loop-place-preserved c = record {
  none = past c.args.keys.now c.args.insn c.args.from c.loop-place.place c.loop-place.invariant.none (sym c.is_tried_at.ensures ∙ c.if-is_tried_at.false);
  behind = omega (arith, c.loop-place.invariant.behind);
}
