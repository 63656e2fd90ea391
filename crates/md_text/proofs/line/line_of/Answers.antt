use Rattle.std.proofs.Common.{ap, sym, ◌∙◌}
use Rattle.md_text.specs.Template.{piece_at}
use Rattle.md_text.proofs.Each.{with_front}
use Rattle.md_text.proofs.Cuts.{cut_passes, front_next}
use Rattle.md_text.proofs.line.line_of.Goals as goal

pub loop-at-preserved-then-taken-gt0 : goal.loop-at-preserved-then-taken-gt0
loop-at-preserved-then-taken-gt0 c = ap (with_front c.loop-at.pieces) (cut_passes piece_at _ _ _ c.loop-at-test.true c.if-taken-gt0.true) ∙ c.loop-at.invariant

pub loop-at-preserved : goal.loop-at-preserved
loop-at-preserved c = rw c.in_ok-push.ensures.ok (front_next piece_at _ _ _ _ _ _ _ c.loop-at-test.true c.if-taken-gt0.false (sym (rw c.behind.ensures at c.in-Some.ensures)) c.loop-at.invariant)
