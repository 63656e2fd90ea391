use Rattle.std.proofs.Common.{ap, sym, ◌∙◌, arith, option_map}
use Rattle.std.specs.Prelude.{fold}
use Rattle.md_text.specs.Constraint.{sign_at, signed}
use Rattle.md_text.proofs.Cuts.{cut_passes, fold_next}
use Rattle.md_text.proofs.constraint.alternative_of.Goals as goal

pub loop-at-preserved-then-taken-gt0 : goal.loop-at-preserved-then-taken-gt0
loop-at-preserved-then-taken-gt0 c = record {
  slight = omega (arith, c.loop-at.invariant.slight);
  severe = omega (arith, c.loop-at.invariant.severe);
  value = ap (option_map (fold signed c.loop-at.alternative)) (cut_passes (sign_at c.args.names.now) _ _ _ c.loop-at-test.true c.if-taken-gt0.true) ∙ c.loop-at.invariant.value;
}

pub loop-at-preserved : goal.loop-at-preserved
loop-at-preserved c = record {
  slight = omega (arith, c.in_ok-alternative.ensures.slight_grows, c.loop-at.invariant.slight);
  severe = omega (arith, c.in_ok-alternative.ensures.severe_grows, c.loop-at.invariant.severe);
  value = fold_next signed (sign_at c.args.names.now) _ _ _ _ _ _ _ _ c.loop-at-test.true c.if-taken-gt0.false (ap (sign_at c.args.names.now) (sym c.behind.ensures) ∙ sym c.in_ok-sign.ensures ∙ c.in-Some.is) c.in_ok-alternative.ensures.value c.loop-at.invariant.value;
}
