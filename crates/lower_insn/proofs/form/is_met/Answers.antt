use Rattle.std.proofs.Common.{◌≡◌, ap, ◌∙◌}
use Rattle.form_needs.specs.Needs.{lower_facts}
use Rattle.c_eval.specs.declared.facts.Facts.{Facts}
use Rattle.md_recog.specs.Match.{Accepts, is_met}
use Rattle.md_pred.specs.Holds.{holds}
use Rattle.lower_insn.proofs.form.is_met.Goals as goal

pub returns : goal.returns
returns c =
    c.is_met.ensures ∙
    (ap (λ (a : Accepts). is_met a c.lower_facts-facts.result c.args.form.now.condition c.args.operands.now) c.preds-preds.ensures ∙
    ap (λ (f : Facts). is_met (holds c.args.desc.now) f c.args.form.now.condition c.args.operands.now) c.lower_facts-facts.ensures)
