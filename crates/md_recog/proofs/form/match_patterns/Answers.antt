use Rattle.md_match.proofs.Seen.{seen}
use Rattle.md_recog.proofs.Forms.{form_found}
use Rattle.md_recog.proofs.form.match_patterns.Goals as goal

pub returns-clause-operands : goal.returns-clause-operands
returns-clause-operands g c =
    form_found (g.P.Preds.accepts c.args.matching.now.preds.now) c.args.matching.now.facts.now c.args.matching.now.half (seen c.args.insns.now) c.args.form.now c.args.patterns.now c.condition_of-condition.result.now c.match_insns.result c.requires.has
    c.requires.patterns c.condition_of-condition.ensures c.match_insns.ensures.operands
