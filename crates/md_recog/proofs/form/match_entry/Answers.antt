use Rattle.md_match.proofs.Seen.{seen}
use Rattle.md_recog.proofs.Forms.{entry_found}
use Rattle.md_recog.proofs.form.match_entry.Goals as goal

pub returns-in-Ok-clause-operands : goal.returns-in-Ok-clause-operands
returns-in-Ok-clause-operands g c =
    entry_found (g.P.Preds.accepts c.args.matching.now.preds.now) c.args.matching.now.facts.now c.args.matching.now.half (seen c.args.insns.now) c.args.entry.now c.in-Ok.form c.match_form.result c.in-Ok.is c.match_form.ensures.operands
