use Rattle.std.proofs.Common.{◌≡◌, Some, refl, subst}
use Rattle.std.specs.Prelude.{slice_get}
use Rattle.std.proofs.lemmas.Option.{slice_get_read}
use Rattle.md_match.proofs.Seen.{seen}
use Rattle.md_recog.specs.Recog.{EntryMatches}
use Rattle.md_recog.proofs.Forms.{Found}
use Rattle.md_recog.proofs.First.{here_some, here_none}
use Rattle.md_recog.proofs.recog.match_at.Goals as goal

pub returns-in-Some-clause-here : goal.returns-in-Some-clause-here
returns-in-Some-clause-here g c =
    let a = g.P.Preds.accepts c.args.matching.now.preds.now in
    let e = c.index-forms-form.result in
    let read : slice_get c.args.forms.now c.args.form ≡ Some e = slice_get_read c.args.forms.now _ c.args.form e refl c.requires c.index-forms-form.is in
    here_some a c.args.matching.now.facts.now c.args.matching.now.half (seen c.args.insns.now) c.args.forms.now c.args.form e c.in-Some.operands read
    (subst (Found a c.args.matching.now.facts.now c.args.matching.now.half (seen c.args.insns.now) (EntryMatches a c.args.matching.now.facts.now c.args.matching.now.half (seen c.args.insns.now) e)) c.in-Some.is c.in_ok-operands.ensures.operands)

pub returns-in-None-clause-here : goal.returns-in-None-clause-here
returns-in-None-clause-here g c =
    let a = g.P.Preds.accepts c.args.matching.now.preds.now in
    let e = c.index-forms-form.result in
    let read : slice_get c.args.forms.now c.args.form ≡ Some e = slice_get_read c.args.forms.now _ c.args.form e refl c.requires c.index-forms-form.is in
    here_none a c.args.matching.now.facts.now c.args.matching.now.half (seen c.args.insns.now) c.args.forms.now c.args.form e read
    (subst (Found a c.args.matching.now.facts.now c.args.matching.now.half (seen c.args.insns.now) (EntryMatches a c.args.matching.now.facts.now c.args.matching.now.half (seen c.args.insns.now) e)) c.in-None.is c.in_ok-operands.ensures.operands)
