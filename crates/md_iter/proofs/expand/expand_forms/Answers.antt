use Rattle.std.proofs.lemmas.Result.{err_from_is_err_and}
use Rattle.md_iter.proofs.Refused.{refused}
use Rattle.md_iter.proofs.expand.expand_forms.Goals as goal

pub returns-in_err-forms : goal.returns-in_err-forms
returns-in_err-forms c =
    let p = err_from_is_err_and c.from_residual-in_err-forms.result c.from_residual-in_err-forms.ensures.1 in
    rw (p.1, p.2) (refused c.in_ok-definitions.definitions c.args.trees.now c.in_err-forms.field-0.0 c.in_ok-definitions.ensures c.in_err-forms.ensures)
