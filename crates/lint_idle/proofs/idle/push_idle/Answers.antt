use Rattle.std.proofs.Common.{◌≡◌, List, Option, None, slice_get, subst}
use Rattle.std.proofs.lemmas.Option.{slice_get_past}
use Rattle.md_text.specs.declared.constraint.Alternative.{Alternative}
use Rattle.lint_idle.proofs.IdleLaws.{absent}
use Rattle.lint_idle.proofs.idle.push_idle.Goals as goal

pub returns-in-None : goal.returns-in-None
returns-in-None c =
    absent c.args.description.now c.args.tried.now c.args.alternative c.args.constraint.now c.args.out.now
    (subst (λ (xs : List Alternative). ◌≡◌ {A = Option Alternative} (slice_get xs c.args.alternative) None) c.as_slice.ensures.value
    (slice_get_past c.as_slice.result.now c.args.alternative c.in-None.ensures.lookup.3))
