use Rattle.std.proofs.Common.{◌≡◌, List, None, sym, subst, ◌∙◌}
use Rattle.md_desc.specs.md_forms.declared.form.Entry.{Entry}
use Rattle.md_desc.specs.md_attr.Alternatives.{form_at}
use Rattle.lint_told.proofs.ToldLaws.{none_tried}
use Rattle.lint_told.proofs.told.told_of.Goals as goal

pub returns-in-None : goal.returns-in-None
returns-in-None c =
    let none : form_at c.args.description.now c.args.form ≡ None =
    subst (λ (forms : List Entry). form_at forms c.args.form ≡ None) (c.as_slice.ensures.value ∙ c.forms.ensures.forms) (sym c.in-None.ensures) in
    none_tried c.args.description.now c.args.tested.now c.args.form c.args.alternative none
