-- The groups of forms, one after the other.
use Rattle.std.proofs.Common.{◌≡◌, ℕ, ◌+◌, ◌<◌, List, ◌++◌, length, drop, get_or, sym, ap, ◌∙◌, append_assoc}
use Rattle.md_desc.specs.md_forms.declared.form.Entry.{Entry}
use Rattle.lint_choices.proofs.PushedLaws.{opened}
use Rattle.lint_groups.specs.declared.group.Group.{Group}
use Rattle.lint_groups.specs.Groups.{form_groups, forms_groups}

pub forms_next : (es : List Entry) (i : ℕ) (e : Entry) (form next : ℕ) (out more whole : List Group) → i < length es → e ≡ get_or es i e → next ≡ form + 1 →
    more ≡ out ++ form_groups form e.form → out ++ forms_groups form (drop i es) ≡ whole → more ++ forms_groups next (drop (i + 1) es) ≡ whole
forms_next es i e form next out more whole within here is made h =
    rw (made, is) (append_assoc out (form_groups form e.form) (forms_groups (form + 1) (drop (i + 1) es)) ∙ (sym (ap (λ (ds : List Entry). out ++ forms_groups form ds) (opened es i e within here)) ∙ h))
