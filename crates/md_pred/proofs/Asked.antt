-- What a form that is accepted asks for.
use Rattle.std.proofs.Common.{◌≡◌, ℕ, Bool, true, false, cond, not, List, Option, Some, None, Result, Ok, Err, refl, sym, ap, ◌∙◌}
use Rattle.std.specs.List.{flat_map, list_all}
use Rattle.std.specs.Option.{is_some}
use Rattle.md_forms.specs.md_pattern.declared.reason.Reason.{Reason}
use Rattle.md_forms.specs.md_pattern.declared.reason.Reason.TheVariants as reason
use Rattle.md_forms.specs.md_draft.declared.draft.Draft.{Draft}
use Rattle.md_forms.specs.declared.form.Form.{Form}
use Rattle.md_forms.specs.md_tables.declared.tables.Tables.{Tables}
use Rattle.md_forms.specs.md_tables.Names.{predicates_in, predicates_called, predicates_tested, predicates_named}
use Rattle.md_forms.specs.md_tables.Predicates.{is_own}
use Rattle.md_forms.specs.Checks.{predicates_known, reason_of, constraints_of, form_with, unless, form_of}
use Rattle.md_operand.specs.Operand.{built_in_named}
use Rattle.md_pred.proofs.Agreeing.{both_parts}

abbrev Judgement : Type 0
Judgement = Result Form Reason

aside : (r : Reason) (f : Form) (g : Judgement) → g ≡ Err r → g ≡ Ok f → ⊥
aside r f g e h = cc

some_none : (r : Reason) → Some r ≡ None → ⊥
some_none r e = cc

same_form : (f g : Form) (a b : Judgement) → a ≡ Ok f → b ≡ Ok g → a ≡ b → f ≡ g
same_form f g a b d e h = cc

-- a reason that is not the first found is none
known_if : (b : Bool) (rest : Option Reason) → cond (not b) (Some reason.Predicate) rest ≡ None → b ≡ true
known_if true rest h = refl
known_if false rest h = absurd (some_none reason.Predicate h)

-- its predicates are known, and its test is the draft's
pub record IsAccepted (tables : Tables) (d : Draft) (f : Form) : Type 0 where
  pub known : predicates_known tables d ≡ true
  pub test : f.test ≡ d.defined.test

pub accepted : (tables : Tables) (d : Draft) (f : Form) → form_of tables d ≡ Ok f → IsAccepted tables d f
unfolding form_of
accepted tables d f e = by_reason (reason_of tables d) refl e
  where
    made : Form
    made = form_with d (constraints_of tables d)

    by_reason : (o : Option Reason) → reason_of tables d ≡ o → unless o made ≡ Ok f → IsAccepted tables d f
    by_reason None is h = record {
      known = known_if (predicates_known tables d) _ is;
      test = sym (ap (λ (g : Form). g.test) (same_form made f (Ok made) (Ok f) refl refl h));
    }
    by_reason (Some r) is h = absurd (aside r f (Err r) refl h)

-- what its test names is named by the draft
pub tested_named : (p : List ℕ → Bool) (d : Draft) → list_all p (predicates_named d) ≡ true → list_all p (predicates_tested d.defined.test) ≡ true
unfolding predicates_named
tested_named p d all =
    let a = both_parts p (flat_map predicates_in d.matched.patterns.trees) _ all in
    let b = both_parts p (flat_map predicates_in d.replacement.sequence.trees) _ a.1 in
    let c = both_parts p (predicates_called d.matched.condition) _ b.1 in
    let e = both_parts p (predicates_called d.replacement.split_condition) _ c.1 in
    (both_parts p (predicates_called d.replacement.statements) (predicates_tested d.defined.test) e.1).1

-- ---- the predicates that every description has

pub own_is_named : (name : List ℕ) → built_in_named name ≡ None → is_own name ≡ true → ⊥
own_is_named name none own = false_true (ap is_some (sym none) ∙ own)
  where
    false_true : false ≡ true → ⊥
    false_true e = cc
