-- Units, one name or one form more.
use Rattle.std.proofs.Common.{◌≡◌, ℕ, ◌+◌, ◌<◌, ◌≤◌, List, ◌∷◌, Option, Some, None, length, drop, get_or, refl, sym, ap, ◌∙◌}
use Rattle.std.proofs.lemmas.List.{at_drop_more, at_drop_all}
use Rattle.md_forms.specs.declared.form.Entry.{Entry}
use Rattle.md_dfa.specs.Units.{with_unit, added, with_form, with_forms}

module _ (names all : List (List ℕ)) (i : ℕ) (name : List ℕ) (whole : Option (List (List ℕ))) (within : i < length names) (is : name ≡ get_or names i name) (so_far : added all (drop i names) ≡ whole) where
  here : added all (name ∷ drop (i + 1) names) ≡ whole
  here = sym (at_drop_more (added all) names i name within ∙ ap (λ (n : List ℕ). added all (n ∷ drop (i + 1) names)) (sym is)) ∙ so_far

  -- one name more
  pub added_next : (more : List (List ℕ)) → with_unit all name ≡ Some more → added more (drop (i + 1) names) ≡ whole
  added_next more e = sym (rw e refl) ∙ here

  -- one for which there is no room
  pub added_stops : with_unit all name ≡ None → whole ≡ None
  added_stops e = sym here ∙ rw e refl

-- all names
pub added_ends : (names all : List (List ℕ)) (i : ℕ) (whole : Option (List (List ℕ))) → length names ≤ i → added all (drop i names) ≡ whole → whole ≡ Some all
added_ends names all i whole end so_far = sym so_far ∙ at_drop_all (added all) names i end

-- ---- forms

-- one form more
pub form_next : (forms : List Entry) (units more : List (List ℕ)) (i : ℕ) (form : Entry) (whole : List (List ℕ)) → i < length forms → form ≡ get_or forms i form
    → with_forms units (drop i forms) ≡ whole → more ≡ with_form units form → with_forms more (drop (i + 1) forms) ≡ whole
form_next forms units more i form whole within is so_far made =
    rw made (sym (at_drop_more (with_forms units) forms i form within
    ∙ ap (λ (f : Entry). with_forms units (f ∷ drop (i + 1) forms)) (sym is)) ∙ so_far)

-- all forms
pub form_ends : (forms : List Entry) (units : List (List ℕ)) (i : ℕ) (whole : List (List ℕ)) → length forms ≤ i → with_forms units (drop i forms) ≡ whole → units ≡ whole
form_ends forms units i whole end so_far = sym (at_drop_all (with_forms units) forms i end) ∙ so_far
