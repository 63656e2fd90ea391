-- The forms of one tree, one choice of values after the other.
use Rattle.std.proofs.Common.{◌≡◌, ℕ, ◌+◌, ◌-◌, ◌<◌, ◌≤◌, ◌^◌, List, [], ◌∷◌, ◌++◌, Some, map, length, take, min, slice_get, sym, ap, subst, ◌∙◌, append_assoc, arith}
use Rattle.std.proofs.lemmas.List.{map-append, take_all, take_more}
use Rattle.std.proofs.lemmas.Option.{get_or_from_slice_get, slice_get_within}
use Rattle.std.specs.Borrow.{Bor}
use Rattle.lisp_read.specs.declared.tree.Tree.{Tree}
use Rattle.md_iter.specs.declared.definition.FormIterator.{FormIterator}
use Rattle.md_iter.specs.declared.definition.Definitions.{Definitions}
use Rattle.md_iter.specs.declared.choice.Choice.{Choice}
use Rattle.md_iter.specs.Choice.{Chosen, chosen_of, choices, choice_count, iterators_of, lent}
use Rattle.md_iter.specs.declared.substitution.Instance.{Instance}
use Rattle.md_iter.specs.Substitution.{form_under}
use Rattle.md_iter.specs.Expansion.{forms_of_form}
use Rattle.rtx_tree.specs.Limit.{most_forms}
use Rattle.md_iter.proofs.Counts.{length_choices, length_map}

module _ (definitions : Definitions) (form : Tree) (used lent_used : List (Bor FormIterator)) (count : ℕ) (lists : lent used ≡ iterators_of definitions.iterators form) (same : lent_used ≡ used) (counts : count ≡ min (choice_count (lent lent_used)) (2 ^ 64 - 1)) where
  counted : count ≡ min (choice_count (lent used)) (2 ^ 64 - 1)
  counted = counts ∙ ap (λ is. min (choice_count (lent is)) (2 ^ 64 - 1)) same

  -- as many forms as choices
  length_forms : length (forms_of_form definitions form) ≡ choice_count (lent used)
  length_forms = length_map (form_under definitions form) (choices (iterators_of definitions.iterators form)) ∙ length_choices (iterators_of definitions.iterators form) ∙ ap choice_count (sym lists)

  pub too_many : (n : ℕ) → n ≤ most_forms → most_forms - n < count → most_forms < n + length (forms_of_form definitions form)
  too_many n few many = rw length_forms (omega (arith, counted, few, many))

  -- one form more
  pub form_next : (old before now : List Instance) (at : ℕ) (again : List (Bor FormIterator)) (choice lent_choice : List Choice) (x : Instance) → again ≡ used → slice_get (choices (lent again)) at ≡ Some (map chosen_of choice) → lent_choice ≡ choice → x ≡ form_under definitions form (map chosen_of lent_choice) → now ≡ before ++ x ∷ [] →
      before ≡ old ++ map (form_under definitions form) (take at (choices (iterators_of definitions.iterators form))) → now ≡ old ++ map (form_under definitions form) (take (at + 1) (choices (iterators_of definitions.iterators form)))
  form_next old before now at again choice lent_choice x same_again found same_choice made added h =
      let chosen : List Chosen = map chosen_of choice in
      let cs : List (List Chosen) = choices (iterators_of definitions.iterators form) in
      let here : slice_get cs at ≡ Some chosen = subst (λ is. slice_get (choices is) at ≡ Some chosen) (ap lent same_again ∙ lists) found in
      let more : take (at + 1) cs ≡ take at cs ++ chosen ∷ [] = take_more cs at chosen (slice_get_within cs at chosen here) ∙ ap (λ c. take at cs ++ c ∷ []) (get_or_from_slice_get cs at chosen chosen here) in
      added
      ∙ ap (λ xs. xs ++ x ∷ []) h
      ∙ append_assoc old (map (form_under definitions form) (take at cs)) (x ∷ [])
      ∙ ap (λ y. old ++ (map (form_under definitions form) (take at cs) ++ y ∷ [])) (made ∙ ap (λ c. form_under definitions form (map chosen_of c)) same_choice)
      ∙ ap (λ xs. old ++ xs) (sym (map-append (form_under definitions form) (take at cs) (chosen ∷ [])))
      ∙ ap (λ xs. old ++ map (form_under definitions form) xs) (sym more)

  -- all forms
  pub forms_end : (old now : List Instance) (at : ℕ) → count ≤ most_forms → count ≤ at →
      now ≡ old ++ map (form_under definitions form) (take at (choices (iterators_of definitions.iterators form))) → now ≡ old ++ forms_of_form definitions form
  forms_end old now at few end h =
      let many : length (choices (iterators_of definitions.iterators form)) ≡ choice_count (lent used) = length_choices (iterators_of definitions.iterators form) ∙ ap choice_count (sym lists) in
      h ∙ ap (λ xs. old ++ map (form_under definitions form) xs) (take_all at (choices (iterators_of definitions.iterators form)) (omega (arith, many, counted, few)))
