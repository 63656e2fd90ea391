-- The first definition of a name: as a tree, as a draft and as a form.
use Rattle.std.proofs.Common.{◌≡◌, ℕ, Bool, true, false, cond, List, [], ◌∷◌, Option, Some}
use Rattle.std.proofs.Common.{None, Result, Ok, Err, map, option_map, refl, sym, ap, ◌∙◌}
use Rattle.std.specs.List.{find, filter_map}
use Rattle.std.specs.Str.{bytes_eq}
use Rattle.rtx_tree.specs.declared.constants.Constant.{Constant}
use Rattle.lisp_read.specs.Shape.{items_of}
use Rattle.md_iter.specs.declared.substitution.Instance.{Instance}
use Rattle.md_pattern.specs.declared.reason.Reason.{Reason}
use Rattle.md_draft.specs.declared.draft.Draft.{Draft}
use Rattle.md_draft.specs.declared.draft.DraftEntry.{DraftEntry}
use Rattle.md_draft.specs.Draft.{name_in}
use Rattle.md_draft.specs.Reasons.{head_of}
use Rattle.md_forms.specs.declared.form.Entry.{Entry}
use Rattle.md_forms.specs.md_tables.declared.tables.PredicateDraft.{PredicateDraft}
use Rattle.md_forms.specs.md_tables.declared.tables.Tables.{Tables}
use Rattle.md_forms.specs.md_tables.Tables.{defines_predicate, predicate_draft, predicate_of}
use Rattle.md_forms.specs.Forms.{draft_entry, finished}
use Rattle.name_places.proofs.TextKeys.{same_text}
use Rattle.md_pred.specs.Holds as holds
use Rattle.md_pred.proofs.Firsts.{named}
use Rattle.law_predicates.specs.Accepted.{defines}
use Rattle.law_predicates.proofs.Definitions.{head_is, name_is}

draft_name : (name : List ℕ) (r : Result Draft Reason) → (predicate_draft name r).name ≡ name
draft_name name (Ok d) = refl
draft_name name (Err r) = refl

module _ (constants : List Constant) (name : List ℕ) where
  abbrev entry : Instance → DraftEntry
  entry = draft_entry constants

  -- ---- as a form

  module _ (tables : Tables) where
    defines_same : (form : Instance) →
        holds.defines name (finished tables (entry form)) ≡ defines name form
    defines_same form = rw (head_is constants form) (rw (name_is constants form) refl)

    abbrev made : Instance → Entry
    made form = finished tables (entry form)

    abbrev FindsMade : List Instance → Type 0
    FindsMade fs =
        find (holds.defines name) (map (finished tables) (map entry fs))
        ≡ option_map made (find (defines name) fs)

    pub first_form : (forms : List Instance) → FindsMade forms
    first_form [] = refl
    first_form (f ∷ fs) = by_test (defines name f) refl (first_form fs)
      where
        by_test : (b : Bool) → defines name f ≡ b → FindsMade fs → FindsMade (f ∷ fs)
        by_test true is rest = rw (defines_same f ∙ is) (rw is refl)
        by_test false is rest = rw (defines_same f ∙ is) (rw is rest)

  -- ---- as a draft

  abbrev kept : Instance → PredicateDraft
  kept form = predicate_draft name (entry form).draft

  abbrev FindsKept : List Instance → Type 0
  FindsKept fs =
      find (named name) (filter_map predicate_of (map entry fs))
      ≡ option_map kept (find (defines name) fs)

  pub first_draft : (forms : List Instance) → FindsKept forms
  first_draft [] = refl
  first_draft (f ∷ fs) = by_head (defines_predicate (head_of f.tree)) refl (first_draft fs)
    where
      by_test : (own : List ℕ) (b : Bool) → defines_predicate (head_of f.tree) ≡ true →
          name_in (items_of f.tree) ≡ Some own → bytes_eq own name ≡ b → FindsKept fs → FindsKept (f ∷ fs)
      by_test own true is there same rest =
          let text : own ≡ name = same_text own name same in
          rw (head_is constants f) (rw (name_is constants f)
          (rw is
          (rw there (rw (draft_name own (entry f).draft)
          (rw same (ap (λ (n : List ℕ). Some (predicate_draft n (entry f).draft)) text))))))
      by_test own false is there same rest =
          rw (head_is constants f) (rw (name_is constants f)
          (rw is (rw there (rw (draft_name own (entry f).draft) (rw same rest)))))

      by_name : (o : Option (List ℕ)) → defines_predicate (head_of f.tree) ≡ true →
          name_in (items_of f.tree) ≡ o → FindsKept fs → FindsKept (f ∷ fs)
      by_name None is there rest = rw (head_is constants f)
          (rw (name_is constants f) (rw is (rw there rest)))
      by_name (Some own) is there rest = by_test own (bytes_eq own name) is there refl rest

      by_head : (b : Bool) → defines_predicate (head_of f.tree) ≡ b → FindsKept fs → FindsKept (f ∷ fs)
      by_head true is rest = by_name (name_in (items_of f.tree)) is refl rest
      by_head false is rest = rw (head_is constants f) (rw is rest)

  -- ---- what is found

  pub found_defines : (forms : List Instance) (form : Instance) →
      find (defines name) forms ≡ Some form → defines name form ≡ true
  found_defines [] form is = absurd (none_some is)
    where
      none_some : ◌≡◌ {A = Option Instance} None (Some form) → ⊥
      none_some e = cc
  found_defines (f ∷ fs) form is = by_test (defines name f) refl (found_defines fs form) is
    where
      some_is : (x y : Instance) → Some x ≡ Some y → x ≡ y
      some_is x y e = cc

      by_test : (b : Bool) → defines name f ≡ b →
          (find (defines name) fs ≡ Some form → defines name form ≡ true)
          → cond b (Some f) (find (defines name) fs) ≡ Some form → defines name form ≡ true
      by_test true here rest e = ap (defines name) (sym (some_is f form e)) ∙ here
      by_test false here rest e = rest e
