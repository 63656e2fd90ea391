-- The first form that defines a predicate, and what was kept of it while the forms were checked.
use Rattle.std.proofs.Common.{◌≡◌, ℕ, Bool, true, false, List, [], ◌∷◌, Option, Some, None, Result, Ok, Err, map, position, slice_get, option_map, unwrap_or, option_and_then, refl, sym, ap, ◌∙◌}
use Rattle.std.specs.List.{find, filter_map}
use Rattle.std.specs.Str.{bytes_eq}
use Rattle.std.proofs.lemmas.Option.{slice_get-map}
use Rattle.md_forms.specs.md_pattern.declared.reason.Reason.{Reason}
use Rattle.md_forms.specs.md_draft.declared.draft.Draft.{Draft}
use Rattle.md_forms.specs.md_draft.declared.draft.DraftEntry.{DraftEntry}
use Rattle.md_forms.specs.md_draft.Head.{head_named}
use Rattle.md_forms.specs.declared.form.Entry.{Entry}
use Rattle.md_forms.specs.md_tables.declared.tables.PredicateDraft.{PredicateDraft}
use Rattle.md_forms.specs.md_tables.declared.tables.Tables.{Tables}
use Rattle.md_forms.specs.md_tables.Tables.{defines_predicate, predicate_draft, predicate_of}
use Rattle.md_forms.specs.md_tables.Predicates.{is_accepted}
use Rattle.md_forms.specs.Forms.{judged_form, finished}
use Rattle.name_places.proofs.FirstNames.{find_at_place}
use Rattle.md_pred.specs.Holds.{defines}

abbrev pub named : List ℕ → PredicateDraft → Bool
named name p = bytes_eq p.name name

-- ---- an accepted one

none_true : false ≡ true → ⊥
none_true e = cc

-- the first definition of a name is there, and passes what the accepted pass
pub record Passes (f : PredicateDraft → Bool) (ps : List PredicateDraft) (name : List ℕ) : Type 0 where
  pub first : PredicateDraft
  pub found : find (named name) ps ≡ Some first
  pub passes : f first ≡ true

pub accepted_passes : (f : PredicateDraft → Bool) (ps : List PredicateDraft) (name : List ℕ) → is_accepted ps (map f ps) name ≡ true → Passes f ps name
accepted_passes f ps name e = by_place (position (named name) ps) refl e
  where
    by_first : (at : ℕ) (o : Option PredicateDraft) → position (named name) ps ≡ Some at → slice_get ps at ≡ o → unwrap_or (option_map f o) false ≡ true → Passes f ps name
    by_first at (Some p) is there e = record { first = p; found = find_at_place (named name) ps at is ∙ there; passes = e }
    by_first at None is there e = absurd (none_true e)

    by_place : (o : Option ℕ) → position (named name) ps ≡ o → unwrap_or (option_and_then (slice_get (map f ps)) o) false ≡ true → Passes f ps name
    by_place None is e = absurd (none_true e)
    by_place (Some at) is e = by_first at (slice_get ps at) is refl (ap (λ (o : Option Bool). unwrap_or o false) (sym (slice_get-map f ps at)) ∙ e)

-- ---- the form

draft_name : (own : List ℕ) (r : Result Draft Reason) → (predicate_draft own r).name ≡ own
draft_name own (Ok d) = refl
draft_name own (Err r) = refl

-- what was kept, and the form, are those of one draft
pub record AreOf (tables : Tables) (p : PredicateDraft) (e : Entry) : Type 0 where
  pub draft : DraftEntry
  pub own : List ℕ
  pub kept : p ≡ predicate_draft own draft.draft
  pub form : e.form ≡ judged_form tables draft.draft

abbrev pub Linked : Tables → Option PredicateDraft → Option Entry → Type 0
Linked tables None None = Unit {0}
Linked tables (Some p) (Some e) = AreOf tables p e
Linked tables _ _ = ⊥

pub linked : (tables : Tables) (name : List ℕ) (ds : List DraftEntry) → Linked tables (find (named name) (filter_map predicate_of ds)) (find (defines name) (map (finished tables) ds))
linked tables name [] = tt
linked tables name (d ∷ ds) = by_head (defines_predicate (head_named d.head)) refl (linked tables name ds)
  where
    by_test : (own : List ℕ) (b : Bool) → defines_predicate (head_named d.head) ≡ true → d.name ≡ Some own → bytes_eq own name ≡ b
        → Linked tables (find (named name) (filter_map predicate_of ds)) (find (defines name) (map (finished tables) ds))
        → Linked tables (find (named name) (filter_map predicate_of (d ∷ ds))) (find (defines name) (map (finished tables) (d ∷ ds)))
    by_test own true is there same rest = rw is (rw there (rw (draft_name own d.draft) (rw same (record { draft = d; own = own; kept = refl; form = refl }))))
    by_test own false is there same rest = rw is (rw there (rw (draft_name own d.draft) (rw same rest)))

    by_name : (o : Option (List ℕ)) → defines_predicate (head_named d.head) ≡ true → d.name ≡ o
        → Linked tables (find (named name) (filter_map predicate_of ds)) (find (defines name) (map (finished tables) ds))
        → Linked tables (find (named name) (filter_map predicate_of (d ∷ ds))) (find (defines name) (map (finished tables) (d ∷ ds)))
    by_name None is there rest = rw is (rw there rest)
    by_name (Some own) is there rest = by_test own (bytes_eq own name) is there refl rest

    by_head : (b : Bool) → defines_predicate (head_named d.head) ≡ b
        → Linked tables (find (named name) (filter_map predicate_of ds)) (find (defines name) (map (finished tables) ds))
        → Linked tables (find (named name) (filter_map predicate_of (d ∷ ds))) (find (defines name) (map (finished tables) (d ∷ ds)))
    by_head true is rest = by_name d.name is refl rest
    by_head false is rest = rw is rest
