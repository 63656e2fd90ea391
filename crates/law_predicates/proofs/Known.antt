-- What is known within the rounds of a description is what is accepted.
use Rattle.std.proofs.Common.{◌≡◌, ℕ, zero, suc, ◌≤◌, Bool, true, false, true≢false}
use Rattle.std.proofs.Common.{◌||◌, List, [], ◌∷◌, Option, Some, None, Result, Ok, Err, map}
use Rattle.std.proofs.Common.{option_map, length, refl, sym, ap, subst, ◌∙◌, arith}
use Rattle.std.specs.Prelude.{◌↔◌, Contains}
use Rattle.std.specs.List.{find, filter_map, list_all}
use Rattle.std.proofs.lemmas.Bool.{and_parts}
use Rattle.rtx_tree.specs.declared.constants.Constant.{Constant}
use Rattle.md_iter.specs.declared.substitution.Instance.{Instance}
use Rattle.md_pattern.specs.declared.reason.Reason.{Reason}
use Rattle.pred_expr.specs.declared.question.Test.{Test}
use Rattle.pred_expr.specs.Test.{predicates_of}
use Rattle.md_draft.specs.declared.head.FormHead.{FormHead}
use Rattle.md_draft.specs.declared.draft.Draft.{Draft}
use Rattle.md_draft.specs.declared.draft.DraftEntry.{DraftEntry}
use Rattle.md_forms.specs.md_tables.declared.tables.PredicateDraft.{PredicateDraft}
use Rattle.md_forms.specs.md_tables.Names.{predicates_named}
use Rattle.md_forms.specs.md_tables.Predicates.{is_own, is_known, is_sound, accepted_within}
use Rattle.md_forms.specs.md_tables.Tables as tables
use Rattle.md_forms.specs.md_tables.Tables.{predicate_draft, tables_of}
use Rattle.md_forms.specs.Forms.{draft_entry}
use Rattle.md_forms.specs.Reasons.{tables_in}
use Rattle.md_operand.specs.declared.built_in.BuiltIn.{BuiltIn}
use Rattle.md_operand.specs.Operand.{built_in_named}
use Rattle.md_pred.proofs.Firsts.{named, Passes, accepted_passes}
use Rattle.md_pred.proofs.Asked.{own_is_named}
use Rattle.law_predicates.specs.Accepted.{IsDefinition, defines, IsAccepted}
use Rattle.law_predicates.proofs.Lists.{each_passes, all_pass}
use Rattle.law_predicates.proofs.Rounds as rounds
use Rattle.law_predicates.proofs.Rounds.{passes_accepted, enough}
use Rattle.law_predicates.proofs.Names.{names_are, head_there}
use Rattle.law_predicates.proofs.Drafts.{draft_with}
use Rattle.law_predicates.proofs.Definitions.{of_definition, is_definition}
use Rattle.law_predicates.proofs.Firsts.{first_draft, found_defines}

or_cases : (a b : Bool) → (a || b) ≡ true → (a ≡ true → ⊥) → b ≡ true
or_cases true b h none = absurd (none refl)
or_cases false b h none = h

or_right : (a b : Bool) → b ≡ true → (a || b) ≡ true
or_right true b h = refl
or_right false b h = h

fewer : {X Y : Type 0} (f : X → Option Y) (xs : List X) → length (filter_map f xs) ≤ length xs
fewer f [] = omega arith
fewer f (x ∷ xs) = by_one (f x) refl (fewer f xs)
  where
    by_one : (o : Option _) → f x ≡ o → length (filter_map f xs) ≤ length xs →
        length (filter_map f (x ∷ xs)) ≤ length (x ∷ xs)
    by_one None is less = rw is (omega (arith, less))
    by_one (Some y) is less = rw is (omega (arith, less))

module _ (constants : List Constant) (forms : List Instance) where
  abbrev ds : List DraftEntry
  ds = map (draft_entry constants) forms

  abbrev ps : List PredicateDraft
  ps = tables.predicates_of ds

  abbrev known : ℕ → List ℕ → Bool
  known k = rounds.known ps k

  abbrev Is : List ℕ → Type 0
  Is = IsAccepted constants forms

  abbrev drafted : Instance → Result Draft Reason
  drafted form = (draft_entry constants form).draft

  -- ---- what is known is accepted

  record Found (name : List ℕ) (first : PredicateDraft) : Type 0 where
    form : Instance
    found : find (defines name) forms ≡ Some form
    is : predicate_draft name (drafted form) ≡ first

  first_found : (name : List ℕ) (first : PredicateDraft) → find (named name) ps ≡ Some first →
      Found name first
  unfolding tables.predicates_of
  first_found name first e = by_form (find (defines name) forms) refl
      (sym (first_draft constants name forms) ∙ e)
    where
      none_some : ◌≡◌ {A = Option PredicateDraft} None (Some first) → ⊥
      none_some h = cc

      some_is : (p q : PredicateDraft) → Some p ≡ Some q → p ≡ q
      some_is p q h = cc

      by_form : (o : Option Instance) → find (defines name) forms ≡ o →
          option_map (λ f. predicate_draft name (drafted f)) o ≡ Some first → Found name first
      by_form None is h = absurd (none_some h)
      by_form (Some form) is h = record {
        form = form;
        found = is;
        is =
            some_is (predicate_draft name (drafted form)) first h;
      }

  module _ (k : ℕ) (before : (used : List ℕ) → known k used ≡ true → Is used) (name : List ℕ) where
    by_draft : (form : Instance) (r : Result Draft Reason) → find (defines name) forms ≡ Some form →
        drafted form ≡ r → is_sound ps (accepted_within k ps) (predicate_draft name r) ≡ true →
        Is name
    by_draft form (Err r) found is sound = absurd (true≢false (sym sound))
    by_draft form (Ok d) found is sound =
        let has = head_there name form (found_defines constants name forms form found) in
        let read = is_definition constants form has.head d has.is has.defines is in
        let names : predicates_named d ≡ predicates_of read.test = ap predicates_named read.draft
        ∙ names_are has.head read.test in
        let all : list_all (known k) (predicates_of read.test) ≡ true =
        ap (list_all (known k)) (sym names)
        ∙ (and_parts true (list_all (known k) (predicates_named d)) sound).1 in
        IsAccepted.defined name form has.head read.test found read.definition
        (λ used c. before used (each_passes (known k) (predicates_of read.test) all used c))

    by_first : Passes (is_sound ps (accepted_within k ps)) ps name → Is name
    by_first p =
        let f = first_found name p.first p.found in
        by_draft f.form (drafted f.form) f.found refl
        (ap (is_sound ps (accepted_within k ps)) f.is ∙ p.passes)

    next_sound : known (suc k) name ≡ true → Is name
    next_sound e = by_own (built_in_named name) refl
      where
        by_own : (o : Option BuiltIn) → built_in_named name ≡ o → Is name
        by_own (Some o) is = IsAccepted.own name o is
        by_own None is =
            by_first (accepted_passes (is_sound ps (accepted_within k ps)) ps name
            (or_cases (is_own name) _ e (own_is_named name is)))

  none_sound : (name : List ℕ) → known 0 name ≡ true → Is name
  none_sound name e = by_own (built_in_named name) refl
    where
      none_passes : Passes (λ d. false) ps name → Is name
      none_passes p = absurd (true≢false (sym p.passes))

      by_own : (o : Option BuiltIn) → built_in_named name ≡ o → Is name
      by_own (Some o) is = IsAccepted.own name o is
      by_own None is =
          none_passes (accepted_passes (λ d. false) ps name
          (or_cases (is_own name) _ e (own_is_named name is)))

  pub sound : (k : ℕ) (name : List ℕ) → known k name ≡ true → Is name
  sound zero name e = none_sound name e
  sound (suc k) name e = next_sound k (sound k) name e

  -- ---- what is accepted is known

  module _ (n : ℕ) (long : length ps ≤ n) where
    own_known : (name : List ℕ) (o : BuiltIn) → built_in_named name ≡ Some o → known n name ≡ true
    own_known name o is = rw is refl

    defined_known : (name : List ℕ) (form : Instance) (h : FormHead) (x : Test) →
        find (defines name) forms ≡ Some form → IsDefinition constants form.tree h x
        → ((used : List ℕ) → Contains (predicates_of x) used → known n used ≡ true) →
        known n name ≡ true
    unfolding tables.predicates_of
    defined_known name form h x first def each =
        let all : list_all (known n) (predicates_named (draft_with h x)) ≡ true =
        ap (list_all (known n)) (names_are h x) ∙ all_pass (known n) (predicates_of x) each in
        let draft : drafted form ≡ Ok (draft_with h x) = of_definition constants form h x def in
        let found : find (named name) ps ≡ Some (predicate_draft name (Ok (draft_with h x))) =
        first_draft constants name forms ∙ ap (option_map (λ f. predicate_draft name (drafted f)))
        first ∙ ap (λ (r : Result Draft Reason). Some (predicate_draft name r)) draft in
        let next : known (suc n) name ≡ true =
        or_right (is_own name) _ (passes_accepted (is_sound ps (accepted_within n ps)) ps name
        (predicate_draft name (Ok (draft_with h x))) found all) in
        subst (λ (flags : List Bool). is_known ps flags name ≡ true) (sym (enough ps n long)) next

    pub complete : (name : List ℕ) → Is name → known n name ≡ true
    complete name (IsAccepted.own _ o is) = own_known name o is
    complete name (IsAccepted.defined _ form h x first def rest) =
        defined_known name form h x first def (λ used c. complete used (rest used c))

  -- ---- the tables

  few : length ps ≤ length ds
  unfolding tables.predicates_of
  few = fewer tables.predicate_of ds

  pub known_is : (name : List ℕ) →
      (is_known (tables_in constants forms).predicates (tables_in constants forms).accepted name
      ≡ true) ↔ Is name
  unfolding tables_of
  known_is name = (sound (length ds) name, complete (length ds) few name)
