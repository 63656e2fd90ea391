-- The definitions of a description tell what its predicates accept.
use Rattle.std.proofs.Common.{◌≡◌, ℕ, zero, suc, ◌+◌, ◌≤◌, Bool, true, false, ◌&&◌, ◌||◌, List, Option, Some, None, Result, Ok, Err, length, refl, sym, ap, subst, ◌∙◌, arith}
use Rattle.std.specs.List.{find, list_all}
use Rattle.std.proofs.lemmas.Bool.{and_parts}
use Rattle.std.proofs.lemmas.List.{length-map}
use Rattle.rtx_tree.specs.declared.code.Mode.{Mode}
use Rattle.rtx_tree.specs.declared.tree.Rtx.{Rtx}
use Rattle.md_forms.specs.md_pattern.declared.reason.Reason.{Reason}
use Rattle.pred_expr.specs.declared.question.Test.{Test}
use Rattle.md_forms.specs.md_draft.declared.draft.Draft.{Draft}
use Rattle.md_forms.specs.md_draft.declared.draft.DraftEntry.{DraftEntry}
use Rattle.md_forms.specs.declared.form.Form.{Form}
use Rattle.md_forms.specs.declared.form.Entry.{Entry}
use Rattle.md_forms.specs.md_tables.declared.tables.PredicateDraft.{PredicateDraft}
use Rattle.md_forms.specs.md_tables.Names.{predicates_named, predicates_tested}
use Rattle.md_forms.specs.md_tables.Predicates.{is_own, is_accepted, is_known, is_sound, accepted_within}
use Rattle.md_forms.specs.md_tables.Tables.{predicates_of, predicate_draft, tables_of}
use Rattle.md_forms.specs.Checks.{form_of, predicates_known}
use Rattle.md_forms.specs.Forms.{judged_form, finished, forms_in}
use Rattle.md_operand.specs.declared.built_in.BuiltIn.{BuiltIn}
use Rattle.md_operand.specs.Operand.{built_in_named}
use Rattle.pred_rows.specs.Tests.{Accepts}
use Rattle.md_pred.specs.Holds.{mode_fits, tested, form_holds, definition_holds, defines, defined, own_or, within, holds, AreDefined, IsTold}
use Rattle.md_pred.proofs.Agreeing.{AgreeOn, same_test}
use Rattle.md_pred.proofs.Firsts.{named, Passes, accepted_passes, Linked, linked}
use Rattle.md_pred.proofs.Asked.{accepted, tested_named, own_is_named}

none_true : false ≡ true → ⊥
none_true e = cc

or_cases : (a b : Bool) → (a || b) ≡ true → (a ≡ true → ⊥) → b ≡ true
or_cases true b h none = absurd (none refl)
or_cases false b h none = h

some_is : (a b : PredicateDraft) → Some a ≡ Some b → a ≡ b
some_is a b e = cc

tested_same : (p : List ℕ → Bool) (a b : Accepts) → AgreeOn p a b → (x : Rtx) (m : Mode) (o : Option Test) → list_all p (predicates_tested o) ≡ true → tested a x m o ≡ tested b x m o
tested_same p a b agree x m None all = refl
tested_same p a b agree x m (Some t) all = same_test p a b agree x m t all

-- a predicate that the manual has answers itself
own_agree : (name : List ℕ) (x : Rtx) (m : Mode) (u v : Bool) → (built_in_named name ≡ None → u ≡ v) → own_or (built_in_named name) m x u ≡ own_or (built_in_named name) m x v
own_agree name x m u v same = by_own (built_in_named name) refl
  where
    by_own : (o : Option BuiltIn) → built_in_named name ≡ o → own_or o m x u ≡ own_or o m x v
    by_own None is = same is
    by_own (Some o) is = refl

module _ (ds : List DraftEntry) where
  abbrev ps : List PredicateDraft
  ps = predicates_of ds

  -- the predicates that are known within so many rounds
  abbrev known : ℕ → List ℕ → Bool
  known k = is_known ps (accepted_within k ps)

  abbrev define : Accepts → Accepts
  define = defined (forms_in ds)

  -- a form asks for predicates that are known within so many rounds
  abbrev Asks : ℕ → List ℕ → Type 0
  Asks k name = (own : List ℕ) (d : Draft) (f : Form) → find (named name) ps ≡ Some (predicate_draft own (Ok d)) → form_of (tables_of ds) d ≡ Ok f → list_all (known k) (predicates_named d) ≡ true

  first_linked : (name : List ℕ) → Linked (tables_of ds) (find (named name) ps) (find (defines name) (forms_in ds))
  unfolding predicates_of
  first_linked name = linked (tables_of ds) name ds

  -- it accepts the same by two that agree on these
  form_same : (k : ℕ) (a b : Accepts) → AgreeOn (known k) a b → (name : List ℕ) → Asks k name → (x : Rtx) (m : Mode) → define a name x m ≡ define b name x m
  form_same k a b agree name asks x m = by_first (find (named name) ps) refl (find (defines name) (forms_in ds)) (first_linked name)
    where
      by_form : (own : List ℕ) (d : Draft) → find (named name) ps ≡ Some (predicate_draft own (Ok d)) → (r : Result Form Reason) → form_of (tables_of ds) d ≡ r → form_holds a x m r ≡ form_holds b x m r
      by_form own d is (Err r) e = refl
      by_form own d is (Ok f) e =
          let all : list_all (known k) (predicates_tested f.test) ≡ true = rw (accepted (tables_of ds) d f e).test (tested_named (known k) d (asks own d f is e)) in
          ap (λ (c : Bool). mode_fits f.head m x && c) (tested_same (known k) a b agree x m f.test all)

      by_draft : (own : List ℕ) (r : Result Draft Reason) → find (named name) ps ≡ Some (predicate_draft own r) → form_holds a x m (judged_form (tables_of ds) r) ≡ form_holds b x m (judged_form (tables_of ds) r)
      by_draft own (Err r) is = refl
      by_draft own (Ok d) is = by_form own d is (form_of (tables_of ds) d) refl

      by_first : (o : Option PredicateDraft) → find (named name) ps ≡ o → (e : Option Entry) → Linked (tables_of ds) o e → definition_holds a x m e ≡ definition_holds b x m e
      by_first None is None link = refl
      by_first (Some p) is (Some e) link =
          subst (λ (r : Result Form Reason). form_holds a x m r ≡ form_holds b x m r) (sym link.form)
          (by_draft link.own link.draft.draft (is ∙ ap (λ (q : PredicateDraft). Some q) link.kept))
      by_first None is (Some e) link = absurd link
      by_first (Some p) is None link = absurd link

  -- what an accepted definition asks for was known one round before
  asks_known : (k : ℕ) (name : List ℕ) → is_accepted ps (accepted_within (suc k) ps) name ≡ true → Asks k name
  asks_known k name h own d f is e =
      let first : Passes (is_sound ps (accepted_within k ps)) ps name = accepted_passes (is_sound ps (accepted_within k ps)) ps name h in
      let same : first.first ≡ predicate_draft own (Ok d) = some_is first.first (predicate_draft own (Ok d)) (sym first.found ∙ is) in
      let sound : is_sound ps (accepted_within k ps) (predicate_draft own (Ok d)) ≡ true = subst (λ (p : PredicateDraft). is_sound ps (accepted_within k ps) p ≡ true) same first.passes in
      (and_parts true (list_all (known k) (predicates_named d)) sound).1

  -- and what any form asks for in the end
  asks_all : (name : List ℕ) → Asks (length ds) name
  unfolding predicates_known tables_of
  asks_all name own d f is e = (accepted (tables_of ds) d f e).known

  -- within no round none is accepted
  none_first : (name : List ℕ) → known 0 name ≡ true → built_in_named name ≡ None → ⊥
  none_first name h none =
      let first : Passes (λ d. false) ps name = accepted_passes (λ d. false) ps name (or_cases (is_own name) _ h (own_is_named name none)) in
      none_true first.passes

  again : (k : ℕ) (name : List ℕ) → known (suc k) name ≡ true → built_in_named name ≡ None → Asks k name
  again k name h none = asks_known k name (or_cases (is_own name) _ h (own_is_named name none))

  -- more rounds change nothing
  stable : (k r s : ℕ) → k ≤ r → k ≤ s → AgreeOn (known k) (within define r) (within define s)
  stable zero r s lr ls name h x m = own_agree name x m _ _ (λ none. absurd (none_first name h none))
  stable (suc k) zero s lr ls name h x m = absurd (omega (arith, lr))
  stable (suc k) (suc r) zero lr ls name h x m = absurd (omega (arith, ls))
  stable (suc k) (suc r) (suc s) lr ls name h x m =
      own_agree name x m _ _ (λ none. form_same k (within define r) (within define s) (stable k r s (omega (arith, lr)) (omega (arith, ls))) name (again k name h none) x m)

  -- and anything that is defined so is that
  agree : (other : Accepts) → AreDefined (forms_in ds) other → (k r : ℕ) → k ≤ r → AgreeOn (known k) other (within define r)
  agree other so zero r lr name h x m = so name x m ∙ own_agree name x m _ _ (λ none. absurd (none_first name h none))
  agree other so (suc k) zero lr name h x m = absurd (omega (arith, lr))
  agree other so (suc k) (suc r) lr name h x m =
      so name x m ∙ own_agree name x m _ _ (λ none. form_same k other (within define r) (agree other so k r (omega (arith, lr))) name (again k name h none) x m)

  told_within : (n : ℕ) → length ds ≤ n → IsTold (forms_in ds) (within define (suc n))
  told_within n enough = record {
    defined_so = λ name x m. own_agree name x m _ _ (λ none.
        form_same (length ds) (within define n) (within define (suc n)) (stable (length ds) n (suc n) enough (omega (arith, enough))) name (asks_all name) x m);
    alone = λ other so name x m. so name x m ∙ own_agree name x m _ _ (λ none.
        form_same (length ds) other (within define n) (agree other so (length ds) n enough) name (asks_all name) x m);
  }

  all_told : IsTold (forms_in ds) (holds (forms_in ds))
  all_told =
      let long : length (forms_in ds) + 1 ≡ suc (length (forms_in ds)) = omega arith in
      let enough : length ds ≤ length (forms_in ds) = omega (arith, length-map ds (finished (tables_of ds))) in
      subst (λ (n : ℕ). IsTold (forms_in ds) (within define n)) (sym long) (told_within (length (forms_in ds)) enough)

pub told : (ds : List DraftEntry) (es : List Entry) → es ≡ forms_in ds → IsTold es (holds es)
told ds es is = subst (λ (fs : List Entry). IsTold fs (holds fs)) (sym is) (all_told ds)
