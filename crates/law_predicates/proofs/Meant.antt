-- What `holds` gives is what the definitions mean, and nothing else is.
use Rattle.std.proofs.Common.{◌≡◌, ℕ, Bool, false, ◌&&◌, List, Option, Some, None, Result, Ok}
use Rattle.std.proofs.Common.{Err, map, option_map, refl, sym, ap, ◌∙◌}
use Rattle.std.specs.Prelude.{◌↔◌}
use Rattle.std.specs.List.{find}
use Rattle.rtx_tree.specs.declared.code.Mode.{Mode}
use Rattle.rtx_tree.specs.declared.constants.Constant.{Constant}
use Rattle.rtx_tree.specs.declared.tree.Rtx.{Rtx}
use Rattle.md_iter.specs.declared.substitution.Instance.{Instance}
use Rattle.md_pattern.specs.declared.reason.Reason.{Reason}
use Rattle.pred_expr.specs.declared.question.Test.{Test}
use Rattle.md_draft.specs.declared.head.FormHead.{FormHead}
use Rattle.md_forms.specs.declared.form.Entry.{Entry}
use Rattle.md_forms.specs.declared.form.Form.{Form}
use Rattle.md_forms.specs.Forms.{draft_entry, finished, forms_of}
use Rattle.md_forms.specs.Reasons.{tables_in, judged_in}
use Rattle.md_operand.specs.declared.built_in.BuiltIn.{BuiltIn}
use Rattle.md_operand.specs.Operand.{built_in_named}
use Rattle.pred_rows.specs.Tests.{Accepts, test_holds}
use Rattle.md_pred.specs.Holds.{mode_fits, tested, form_holds, definition_holds, defined, own_or}
use Rattle.md_pred.specs.Holds.{holds, AreDefined, IsTold}
use Rattle.md_pred.proofs.Told.{told}
use Rattle.law_predicates.specs.Accepted.{defines, IsAccepted}
use Rattle.law_predicates.specs.Meaning.{Stands, AreMeant, HoldsAreMeant}
use Rattle.law_predicates.proofs.Firsts.{first_form, found_defines}
use Rattle.law_predicates.proofs.Names.{head_there}
use Rattle.law_predicates.proofs.Judged.{stands_so, taken, taken_accepted, are_judged}
use Rattle.law_predicates.proofs.Drafts.{no_some}

aside : (r : Reason) (f : Form) → ◌≡◌ {A = Result Form Reason} (Err r) (Ok f) → ⊥
aside r f e = cc

module _ (constants : List Constant) (forms : List Instance) where
  abbrev es : List Entry
  es = forms_of constants forms

  abbrev made : Instance → Entry
  made form = finished (tables_in constants forms) (draft_entry constants form)

  -- ---- what a name's definition accepts

  module _ (other : Accepts) (name : List ℕ) (x : Rtx) (m : Mode) where
    definition_is : (o : Option Instance) → find (defines name) forms ≡ o →
        defined es other name x m ≡ definition_holds other x m (option_map made o)
    definition_is o is =
        ap (definition_holds other x m)
        (first_form constants name (tables_in constants forms) forms ∙ ap (option_map made) is)

    form_is : (form : Instance) (r : Result Form Reason) → find (defines name) forms ≡ Some form →
        judged_in constants forms form ≡ r → defined es other name x m ≡ form_holds other x m r
    form_is form r found judged = definition_is (Some form) found ∙ ap (form_holds other x m) judged

    stands_holds : (form : Instance) (h : FormHead) (f : Form) (s : Stands constants forms form h f)
        → form_holds other x m (Ok f) ≡ (mode_fits h m x && test_holds other x m s.test)
    stands_holds form h f s =
        ap (λ (k : FormHead). mode_fits k m x && tested other x m f.test) s.head_is
        ∙ ap (λ (t : Option Test). mode_fits h m x && tested other x m t) s.test_is

    by_own_name : (o : Option BuiltIn) (u : Bool) → built_in_named name ≡ o →
        own_or (built_in_named name) m x u ≡ own_or o m x u
    by_own_name o u is = ap (λ (p : Option BuiltIn). own_or p m x u) is

  -- a predicate without a definition, that the manual hasn't either
  undefined : (name : List ℕ) → built_in_named name ≡ None → find (defines name) forms ≡ None →
      IsAccepted constants forms name → ⊥
  undefined name none nothing (IsAccepted.own _ o is) = no_some o (sym none ∙ is)
  undefined name none nothing (IsAccepted.defined _ form h t there def rest) =
      no_some form (sym nothing ∙ there)

  -- ---- from the equation of `holds`

  module _ (other : Accepts) (so : AreDefined es other) where
    aside_so : (name : List ℕ) (x : Rtx) (m : Mode) → (IsAccepted constants forms name → ⊥) →
        other name x m ≡ false
    aside_so name x m none = by_own (built_in_named name) refl
      where
        by_judged : (form : Instance) (r : Result Form Reason) →
            find (defines name) forms ≡ Some form → judged_in constants forms form ≡ r →
            defined es other name x m ≡ false
        by_judged form (Err r) found judged = form_is other name x m form (Err r) found judged
        by_judged form (Ok f) found judged = absurd
            (none (taken_accepted constants forms name form f found judged))

        by_first : (o : Option Instance) → find (defines name) forms ≡ o →
            defined es other name x m ≡ false
        by_first None nothing = definition_is other name x m None nothing
        by_first (Some form) found = by_judged form (judged_in constants forms form) found refl

        by_own : (o : Option BuiltIn) → built_in_named name ≡ o → other name x m ≡ false
        by_own (Some o) is = absurd (none (IsAccepted.own name o is))
        by_own None is = so name x m ∙ by_own_name other name x m None (defined es other name x m)
            is ∙ by_first (find (defines name) forms) refl

    meant_so : AreMeant constants forms other
    meant_so = record {
      own = λ name o x m is. so name x m ∙ by_own_name other name x m (Some o)
          (defined es other name x m) is;
      tested = λ name form h t x m none found def all.
          so name x m ∙ by_own_name other name x m None (defined es other name x m) none
          ∙ form_is other name x m form _ found (stands_so constants forms form h t def all);
      aside = aside_so;
    }

  -- ---- to that equation

  defined_so : (other : Accepts) → AreMeant constants forms other → AreDefined es other
  defined_so other meant name x m = by_own (built_in_named name) refl
    where
      first_taken : (form : Instance) → built_in_named name ≡ None →
          find (defines name) forms ≡ Some form → IsAccepted constants forms name ↔
          ((f : Form) × (judged_in constants forms form ≡ Ok f))
      first_taken = (are_judged constants forms).first name

      not_taken : (form : Instance) (r : Reason) → judged_in constants forms form ≡ Err r →
          (f : Form) × (judged_in constants forms form ≡ Ok f) → ⊥
      not_taken form r judged some = aside r some.0 (sym judged ∙ some.1)

      by_judged : (form : Instance) (r : Result Form Reason) → built_in_named name ≡ None →
          find (defines name) forms ≡ Some form → judged_in constants forms form ≡ r →
          other name x m ≡ defined es other name x m
      by_judged form (Err r) none found judged =
          meant.aside name x m (λ is. not_taken form r judged ((first_taken form none found).0 is))
          ∙ sym (form_is other name x m form (Err r) found judged)
      by_judged form (Ok f) none found judged =
          let has = head_there name form (found_defines constants name forms form found) in
          let s = taken constants forms form has.head f has.is has.defines judged in
          meant.tested name form has.head s.test x m none found s.definition s.accepted
          ∙ sym (stands_holds other name x m form has.head f s)
          ∙ sym (form_is other name x m form (Ok f) found judged)

      by_first : (o : Option Instance) → built_in_named name ≡ None → find (defines name) forms ≡ o →
          other name x m ≡ defined es other name x m
      by_first None none nothing = meant.aside name x m (undefined name none nothing)
          ∙ sym (definition_is other name x m None nothing)
      by_first (Some form) none found = by_judged form (judged_in constants forms form) none found
          refl

      by_own : (o : Option BuiltIn) → built_in_named name ≡ o →
          other name x m ≡ own_or (built_in_named name) m x (defined es other name x m)
      by_own (Some o) is = meant.own name o x m is
          ∙ sym (by_own_name other name x m (Some o) (defined es other name x m) is)
      by_own None is = by_first (find (defines name) forms) is refl
          ∙ sym (by_own_name other name x m None (defined es other name x m) is)

  pub are_meant : HoldsAreMeant constants forms
  are_meant =
      let tells : IsTold es (holds es) = told (map (draft_entry constants) forms) es refl in
      record {
        are = meant_so (holds es) tells.defined_so;
        alone = λ other meant. tells.alone other (defined_so other meant);
      }
