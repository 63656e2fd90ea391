-- A definition is not set aside exactly where its tree is one and the predicates that its test
-- names are accepted.
use Rattle.std.proofs.Common.{◌≡◌, ◌⊎◌, inl, inr, ℕ, Bool, true, false, true≢false, not, List}
use Rattle.std.proofs.Common.{[], Option, Some, None, Result, Ok, Err, if◌then◌else◌, refl}
use Rattle.std.proofs.Common.{sym, ap, subst, ◌∙◌}
use Rattle.std.specs.Prelude.{◌↔◌}
use Rattle.std.specs.List.{find, list_all}
use Rattle.rtx_tree.specs.declared.constants.Constant.{Constant}
use Rattle.md_iter.specs.declared.substitution.Instance.{Instance}
use Rattle.md_pattern.specs.declared.reason.Reason.{Reason}
use Rattle.md_pattern.specs.declared.reason.Reason.TheVariants as reason
use Rattle.pred_expr.specs.declared.question.Test.{Test}
use Rattle.pred_expr.specs.Test.{predicates_of}
use Rattle.md_draft.specs.declared.head.FormHead.{FormHead}
use Rattle.md_draft.specs.declared.head.FormHead.TheVariants as head
use Rattle.md_draft.specs.declared.draft.Draft.{Draft}
use Rattle.md_draft.specs.Reasons.{head_of}
use Rattle.md_forms.specs.declared.form.Form.{Form}
use Rattle.md_forms.specs.md_tables.declared.tables.Tables.{Tables}
use Rattle.md_forms.specs.md_tables.Names.{predicates_named}
use Rattle.md_forms.specs.md_tables.Predicates.{is_known}
use Rattle.md_forms.specs.md_tables.Tables.{defines_predicate}
use Rattle.md_forms.specs.Checks.{predicates_known, matched, all_operands, dups_by, constraints_in}
use Rattle.md_forms.specs.Checks.{constraints_stand, attributes_stand, operands_stand, has_reason}
use Rattle.md_forms.specs.Checks.{form_with, form_of}
use Rattle.md_forms.specs.Forms.{draft_entry, judged_form}
use Rattle.md_forms.specs.Reasons.{tables_in, judged_in}
use Rattle.md_operand.specs.declared.built_in.BuiltIn.{BuiltIn}
use Rattle.md_operand.specs.Operand.{built_in_named}
use Rattle.law_predicates.specs.Accepted.{IsDefinition, defines, IsAccepted, AreAccepted}
use Rattle.law_predicates.specs.Meaning.{Stands, AreJudged}
use Rattle.law_predicates.proofs.Lists.{each_passes, all_pass}
use Rattle.law_predicates.proofs.Drafts.{draft_with}
use Rattle.law_predicates.proofs.Definitions.{IsRead, of_definition, is_definition}
use Rattle.law_predicates.proofs.Firsts.{found_defines}
use Rattle.law_predicates.proofs.Cycles.{ends}
use Rattle.law_predicates.proofs.Names.{names_are, head_there}
use Rattle.law_predicates.proofs.Known.{known_is}

aside : {A : Type 0} (r : Reason) (f : A) → ◌≡◌ {A = Result A Reason} (Err r) (Ok f) → ⊥
aside r f e = cc

same_form : (f g : Form) → ◌≡◌ {A = Result Form Reason} (Ok f) (Ok g) → f ≡ g
same_form f g e = cc

-- what the form of a definition says
abbrev pub form_by : FormHead → Test → Form
form_by h x = form_with (draft_with h x) []

-- it has no reason but that of its predicates
module _ (tables : Tables) (x : Test) where
  abbrev Judges : FormHead → Type 0
  Judges h =
      form_of tables (draft_with h x)
      ≡ (if predicates_known tables (draft_with h x) then Ok (form_by h x)
      else Err reason.Predicate)

  by_known : (h : FormHead) → defines_predicate (Some h) ≡ true → (b : Bool) →
      predicates_known tables (draft_with h x) ≡ b → Judges h
  unfolding form_of matched all_operands dups_by constraints_in constraints_stand attributes_stand
      operands_stand
  by_known head.Predicate is true e = rw e refl
  by_known head.Predicate is false e = rw e refl
  by_known head.SpecialPredicate is true e = rw e refl
  by_known head.SpecialPredicate is false e = rw e refl
  by_known _ is b e = absurd (true≢false (sym is))

  pub judges : (h : FormHead) → defines_predicate (Some h) ≡ true → Judges h
  judges h is = by_known h is (predicates_known tables (draft_with h x)) refl

module _ (constants : List Constant) (forms : List Instance) where
  abbrev tables : Tables
  tables = tables_in constants forms

  -- ---- the predicates that a form names

  abbrev known : List ℕ → Bool
  known = is_known tables.predicates tables.accepted

  to_accepted : (names : List (List ℕ)) → list_all known names ≡ true →
      AreAccepted constants forms names
  to_accepted names all used has = (known_is constants forms used).0
      (each_passes known names all used has)

  to_known : (names : List (List ℕ)) → AreAccepted constants forms names →
      list_all known names ≡ true
  to_known names all = all_pass known names
      (λ used has. (known_is constants forms used).1 (all used has))

  pub all_known : (d : Draft) → (predicates_known tables d ≡ true) ↔ AreAccepted constants forms
      (predicates_named d)
  unfolding predicates_known
  all_known d = (to_accepted (predicates_named d), to_known (predicates_named d))

  not_false : (b : Bool) → not b ≡ false → b ≡ true
  not_false true e = refl
  not_false false e = sym e

  named : (d : Draft) → (has_reason tables d reason.Predicate ≡ false) ↔ AreAccepted constants forms
      (predicates_named d)
  named d = (
    λ e. (all_known d).0 (not_false (predicates_known tables d) e),
    λ all. ap not ((all_known d).1 all),
  )

  either : (name : List ℕ) → IsAccepted constants forms name ⊎ (IsAccepted constants forms name → ⊥)
  either name = by_known (known name) refl
    where
      by_known : (b : Bool) → known name ≡ b → IsAccepted constants forms name
          ⊎ (IsAccepted constants forms name → ⊥)
      by_known true is = inl ((known_is constants forms name).0 is)
      by_known false is =
          inr (λ accepted. true≢false (sym ((known_is constants forms name).1 accepted) ∙ is))

  -- ---- a definition

  pub stands_so : (form : Instance) (h : FormHead) (x : Test) →
      IsDefinition constants form.tree h x → AreAccepted constants forms (predicates_of x) →
      judged_in constants forms form ≡ Ok (form_by h x)
  stands_so form h x def all =
      let names : AreAccepted constants forms (predicates_named (draft_with h x)) =
      subst (AreAccepted constants forms) (sym (names_are h x)) all in
      let whole : predicates_known tables (draft_with h x) ≡ true =
      (all_known (draft_with h x)).1 names in
      ap (judged_form tables) (of_definition constants form h x def)
      ∙ judges tables x h def.defines
      ∙ ap (λ (b : Bool). if b then Ok (form_by h x) else Err reason.Predicate) whole

  pub taken : (form : Instance) (h : FormHead) (f : Form) → head_of form.tree ≡ Some h →
      defines_predicate (Some h) ≡ true → judged_in constants forms form ≡ Ok f →
      Stands constants forms form h f
  taken form h f is defines judged = by_draft (draft_entry constants form).draft refl judged
    where
      by_known : (x : Test) → IsDefinition constants form.tree h x → (b : Bool) →
          predicates_known tables (draft_with h x) ≡ b
          → ◌≡◌ {A = Result Form Reason} (if b then Ok (form_by h x) else Err reason.Predicate)
          (Ok f) → Stands constants forms form h f
      by_known x def true whole e =
          let same : form_by h x ≡ f = same_form (form_by h x) f e in
          record {
            test = x;
            definition = def;
            accepted = subst (AreAccepted constants forms) (names_are h x)
                ((all_known (draft_with h x)).0 whole);
            head_is = ap (λ (g : Form). g.head) (sym same);
            test_is = ap (λ (g : Form). g.test) (sym same);
          }
      by_known x def false whole e = absurd (aside reason.Predicate f e)

      by_read : (d : Draft) → IsRead constants form h d → form_of tables d ≡ Ok f →
          Stands constants forms form h f
      by_read d read e =
          by_known read.test read.definition (predicates_known tables (draft_with h read.test)) refl
          (sym (judges tables read.test h defines) ∙ ap (form_of tables) (sym read.draft) ∙ e)

      by_draft : (r : Result Draft Reason) → (draft_entry constants form).draft ≡ r →
          judged_form tables r ≡ Ok f → Stands constants forms form h f
      by_draft (Err r) drafted e = absurd (aside r f e)
      by_draft (Ok d) drafted e = by_read d (is_definition constants form h d is defines drafted) e

  -- ---- the first of a name

  pub taken_accepted : (name : List ℕ) (form : Instance) (f : Form) →
      find (defines name) forms ≡ Some form → judged_in constants forms form ≡ Ok f →
      IsAccepted constants forms name
  taken_accepted name form f found judged =
      let has = head_there name form (found_defines constants name forms form found) in
      let s = taken form has.head f has.is has.defines judged in
      IsAccepted.defined name form has.head s.test found s.definition s.accepted

  accepted_taken : (name : List ℕ) (form : Instance) → built_in_named name ≡ None →
      find (defines name) forms ≡ Some form → IsAccepted constants forms name →
      (f : Form) × (judged_in constants forms form ≡ Ok f)
  accepted_taken name form none found (IsAccepted.own _ o is) = absurd (none_some o (sym none ∙ is))
    where
      none_some : (o : BuiltIn) → ◌≡◌ {A = Option BuiltIn} None (Some o) → ⊥
      none_some o e = cc
  accepted_taken name form none found (IsAccepted.defined _ first h x there def rest) = (
    form_by h x,
    subst (λ (g : Instance). judged_in constants forms g ≡ Ok (form_by h x))
        (some_is first form (sym there ∙ found)) (stands_so first h x def rest),
  )
    where
      some_is : (a b : Instance) → Some a ≡ Some b → a ≡ b
      some_is a b e = cc

  pub are_judged : AreJudged constants forms
  are_judged = record {
    taken = taken;
    stands = λ form h x def all. (form_by h x, stands_so form h x def all);
    first =
        λ name form none found. (
          accepted_taken name form none found,
          λ some. taken_accepted name form some.0 found some.1,
        );
    named = named;
    either = either;
    ends = ends constants forms;
  }
