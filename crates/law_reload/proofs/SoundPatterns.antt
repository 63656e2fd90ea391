-- The patterns of the forms of a description are as reload asks.
use Rattle.std.proofs.Common.{◌≡◌, ℕ, zero, suc, cond, not, Bool, true, false, List, [], ◌∷◌, ◌++◌, map, Option, Some, None, Result, Ok, Err, refl, sym, ap, ◌∙◌}
use Rattle.std.proofs.lemmas.Bool.{false≢true, and_parts}
use Rattle.std.specs.List.{AllByRecursion, find, flat_map}
use Rattle.std.specs.Option.{option_map_or}
use Rattle.std.specs.Prelude.{slice_get}
use Rattle.rtx_tree.specs.declared.constants.Constant.{Constant}
use Rattle.rtx_tree.specs.declared.tree.Rtx.{Rtx}
use Rattle.md_iter.specs.declared.substitution.Instance.{Instance}
use Rattle.md_pattern.specs.declared.reason.Reason.{Reason}
use Rattle.md_pattern.specs.declared.reason.Reason.TheVariants as reason
use Rattle.md_draft.specs.declared.draft.Draft.{Draft}
use Rattle.md_draft.specs.declared.draft.DraftEntry.{DraftEntry}
use Rattle.md_forms.specs.declared.form.Entry.{Entry}
use Rattle.md_forms.specs.declared.form.Form.{Form}
use Rattle.md_forms.specs.md_tables.declared.tables.Tables.{Tables}
use Rattle.md_forms.specs.Checks.{are_distinct, numbers_stand, matched, all_operands, operands_stand, alternatives_of, has_reason, reason_of, constraints_of, form_with, unless, form_of}
use Rattle.md_forms.specs.Forms.{judged_form, finished, forms_in, draft_entry, forms_of}
use Rattle.md_forms.specs.Names.{operands_in}
use Rattle.md_forms.specs.md_tables.Tables.{tables_of}
use Rattle.law_reload_moves.specs.reload_operands.declared.operand.Operand.{Operand}
use Rattle.law_reload_moves.proofs.NewsLaws.{operand_of_match}
use Rattle.reload.specs.Reload.{placed, with_homes, patterns_by, patterns_in, patterns_at}
use Rattle.law_reload.proofs.PatternLeaves.{OnOk}
use Rattle.law_reload.proofs.FormLeaves.{forms_leaves}
use Rattle.law_reload.proofs.SoleOperators.{first_distinct, sole_in}
use Rattle.law_reload.proofs.Linked.{PatternsAreSound}
use Rattle.law_reload.proofs.Alone.{turned}

none_found : (test : Reason → Bool) (y : Reason) (xs : List Reason) → find test (y ∷ xs) ≡ None →
    (test y ≡ false) × (find test xs ≡ None)
none_found test y xs none = by (test y) refl none
  where
    by : (b : Bool) → test y ≡ b → cond b (Some y) (find test xs) ≡ None →
        (test y ≡ false) × (find test xs ≡ None)
    by true is none = absurd (let no : ⊥ = cc in no)
    by false is none = (is, none)

-- a form gives no operand twice
stand_distinct : (d : Draft) (n : ℕ) → operands_stand d n ≡ true →
    are_distinct (flat_map operands_in d.matched.patterns.trees) ≡ true
unfolding operands_stand all_operands matched
stand_distinct d n is =
    let numbers = and_parts (numbers_stand (all_operands d) n) _ is in
    let few = and_parts _ _ numbers.0 in
    first_distinct (flat_map operands_in d.matched.patterns.trees)
    (flat_map operands_in d.replacement.sequence.trees)
    (and_parts _ (are_distinct (all_operands d)) few.1).1

reasonless : (tables : Tables) (d : Draft) → reason_of tables d ≡ None →
    operands_stand d (alternatives_of tables d) ≡ true
reasonless tables d none =
    let test = has_reason tables d in
    let one = none_found test reason.Predicate (reason.Constraint ∷ reason.Attribute ∷
    reason.Operands ∷ reason.Template ∷ []) none in
    let two = none_found test reason.Constraint (reason.Attribute ∷ reason.Operands ∷
    reason.Template ∷ []) one.1 in
    let three = none_found test reason.Attribute (reason.Operands ∷ reason.Template ∷ []) two.1 in
    let four = none_found test reason.Operands (reason.Template ∷ []) three.1 in
    turned (operands_stand d (alternatives_of tables d)) four.0

abbrev FormDistinct : Form → Type 0
FormDistinct f = are_distinct (flat_map operands_in f.patterns) ≡ true

abbrev EntryDistinct : Entry → Type 0
EntryDistinct e = OnOk FormDistinct e.form

unless_distinct : (o : Option Reason) (f : Form) → (o ≡ None → FormDistinct f) →
    OnOk FormDistinct (unless o f)
unless_distinct None f is = is refl
unless_distinct (Some r) f is = tt

form_distinct : (tables : Tables) (d : Draft) → OnOk FormDistinct (form_of tables d)
unfolding form_of
form_distinct tables d = unless_distinct (reason_of tables d)
    (form_with d (constraints_of tables d))
    (λ none. stand_distinct d (alternatives_of tables d) (reasonless tables d none))

judged_distinct : (tables : Tables) (r : Result Draft Reason) →
    OnOk FormDistinct (judged_form tables r)
judged_distinct tables (Ok d) = form_distinct tables d
judged_distinct tables (Err r) = tt

all_distinct : (tables : Tables) (es : List DraftEntry) →
    AllByRecursion EntryDistinct (map (finished tables) es)
all_distinct tables [] = tt
all_distinct tables (e ∷ es) = (judged_distinct tables e.draft, all_distinct tables es)

by_form : (e : Entry) → EntryDistinct e → are_distinct (flat_map operands_in (patterns_in e)) ≡ true
by_form e is = by e.form is
  where
    by : (r : Result Form Reason) → OnOk FormDistinct r →
        are_distinct (flat_map operands_in (patterns_by r)) ≡ true
    by (Ok f) is = is
    by (Err r) is = refl

at_form : (es : List Entry) → AllByRecursion EntryDistinct es → (k : ℕ) →
    are_distinct (flat_map operands_in (option_map_or patterns_in (slice_get es k) [])) ≡ true
at_form [] all k = refl
at_form (e ∷ es) all zero = by_form e all.0
at_form (e ∷ es) all (suc k) = at_form es all.1 k

distinct_in : (constants : List Constant) (forms : List Instance) (form : ℕ) (pattern : Rtx) →
    patterns_at (forms_of constants forms) form ≡ pattern ∷ [] →
    are_distinct (operands_in pattern) ≡ true
distinct_in constants forms form pattern is =
    let es = map (draft_entry constants) forms in
    let all = at_form (forms_in es) (all_distinct (tables_of es) es) form in
    first_distinct (operands_in pattern) [] (sym (ap (λ ps. are_distinct (flat_map operands_in ps))
    is) ∙ all)

-- the forms of a description
pub patterns_are_sound : (constants : List Constant) (forms : List Instance) →
    PatternsAreSound (forms_of constants forms)
patterns_are_sound constants forms = record {
  leaves = λ form pattern is. forms_leaves constants forms form pattern is;
  operators = λ homes layout i form pattern found j x is at none.
      let o = operand_of_match pattern found (placed layout i) (with_homes homes layout i) homes
      layout j x at in
      sole_in x.number pattern (distinct_in constants forms form pattern is) o.form o.given_by
      (ap (λ (x : Operand). x.is_operator) (sym o.operand_is) ∙ none);
}
