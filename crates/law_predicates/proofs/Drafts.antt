-- The own text of a definition is in order exactly where its tree is a definition, and then it says
-- its test and nothing else.
use Rattle.std.proofs.Common.{◌≡◌, ℕ, true, false, true≢false, List, [], ◌∷◌}
use Rattle.std.proofs.Common.{Option, Some, None, Result, Ok, Err, refl, sym}
use Rattle.rtx_tree.specs.declared.constants.Constant.{Constant}
use Rattle.lisp_read.specs.declared.tree.Tree.{Tree}
use Rattle.lisp_read.specs.Shape.{string_of}
use Rattle.md_text.specs.declared.template.Template.TheVariants as template
use Rattle.md_pattern.specs.declared.reason.Reason.{Reason}
use Rattle.md_pattern.specs.Reason.{judged_map}
use Rattle.md_pattern.specs.Pattern.{no_patterns}
use Rattle.pred_expr.specs.declared.question.Test.{Test}
use Rattle.pred_expr.specs.Test.{test_of}
use Rattle.pred_expr.specs.Texts.{always, nothing}
use Rattle.md_draft.specs.declared.head.FormHead.{FormHead}
use Rattle.md_draft.specs.declared.head.FormHead.TheVariants as head
use Rattle.md_draft.specs.declared.draft.Draft.{Draft}
use Rattle.md_draft.specs.declared.draft.Output.TheVariants as output
use Rattle.md_draft.specs.Patterns as patterns
use Rattle.md_draft.specs.Conditions as conditions
use Rattle.md_draft.specs.Outputs as outputs
use Rattle.md_draft.specs.Parts as parts
use Rattle.md_draft.specs.Draft.{matched_in, replacement_in, printed_in, defined_in, parts_draft, whole_draft, draft_in}
use Rattle.md_forms.specs.md_tables.Tables.{defines_predicate}

-- ---- the parts

-- what a definition says: its test, and nothing else
abbrev pub draft_with : FormHead → Test → Draft
draft_with h x = record {
  head = h;
  matched = record { patterns = no_patterns; condition = always };
  replacement = record { split_condition = always; sequence = no_patterns; statements = nothing };
  printed = record { output = output.Template (template.One []); attributes = [] };
  defined = record { test = Some x; class = None; values = []; default = [] };
}

pub no_some : {A : Type 0} (x : A) → ◌≡◌ {A = Option A} None (Some x) → ⊥
no_some x e = cc

pub aside : (r : Reason) (d : Draft) → ◌≡◌ {A = Result Draft Reason} (Err r) (Ok d) → ⊥
aside r d e = cc

pub same_draft : (d e : Draft) → ◌≡◌ {A = Result Draft Reason} (Ok d) (Ok e) → d ≡ e
same_draft d e same = cc

-- a head that defines a predicate is one of two
pub by_head : (P : FormHead → Type 0) → P head.Predicate → P head.SpecialPredicate →
    (h : FormHead) → defines_predicate (Some h) ≡ true → P h
by_head P one other head.Predicate is = one
by_head P one other head.SpecialPredicate is = other
by_head P one other _ is = absurd (true≢false (sym is))

module _ (constants : List Constant) (values : List (List ℕ)) (a n t : Tree) where
  abbrev ts : List Tree
  ts = a ∷ n ∷ t ∷ []

  by_read : (h : FormHead) → defines_predicate (Some h) ≡ true → (r : Result Test Reason) →
      test_of constants t ≡ r → whole_draft constants values h ts ≡ judged_map (draft_with h) r
  unfolding whole_draft parts_draft matched_in replacement_in printed_in defined_in patterns.patterns_in
      patterns.sequence_in conditions.condition_in conditions.split_condition_in
      conditions.statements_in outputs.block_in outputs.output_with parts.attributes_in
      parts.test_in parts.class_in parts.values_in parts.default_in
  by_read head.Predicate is (Ok x) read = rw read refl
  by_read head.Predicate is (Err r) read = rw read refl
  by_read head.SpecialPredicate is (Ok x) read = rw read refl
  by_read head.SpecialPredicate is (Err r) read = rw read refl
  by_read _ is r read = absurd (true≢false (sym is))

  -- the draft is that of the test
  pub at_parts : (name : List ℕ) → string_of n ≡ Some name → (h : FormHead) →
      defines_predicate (Some h) ≡ true →
      draft_in constants values h ts ≡ judged_map (draft_with h) (test_of constants t)
  unfolding draft_in
  at_parts name named head.Predicate is = rw named
      (by_read head.Predicate is (test_of constants t) refl)
  at_parts name named head.SpecialPredicate is =
      rw named (by_read head.SpecialPredicate is (test_of constants t) refl)
  at_parts name named _ is = absurd (true≢false (sym is))
