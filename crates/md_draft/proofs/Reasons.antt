-- A form's draft is set aside with the smallest of its reasons.
use Rattle.std.proofs.Common.{◌≡◌, ◌≤◌, ℕ, Bool, true, false, true≢false, List, option_and_then, Option, Some, None, Err, refl, sym, ap, subst, ◌∙◌, inl, inr, arith}
use Rattle.rtx_tree.specs.declared.constants.Constant.{Constant}
use Rattle.lisp_read.specs.declared.tree.Tree.{Tree}
use Rattle.lisp_read.specs.Shape.{items_of}
use Rattle.md_pattern.specs.declared.reason.Reason.{Reason}
use Rattle.md_pattern.specs.declared.reason.Reason.TheVariants as reason
use Rattle.md_pattern.specs.Reason.{number_of, both, IsSmallest}
use Rattle.md_draft.specs.declared.head.FormHead.{FormHead}
use Rattle.md_draft.specs.declared.draft.Draft.{Draft}
use Rattle.md_draft.specs.Head.{head_named}
use Rattle.md_draft.specs.Layout.{layout_of, part_at, is_whole}
use Rattle.md_draft.specs.Outputs.{output_with as output_made, block_in as block_there, output_of_tree, block_of_tree}
use Rattle.md_draft.specs.OutputReasons.{OutputHasReason}
use Rattle.md_draft.specs.Draft as draft
use Rattle.md_draft.specs.Draft.{block_in, draft_in, draft_by, parts_draft, without, whole_draft, matched_in, replacement_in, printed_in, defined_in, matched_with, replacement_with, printed_with, defined_with, draft_with, head_in, headed, entry_by, entry_of}
use Rattle.md_draft.specs.Reasons.{HasReason, Applies, head_of}
use Rattle.md_draft.proofs.OutputReasons.{of_output}
use Rattle.md_pattern.proofs.Smallest.{Of, Or, alone, change, made as made_of, pair, with}

module _ (constants : List Constant) (values : List (List ℕ)) (h : FormHead) (ts : List Tree) where
  abbrev OfMatched : Reason → Type 0
  OfMatched = Or (Of (draft.patterns_in constants h ts)) (Of (draft.condition_in constants values h ts))

  matched : IsSmallest OfMatched (matched_in constants values h ts)
  unfolding matched_in
  matched = with (Of (draft.patterns_in constants h ts)) (Of (draft.condition_in constants values h ts)) matched_with (draft.patterns_in constants h ts) (draft.condition_in constants values h ts) (alone _) (alone _)

  abbrev OfMade : Reason → Type 0
  OfMade = Or (Of (draft.split_condition_in constants values h ts)) (Or (Of (draft.sequence_in constants h ts)) (Of (draft.statements_in constants h ts)))

  made : IsSmallest OfMade (replacement_in constants values h ts)
  unfolding replacement_in
  made = with (Of (draft.split_condition_in constants values h ts)) (Or (Of (draft.sequence_in constants h ts)) (Of (draft.statements_in constants h ts))) replacement_with (draft.split_condition_in constants values h ts) (both (draft.sequence_in constants h ts) (draft.statements_in constants h ts)) (alone _)
      (pair (Of (draft.sequence_in constants h ts)) (Of (draft.statements_in constants h ts)) (draft.sequence_in constants h ts) (draft.statements_in constants h ts) (alone _) (alone _))

  abbrev OfOutput : Reason → Type 0
  OfOutput r = (t : Tree) × (part_at ts (layout_of h).output ≡ Some t) × OutputHasReason t r

  same_tree : (a b : Tree) (o : Option Tree) → o ≡ Some a → o ≡ Some b → a ≡ b
  same_tree a b o first second = let e : ◌≡◌ {A = Option Tree} (Some a) (Some b) = sym first ∙ second in cc

  no_tree : {P : Type 0} (a : Tree) (o : Option Tree) → o ≡ None → o ≡ Some a → P
  no_tree a o none some = absurd (let e : ◌≡◌ {A = Option Tree} None (Some a) = sym none ∙ some in let no : ⊥ = cc in no)

  by_output : (o : Option Tree) → part_at ts (layout_of h).output ≡ o → IsSmallest OfOutput (output_made (block_there o) o)
  unfolding output_made block_there
  by_output None none = λ r has. no_tree has.0 (part_at ts (layout_of h).output) none has.1
  by_output (Some t) at =
      change (OutputHasReason t) OfOutput (output_of_tree (block_of_tree t) t) (λ r has. (t, at, has))
      (λ r has. subst (λ x. OutputHasReason x r) (same_tree has.0 t (part_at ts (layout_of h).output) has.1 at) has.2)
      (of_output t)

  output : IsSmallest OfOutput (draft.output_in h ts)
  output = by_output (part_at ts (layout_of h).output) refl

  abbrev OfPrinted : Reason → Type 0
  OfPrinted = Or OfOutput (Of (draft.attributes_in h ts))

  printed : IsSmallest OfPrinted (printed_in (block_in h ts) h ts)
  unfolding printed_in
  printed = with OfOutput (Of (draft.attributes_in h ts)) printed_with (draft.output_in h ts) (draft.attributes_in h ts) output (alone _)

  abbrev OfDefined : Reason → Type 0
  OfDefined = Or (Or (Of (draft.test_in constants h ts)) (Of (draft.class_in h ts))) (Or (Of (draft.values_in h ts)) (Of (draft.default_in h ts)))

  defined : IsSmallest OfDefined (defined_in constants h ts)
  unfolding defined_in
  defined = with (Or (Of (draft.test_in constants h ts)) (Of (draft.class_in h ts))) (Or (Of (draft.values_in h ts)) (Of (draft.default_in h ts))) defined_with (both (draft.test_in constants h ts) (draft.class_in h ts)) (both (draft.values_in h ts) (draft.default_in h ts))
      (pair (Of (draft.test_in constants h ts)) (Of (draft.class_in h ts)) (draft.test_in constants h ts) (draft.class_in h ts) (alone _) (alone _)) (pair (Of (draft.values_in h ts)) (Of (draft.default_in h ts)) (draft.values_in h ts) (draft.default_in h ts) (alone _) (alone _))

  abbrev OfAll : Reason → Type 0
  OfAll = Or (Or OfMatched OfMade) (Or OfPrinted OfDefined)

  of_parts : IsSmallest OfAll (parts_draft (block_in h ts) constants values h ts)
  unfolding parts_draft
  of_parts = with (Or OfMatched OfMade) (Or OfPrinted OfDefined) (draft_with h) (both (matched_in constants values h ts) (replacement_in constants values h ts)) (both (printed_in (block_in h ts) h ts) (defined_in constants h ts))
      (pair OfMatched OfMade (matched_in constants values h ts) (replacement_in constants values h ts) matched made) (pair OfPrinted OfDefined (printed_in (block_in h ts) h ts) (defined_in constants h ts) printed defined)

  -- that a form is said without its block changes no reason
  whole : IsSmallest OfAll (whole_draft constants values h ts)
  unfolding whole_draft
  whole = made_of OfAll (without (block_in h ts)) (parts_draft (block_in h ts) constants values h ts) of_parts

  module _ (is : is_whole (layout_of h) ts ≡ true) where
    to : (r : Reason) → OfAll r → HasReason constants values h ts r
    to r (inl (inl (inl e))) = HasReason.patterns r is e
    to r (inl (inl (inr e))) = HasReason.condition r is e
    to r (inl (inr (inl e))) = HasReason.split_condition r is e
    to r (inl (inr (inr (inl e)))) = HasReason.sequence r is e
    to r (inl (inr (inr (inr e)))) = HasReason.statements r is e
    to r (inr (inl (inl has))) = HasReason.output has.0 r is has.1 has.2
    to r (inr (inl (inr e))) = HasReason.attributes r is e
    to r (inr (inr (inl (inl e)))) = HasReason.test r is e
    to r (inr (inr (inl (inr e)))) = HasReason.class r is e
    to r (inr (inr (inr (inl e)))) = HasReason.values_given r is e
    to r (inr (inr (inr (inr e)))) = HasReason.default r is e

    not_both : {A : Type 0} → is_whole (layout_of h) ts ≡ false → A
    not_both wrong = absurd (true≢false (sym is ∙ wrong))

    from : (r : Reason) → HasReason constants values h ts r → OfAll r
    from _ (HasReason.count wrong) = not_both wrong
    from r (HasReason.patterns _ _ e) = inl (inl (inl e))
    from r (HasReason.condition _ _ e) = inl (inl (inr e))
    from r (HasReason.split_condition _ _ e) = inl (inr (inl e))
    from r (HasReason.sequence _ _ e) = inl (inr (inr (inl e)))
    from r (HasReason.statements _ _ e) = inl (inr (inr (inr e)))
    from r (HasReason.output t _ _ at has) = inr (inl (inl (t, at, has)))
    from r (HasReason.attributes _ _ e) = inr (inl (inr e))
    from r (HasReason.test _ _ e) = inr (inr (inl (inl e)))
    from r (HasReason.class _ _ e) = inr (inr (inl (inr e)))
    from r (HasReason.values_given _ _ e) = inr (inr (inr (inl e)))
    from r (HasReason.default _ _ e) = inr (inr (inr (inr e)))

    when_whole : IsSmallest (HasReason constants values h ts) (whole_draft constants values h ts)
    when_whole = change OfAll (HasReason constants values h ts) (whole_draft constants values h ts) to from whole

  -- a form with other parts has no other reason
  only_parts : is_whole (layout_of h) ts ≡ false → (r : Reason) → HasReason constants values h ts r → 2 ≤ number_of r
  only_parts wrong _ (HasReason.count _) = omega arith
  only_parts wrong r (HasReason.patterns _ is _) = absurd (true≢false (sym is ∙ wrong))
  only_parts wrong r (HasReason.condition _ is _) = absurd (true≢false (sym is ∙ wrong))
  only_parts wrong r (HasReason.split_condition _ is _) = absurd (true≢false (sym is ∙ wrong))
  only_parts wrong r (HasReason.sequence _ is _) = absurd (true≢false (sym is ∙ wrong))
  only_parts wrong r (HasReason.statements _ is _) = absurd (true≢false (sym is ∙ wrong))
  only_parts wrong r (HasReason.output _ _ is _ _) = absurd (true≢false (sym is ∙ wrong))
  only_parts wrong r (HasReason.attributes _ is _) = absurd (true≢false (sym is ∙ wrong))
  only_parts wrong r (HasReason.test _ is _) = absurd (true≢false (sym is ∙ wrong))
  only_parts wrong r (HasReason.class _ is _) = absurd (true≢false (sym is ∙ wrong))
  only_parts wrong r (HasReason.values_given _ is _) = absurd (true≢false (sym is ∙ wrong))
  only_parts wrong r (HasReason.default _ is _) = absurd (true≢false (sym is ∙ wrong))

  by_count : (b : Bool) → is_whole (layout_of h) ts ≡ b → IsSmallest (HasReason constants values h ts) (draft_in constants values h ts)
  unfolding draft_in
  by_count true is = rw is (when_whole is)
  by_count false wrong = rw wrong (HasReason.count wrong, only_parts wrong)

  pub of_head : IsSmallest (HasReason constants values h ts) (draft_in constants values h ts)
  of_head = by_count (is_whole (layout_of h) ts) refl

one_le : (r : Reason) → 1 ≤ number_of r
one_le reason.Head = omega arith
one_le reason.Parts = omega arith
one_le reason.Code = omega arith
one_le reason.Mode = omega arith
one_le reason.CCode = omega arith
one_le reason.Condition = omega arith
one_le reason.Statements = omega arith
one_le reason.Predicate = omega arith
one_le reason.Constraint = omega arith
one_le reason.Attribute = omega arith
one_le reason.Operands = omega arith
one_le reason.Template = omega arith

module _ (constants : List Constant) (values : List (List ℕ)) (t : Tree) where
  without_head : head_of t ≡ None → IsSmallest {A = Draft} (Applies constants values t) (Err reason.Head)
  without_head none = (Applies.headless none, λ s has. one_le s)

  with_head : (h : FormHead) → head_of t ≡ Some h → IsSmallest (Applies constants values t) (draft_in constants values h (items_of t))
  with_head h is = change (HasReason constants values h (items_of t)) (Applies constants values t) (draft_in constants values h (items_of t)) (λ r gives. Applies.of_head h r is gives) back (of_head constants values h (items_of t))
    where
      some_is : (g k : FormHead) → Some g ≡ Some k → g ≡ k
      some_is g k e = cc

      none_some : (k : FormHead) → ◌≡◌ {A = Option FormHead} None (Some k) → ⊥
      none_some k e = cc

      back : (r : Reason) → Applies constants values t r → HasReason constants values h (items_of t) r
      back _ (Applies.headless none) = absurd (none_some h (sym none ∙ is))
      back r (Applies.of_head k _ other gives) = subst (λ (x : FormHead). HasReason constants values x (items_of t) r) (some_is k h (sym other ∙ is)) gives

  by_named : (o : Option FormHead) → head_of t ≡ o → IsSmallest (Applies constants values t) (draft_by constants values o (items_of t))
  by_named None none = without_head none
  by_named (Some h) is = with_head h is

  by_head : (o : Option (List ℕ)) → head_in (items_of t) ≡ o → IsSmallest (Applies constants values t) (entry_by constants values o t).draft
  unfolding headed
  by_head None none = without_head (ap (λ x. option_and_then head_named x) none)
  by_head (Some text) is = by_named (head_named text) (ap (λ x. option_and_then head_named x) is)

-- a form is set aside by its own text with the smallest of the reasons that the text gives
pub of_entry : (constants : List Constant) (values : List (List ℕ)) (t : Tree) → IsSmallest (Applies constants values t) (entry_of constants values t).draft
of_entry constants values t = by_head constants values t (head_in (items_of t)) refl
