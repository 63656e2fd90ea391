-- A label stands in a chain exactly where it stands among the chain's labels and barriers.
use Rattle.std.proofs.Common.{◌≡◌, ◌⊎◌, ⊎_elim, inl, inr, ℕ, ◌+◌, ◌||◌, ◌==◌, Bool, true, false, cond, if◌then◌else◌, List, [], ◌∷◌, filter, Option, Some, None, refl, sym, ap, ◌∙◌}
use Rattle.std.specs.List.{list_any, position_from, AllByRecursion}
use Rattle.std.proofs.lemmas.Bool.{false≢true, true≢false, and_parts}
use Rattle.rtx_tree.specs.declared.function.Insn.{Insn}
use Rattle.rtx_tree.specs.declared.function.Kind.{Kind}
use Rattle.rtx_tree.specs.declared.function.Kind.TheVariants as kind
use Rattle.rtx_tree.specs.Patterns.{is_label_kind, is_label, place_of}
use Rattle.rtl_step.specs.Step as step
use Rattle.rtl_func.specs.declared.flow.Flow.{Flow}
use Rattle.rtl_func.specs.Successors.{jump_flow}
use Rattle.reg_uses.specs.Uses.{is_return}
use Rattle.law_pass_needs.specs.law_rules.Sorts.{Leads}
use Rattle.law_pass_needs.specs.law_rules.Sorts as sorts
use Rattle.law_pass_needs.specs.Left.{is_mark, marks}
use Rattle.law_pass_needs.specs.Reloadable.{LeadsWithin}
use Rattle.law_pass_needs.proofs.Places.{all_weaker}

module _ {A : Type 0} (test : A → Bool) where
  any_of_position : (xs : List A) (start place : ℕ) → position_from test start xs ≡ Some place → list_any test xs ≡ true
  any_of_position [] start place is = absurd (let none : ⊥ = cc in none)
  any_of_position (x ∷ xs) start place is = by (test x) is (any_of_position xs (start + 1) place)
    where
      by : (b : Bool) → cond b (Some start) (position_from test (start + 1) xs) ≡ Some place →
          (position_from test (start + 1) xs ≡ Some place → list_any test xs ≡ true) → (b || list_any test xs) ≡ true
      by true is rest = refl
      by false is rest = rest is

  position_of_any : (xs : List A) (start : ℕ) → list_any test xs ≡ true → (place : ℕ) × (position_from test start xs ≡ Some place)
  position_of_any [] start any = absurd (false≢true any)
  position_of_any (x ∷ xs) start any = by (test x) any (position_of_any xs (start + 1))
    where
      by : (b : Bool) → (b || list_any test xs) ≡ true → (list_any test xs ≡ true → (place : ℕ) × (position_from test (start + 1) xs ≡ Some place)) →
          (place : ℕ) × (cond b (Some start) (position_from test (start + 1) xs) ≡ Some place)
      by true any rest = (start, refl)
      by false any rest = rest any

  -- what passes the test is kept
  any_filtered : (keep : A → Bool) → ((x : A) → test x ≡ true → keep x ≡ true) → (xs : List A) → list_any test (filter keep xs) ≡ list_any test xs
  any_filtered keep kept [] = refl
  any_filtered keep kept (x ∷ xs) = by (keep x) (test x) refl refl (any_filtered keep kept xs)
    where
      by : (k t : Bool) → keep x ≡ k → test x ≡ t → list_any test (filter keep xs) ≡ list_any test xs →
          list_any test (if k then x ∷ filter keep xs else filter keep xs) ≡ (t || list_any test xs)
      by true t is told rest = ap (λ b. b || list_any test (filter keep xs)) told ∙ ap (λ b. t || b) rest
      by false true is told rest = absurd (true≢false (sym (kept x told) ∙ is))
      by false false is told rest = rest

kind_mark : (k : Kind) → is_label_kind k ≡ true → step.is_mark k ≡ true
kind_mark kind.Label is = refl
kind_mark _ is = absurd (false≢true is)

label_mark : (uid : ℕ) (i : Insn) → is_label uid i ≡ true → is_mark i ≡ true
label_mark uid i is = kind_mark i.kind (and_parts (is_label_kind i.kind) (i.uid == uid) is).0

-- a label of one chain is one of another with the same labels and barriers
pub place_too : (xs ys : List Insn) → marks ys ≡ marks xs → (uid place : ℕ) → place_of uid xs ≡ Some place → (p : ℕ) × (place_of uid ys ≡ Some p)
place_too xs ys same uid place at = position_of_any (is_label uid) ys 0
    (sym (any_filtered (is_label uid) is_mark (label_mark uid) ys) ∙ ap (list_any (is_label uid)) same
    ∙ any_filtered (is_label uid) is_mark (label_mark uid) xs ∙ any_of_position (is_label uid) xs 0 place at)

pub leads_too : (xs ys : List Insn) → marks ys ≡ marks xs → (flow : Flow) → Leads xs flow → Leads ys flow
leads_too xs ys same _ (sorts.goes uid place at) = let there = place_too xs ys same uid place at in sorts.goes uid there.0 there.1
leads_too xs ys same _ (sorts.branches uid place at) = let there = place_too xs ys same uid place at in sorts.branches uid there.0 there.1

-- and so a jump leads within the one as within the other
pub within_too : (xs ys : List Insn) → marks ys ≡ marks xs → (i : Insn) → LeadsWithin xs i → LeadsWithin ys i
within_too xs ys same i leads jump = ⊎_elim
    (λ (back : is_return i ≡ true). inl back)
    (λ (on : Leads xs (jump_flow i.pattern)). inr (leads_too xs ys same (jump_flow i.pattern) on))
    (leads jump)

pub all_within_too : (xs ys insns : List Insn) → marks ys ≡ marks xs → AllByRecursion (LeadsWithin xs) insns → AllByRecursion (LeadsWithin ys) insns
all_within_too xs ys insns same all = all_weaker (LeadsWithin xs) (LeadsWithin ys) (within_too xs ys same) insns all
