-- What is live after a place, by the rows of the places to which it leads.
use Rattle.std.proofs.Common.{◌≡◌, ℕ, Bool, true, false, ◌||◌, List, ◌++◌, Option, Some, None, inl, inr, refl, sym, ap, ◌∙◌, eqb, eq-eqb, subst}
use Rattle.std.proofs.lemmas.Bool.{or_cases, or_right, or_left, eqb-true, false≢true}
use Rattle.std.specs.List.Sorted.{IsStrictlyIncreasing}
use Rattle.std.specs.Option.{option_to_list}
use Rattle.rtx_tree.specs.declared.function.Function.{Function}
use Rattle.rtx_tree.specs.RegSet.{has_reg}
use Rattle.reg_rows.specs.Table.{has_at}
use Rattle.rtl_func.specs.Paths.{has_place}
use Rattle.rtl_func.specs.Successors.{successors_of}
use Rattle.live_rows.specs.machine.Rows.{at_place}
use Rattle.live.specs.Live.{IsLiveAfter, AreLiveAfter, AreLiveRows}

-- a row of one of two places has the register
pub in_rows : (a b : Option ℕ) (rows : List (List ℕ)) (reg : ℕ) → (at_place a rows reg || at_place b rows reg) ≡ true → (q : ℕ) × (has_place (option_to_list a ++ option_to_list b) q ≡ true) × (has_at rows q reg ≡ true)
in_rows None None rows reg h = absurd (false≢true h)
in_rows None (Some q) rows reg h = (q, or_left (eqb q q) false (eq-eqb q q refl), h)
in_rows (Some p) None rows reg h =
    elim (or_cases (has_at rows p reg) false h) [
      | inl h ↦ (p, or_left (eqb p p) false (eq-eqb p p refl), h)
      | inr never ↦ absurd (false≢true never)
    ]
in_rows (Some p) (Some q) rows reg h =
    elim (or_cases (has_at rows p reg) (has_at rows q reg) h) [
      | inl h ↦ (p, or_left (eqb p p) (eqb q p || false) (eq-eqb p p refl), h)
      | inr h ↦ (q, or_right (eqb p q) (eqb q q || false) (or_left (eqb q q) false (eq-eqb q q refl)), h)
    ]

one_place : (p q : ℕ) (more : Bool) (rows : List (List ℕ)) (reg : ℕ) → eqb p q ≡ true → has_at rows q reg ≡ true → has_at rows p reg ≡ true
one_place p q more rows reg is h = subst (λ p. has_at rows p reg ≡ true) (sym (eqb-true p q is)) h

pub from_rows : (a b : Option ℕ) (rows : List (List ℕ)) (reg q : ℕ) → has_place (option_to_list a ++ option_to_list b) q ≡ true → has_at rows q reg ≡ true → (at_place a rows reg || at_place b rows reg) ≡ true
from_rows None None rows reg q place h = absurd (false≢true place)
from_rows None (Some b) rows reg q place h =
    elim (or_cases (eqb b q) false place) [
      | inl is ↦ one_place b q false rows reg is h
      | inr never ↦ absurd (false≢true never)
    ]
from_rows (Some a) None rows reg q place h =
    elim (or_cases (eqb a q) false place) [
      | inl is ↦ or_left (has_at rows a reg) false (one_place a q false rows reg is h)
      | inr never ↦ absurd (false≢true never)
    ]
from_rows (Some a) (Some b) rows reg q place h =
    elim (or_cases (eqb a q) (eqb b q || false) place) [
      | inl is ↦ or_left (has_at rows a reg) (has_at rows b reg) (one_place a q false rows reg is h)
      | inr rest ↦ elim (or_cases (eqb b q) false rest) [
        | inl is ↦ or_right (has_at rows a reg) (has_at rows b reg) (one_place b q false rows reg is h)
        | inr never ↦ absurd (false≢true never)
      ]
    ]

-- a set of what the rows have of the places to which a place leads
pub live_after_is : (f : Function) (rows : List (List ℕ)) (place : ℕ) (a b : Option ℕ) (first second : List ℕ) →
    AreLiveRows f rows → option_to_list a ++ option_to_list b ≡ successors_of f.insns place →
    ((reg : ℕ) → has_reg first reg ≡ at_place a rows reg) → ((reg : ℕ) → has_reg second reg ≡ (has_reg first reg || at_place b rows reg)) → IsStrictlyIncreasing second → AreLiveAfter f place second
live_after_is f rows place a b first second exact places one two order = record {
  ordered = order;
  each = λ reg. (there reg, back reg);
}
  where
    has : (reg : ℕ) → has_reg second reg ≡ (at_place a rows reg || at_place b rows reg)
    has reg = two reg ∙ ap (λ h. h || at_place b rows reg) (one reg)

    there : (reg : ℕ) → has_reg second reg ≡ true → IsLiveAfter f reg place
    there reg h =
        let found = in_rows a b rows reg (sym (has reg) ∙ h) in
        (found.0, subst (λ places. has_place places found.0 ≡ true) places found.1, exact.sound found.0 reg found.2)

    back : (reg : ℕ) → IsLiveAfter f reg place → has_reg second reg ≡ true
    back reg live = has reg ∙ from_rows a b rows reg live.0 (subst (λ places. has_place places live.0 ≡ true) (sym places) live.1) (exact.complete live.0 reg live.2)
