-- Sets of registers whose numbers have 32 bits, made of rows.
use Rattle.std.proofs.Common.{◌≡◌, ◌↔◌, ℕ, ◌≤◌, ◌<◌, ◌^◌, ◌/◌, true, List, length, inl, inr, sym, ◌∙◌, arith}
use Rattle.std.proofs.lemmas.Bool.{false≢true, cases_lt}
use Rattle.std.specs.List.Sorted.{IsStrictlyIncreasing}
use Rattle.rtx_tree.specs.declared.function.Function.{Function}
use Rattle.rtx_tree.specs.RegSet.{has_reg}
use Rattle.reg_rows.specs.Row.{has}
use Rattle.reg_rows.proofs.WordLaws.{has_past}
use Rattle.live.specs.Live.{IsLiveAfter, AreLiveAfter}

-- a row of few words has registers with such numbers
row_narrow : (row : List ℕ) → length row ≤ 2 ^ 26 → (reg : ℕ) → has row reg ≡ true → reg < 2 ^ 32
row_narrow row few reg h =
    elim (cases_lt reg (2 ^ 32)) [
      | inl less ↦ less
      | inr more ↦
          let past : length row ≤ reg / 64 = omega (arith, few, more) in
          absurd (false≢true (sym (has_past row reg past) ∙ h))
    ]

-- and so has a set of the same
pub set_narrow : (row set : List ℕ) → length row ≤ 2 ^ 26 → ((reg : ℕ) → has_reg set reg ≡ has row reg) →
    (reg : ℕ) → has_reg set reg ≡ true → reg < 2 ^ 32
set_narrow row set few same reg h = row_narrow row few reg (sym (same reg) ∙ h)

-- a set of what a row has that is live after a place
pub live_is : (f : Function) (place : ℕ) (row set : List ℕ) →
    ((reg : ℕ) → (has row reg ≡ true) ↔ IsLiveAfter f reg place) →
    ((reg : ℕ) → has_reg set reg ≡ has row reg) → IsStrictlyIncreasing set → AreLiveAfter f place set
live_is f place row set after same ordered = record {
  ordered = ordered;
  each = λ reg. ((λ h. (after reg).0 (sym (same reg) ∙ h)), (λ live. same reg ∙ (after reg).1 live));
}
