-- A window of one instruction.
use Rattle.std.proofs.Common.{◌≡◌, ℕ, zero, suc, ◌+◌, ◌-◌, ◌<◌, ◌≤◌, List, [], ◌∷◌, ◌++◌, length, Some, refl, sym, ap, subst, ◌∙◌, arith}
use Rattle.std.specs.Prelude.{slice_get, take, drop}
use Rattle.rtx_tree.specs.declared.function.Insn.{Insn}
use Rattle.rtx_tree.specs.declared.function.Function.{Function}
use Rattle.new_insns.specs.Replaced.{window}

-- what stands at a place begins what is left there
pub at_drop : {A : Type 0} (xs : List A) (place : ℕ) (x : A) → slice_get xs place ≡ Some x → take 1 (drop place xs) ≡ x ∷ []
at_drop [] place x at = absurd (let none : ⊥ = cc in none)
at_drop (y ∷ xs) zero x at = let same : y ≡ x = cc in ap (λ z. z ∷ []) same
at_drop (y ∷ xs) (suc place) x at = at_drop xs place x at

pub at_within : {A : Type 0} (xs : List A) (place : ℕ) (x : A) → slice_get xs place ≡ Some x → place < length xs
at_within [] place x at = absurd (let none : ⊥ = cc in none)
at_within (y ∷ xs) zero x at = omega arith
at_within (y ∷ xs) (suc place) x at = let rest = at_within xs place x at in omega (arith, rest)

pub window_one : (f : Function) (place : ℕ) (i : Insn) → slice_get f.insns place ≡ Some i → window f place (place + 1) ≡ i ∷ []
window_one f place i at = let one : place + 1 - place ≡ 1 = omega arith in ap (λ n. take n (drop place f.insns)) one ∙ at_drop f.insns place i at
