-- Whether a form asks for another in turn, one step further.
use Rattle.std.proofs.Common.{◌≡◌, ℕ, suc, ◌+◌, ◌-◌, ◌<◌, ◌≤◌, ◌==◌, Bool, true, false, ◌||◌, List, Option, Some, None, sym, ap, ◌∙◌, arith}
use Rattle.lint_aside.specs.Sake.{leads, next_of, comes_to}

module _ (steps i : ℕ) (asked : List (Option ℕ)) (to at : ℕ) (whole : Bool) (so_far : comes_to (steps - i) asked to at ≡ whole) where
  -- a step is left
  here : i < steps → leads (comes_to (steps - (i + 1)) asked to) to (next_of asked at) ≡ whole
  here less =
      let left : steps - i ≡ suc (steps - (i + 1)) = omega arith in
      ap (λ (n : ℕ). comes_to n asked to at) (sym left) ∙ so_far

  pub come_nowhere : i < steps → next_of asked at ≡ None → false ≡ whole
  come_nowhere less none = ap (leads (comes_to (steps - (i + 1)) asked to) to) (sym none) ∙ here less

  pub come_here : (next : ℕ) → i < steps → next_of asked at ≡ Some next → (next == to) ≡ true → true ≡ whole
  come_here next less some same = sym (ap (λ (b : Bool). b || comes_to (steps - (i + 1)) asked to next) same) ∙ (ap (leads (comes_to (steps - (i + 1)) asked to) to) (sym some) ∙ here less)

  pub come_next : (next : ℕ) → i < steps → next_of asked at ≡ Some next → (next == to) ≡ false → comes_to (steps - (i + 1)) asked to next ≡ whole
  come_next next less some other = sym (ap (λ (b : Bool). b || comes_to (steps - (i + 1)) asked to next) other) ∙ (ap (leads (comes_to (steps - (i + 1)) asked to) to) (sym some) ∙ here less)

  -- no step is left
  pub come_no_further : steps ≤ i → false ≡ whole
  come_no_further end =
      let none : steps - i ≡ 0 = omega arith in
      ap (λ (n : ℕ). comes_to n asked to at) (sym none) ∙ so_far
