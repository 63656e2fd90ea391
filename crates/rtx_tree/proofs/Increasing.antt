-- Lists of increasing numbers.
use Rattle.std.proofs.Common.{◌≡◌, ◌<◌, ◌+◌, ℕ, List, [], ◌∷◌, ◌++◌, length, get_or, ap, ◌∙◌, inl, inr, arith}
use Rattle.std.specs.List.Sorted.{IsStrictlyIncreasing}
use Rattle.std.proofs.lemmas.List.{get_or_append_left, length-append}
use Rattle.std.proofs.lemmas.Bool.{cases_lt}
use Rattle.std.proofs.Math.Seq.{get_or-append_seam}

-- a greater number at the end keeps the order
pub increasing-append : (xs : List ℕ) (x : ℕ) → IsStrictlyIncreasing xs → ((k : ℕ) → k + 1 ≡ length xs → get_or xs k 0 < x) → IsStrictlyIncreasing (xs ++ x ∷ [])
increasing-append xs x up last k within =
    let len = length-append xs (x ∷ []) in
    let here = get_or_append_left xs (x ∷ []) 0 k (omega arith) in
    elim (cases_lt (k + 1) (length xs)) [
      | inl less ↦ let next = get_or_append_left xs (x ∷ []) 0 (k + 1) less in let below = up k less in omega arith
      | inr past ↦ let end : k + 1 ≡ length xs = omega arith in let next = ap (λ n. get_or (xs ++ x ∷ []) n 0) end ∙ get_or-append_seam xs x [] 0 in let below = last k end in omega arith
    ]
