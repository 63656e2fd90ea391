-- The window of a pair, by its parts.
use Rattle.std.proofs.Common.{◌≡◌, ℕ, zero, suc, ◌+◌, ◌-◌, ◌<◌, ◌≤◌, List, [], ◌∷◌, ◌++◌, length, take, drop, Some, refl, sym, ap, ◌∙◌, arith, append_assoc, take-add}
use Rattle.std.specs.Prelude.{slice_get}
use Rattle.std.proofs.lemmas.List.{drop-drop, take-append-drop}
use Rattle.rtx_tree.specs.declared.tree.Rtx.{Rtx}
use Rattle.rtx_tree.specs.declared.function.Insn.{Insn}
use Rattle.rtx_tree.specs.declared.function.Function.{Function}
use Rattle.rtx_tree.specs.Patterns.{with_pattern}
use Rattle.new_insns.specs.Replaced.{window}
use Rattle.combine.specs.Combine.{with_last, fused_window, combined_at}

-- what stands from a place on
pub drop_here : {A : Type 0} (xs : List A) (n : ℕ) (x : A) → slice_get xs n ≡ Some x → drop n xs ≡ x ∷ drop (suc n) xs
drop_here [] n x at = cc
drop_here (y ∷ xs) zero x at = let same : y ≡ x = cc in ap (λ z. z ∷ xs) same
drop_here (y ∷ xs) (suc n) x at = drop_here xs n x at

-- what stands between two places
abbrev pub between : {A : Type 0} → List A → ℕ → ℕ → List A
between xs first second = take (second - suc first) (drop (suc first) xs)

pub behind_first : {A : Type 0} (xs : List A) (first second : ℕ) (other : A) → first < second → slice_get xs second ≡ Some other → drop (suc first) xs ≡ between xs first second ++ (other ∷ drop (suc second) xs)
behind_first xs first second other before there =
    let n = second - suc first in
    let place : suc first + n ≡ second = omega (arith, before) in
    sym (take-append-drop n (drop (suc first) xs))
    ∙ ap (λ rest. between xs first second ++ rest) (drop-drop n (suc first) xs ∙ (ap (λ k. drop k xs) place ∙ drop_here xs second other there))

pub window_parts : {A : Type 0} (xs : List A) (first second : ℕ) (one other : A) → first < second → slice_get xs first ≡ Some one → slice_get xs second ≡ Some other →
    take (second + 1 - first) (drop first xs) ≡ one ∷ (between xs first second ++ other ∷ [])
window_parts xs first second one other before here there =
    let n = second - suc first in
    let long : second + 1 - first ≡ suc (n + 1) = omega (arith, before) in
    let place : suc first + n ≡ second = omega (arith, before) in
    ap (λ k. take k (drop first xs)) long
    ∙ (ap (take (suc (n + 1))) (drop_here xs first one here)
    ∙ ap (λ rest. one ∷ rest) (take-add n 1 (drop (suc first) xs)
    ∙ ap (λ rest. between xs first second ++ rest) (ap (take 1) (drop-drop n (suc first) xs ∙ (ap (λ k. drop k xs) place ∙ drop_here xs second other there)))))

-- the whole by the parts
pub whole_parts : {A : Type 0} (xs : List A) (first second : ℕ) (one other : A) → first < second → slice_get xs first ≡ Some one → slice_get xs second ≡ Some other →
    xs ≡ take first xs ++ (one ∷ (between xs first second ++ (other ∷ drop (suc second) xs)))
whole_parts xs first second one other before here there =
    sym (take-append-drop first xs)
    ∙ ap (λ rest. take first xs ++ rest) (drop_here xs first one here ∙ ap (λ rest. one ∷ rest) (behind_first xs first second other before there))

pub last_put : (x : Rtx) (insns : List Insn) (other : Insn) → with_last x (insns ++ other ∷ []) ≡ insns ++ with_pattern other x ∷ []
last_put x [] other = refl
last_put x (i ∷ []) other = refl
last_put x (i ∷ j ∷ insns) other = ap (λ rest. i ∷ rest) (last_put x (j ∷ insns) other)

module _ (f : Function) (first second : ℕ) (x : Rtx) (one other : Insn) (before : first < second) (here : slice_get f.insns first ≡ Some one) (there : slice_get f.insns second ≡ Some other) where
  pub old_parts : window f first (second + 1) ≡ one ∷ (between f.insns first second ++ other ∷ [])
  old_parts = window_parts f.insns first second one other before here there

  pub new_parts : fused_window x (window f first (second + 1)) ≡ between f.insns first second ++ with_pattern other x ∷ []
  new_parts = ap (fused_window x) old_parts ∙ last_put x (between f.insns first second) other

  pub combined_parts : (combined_at f first second x).insns ≡ take first f.insns ++ (between f.insns first second ++ (with_pattern other x ∷ drop (suc second) f.insns))
  combined_parts =
      let next : second + 1 ≡ suc second = omega arith in
      ap (λ new. take first f.insns ++ (new ++ drop (second + 1) f.insns)) new_parts
      ∙ (ap (λ rest. take first f.insns ++ rest) (append_assoc (between f.insns first second) (with_pattern other x ∷ []) (drop (second + 1) f.insns))
      ∙ ap (λ k. take first f.insns ++ (between f.insns first second ++ (with_pattern other x ∷ drop k f.insns))) next)

pub last_long : (x : Rtx) (insns : List Insn) → length (with_last x insns) ≡ length insns
last_long x [] = refl
last_long x (i ∷ []) = refl
last_long x (i ∷ j ∷ insns) = ap suc (last_long x (j ∷ insns))

-- what is put in a window's place is no longer
pub fused_short : (x : Rtx) (insns : List Insn) → length (fused_window x insns) ≤ length insns
fused_short x [] = omega arith
fused_short x (i ∷ insns) = let long = last_long x insns in omega (arith, long)
