-- Texts of numbers, one after the other.
use Rattle.std.proofs.Common.{◌≡◌, ◌<◌, ◌≤◌, ◌+◌, ◌-◌, ℕ, suc, List, ◌++◌, sym, ap, ◌∙◌, append_assoc, arith}
use Rattle.std.proofs.lemmas.List.{append-nil}
use Rattle.lint_sentences.specs.Each.{each_from}

-- one more was made
pub each_next : (text : ℕ → List ℕ) (out more whole : List ℕ) (k last : ℕ) → k < last → more ≡ out ++ text k →
    out ++ each_from text k (last - k) ≡ whole → more ++ each_from text (k + 1) (last - (k + 1)) ≡ whole
unfolding each_from
each_next text out more whole k last less made h =
    let left : last - k ≡ suc (last - (k + 1)) = omega (arith, less) in
    rw made (append_assoc out (text k) (each_from text (k + 1) (last - (k + 1)))
    ∙ ap (λ (n : ℕ). out ++ each_from text k n) (sym left) ∙ h)

-- all were made
pub each_ends : (text : ℕ → List ℕ) (out whole : List ℕ) (k last : ℕ) → last ≤ k → out ++ each_from text k (last - k) ≡ whole → out ≡ whole
unfolding each_from
each_ends text out whole k last past h =
    let none : last - k ≡ 0 = omega (arith, past) in
    sym (append-nil out) ∙ ap (λ (n : ℕ). out ++ each_from text k n) (sym none) ∙ h
