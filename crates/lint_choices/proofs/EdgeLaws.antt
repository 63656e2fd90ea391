-- The edges so far, and those of the rest.
use Rattle.std.proofs.Common.{◌≡◌, ℕ, suc, ◌+◌, ◌-◌, ◌<◌, Bool, true, false, List, [], ◌∷◌, ◌++◌, filter, if◌then◌else◌, sym, ap, ◌∙◌, append_assoc, arith}
use Rattle.std.specs.List.{range_with_len}
use Rattle.std.proofs.lemmas.List.{append-nil}

-- the next number is kept
pub edge_next : (keeps : ℕ → Bool) (i end : ℕ) (out whole : List ℕ) → i < end → keeps i ≡ true →
    out ++ filter keeps (range_with_len i (end - i)) ≡ whole → (out ++ i ∷ []) ++ filter keeps (range_with_len (i + 1) (end - (i + 1))) ≡ whole
edge_next keeps i end out whole within kept h =
    let n : ℕ = end - (i + 1) in
    let here : end - i ≡ suc n = omega arith in
    append_assoc out (i ∷ []) (filter keeps (range_with_len (i + 1) n))
    ∙ sym (ap (λ (k : ℕ). out ++ filter keeps (range_with_len i k)) here ∙ ap (λ (b : Bool). out ++ (if b then i ∷ filter keeps (range_with_len (i + 1) n) else filter keeps (range_with_len (i + 1) n))) kept) ∙ h

-- it isn't
pub no_edge_next : (keeps : ℕ → Bool) (i end : ℕ) (out whole : List ℕ) → i < end → keeps i ≡ false →
    out ++ filter keeps (range_with_len i (end - i)) ≡ whole → out ++ filter keeps (range_with_len (i + 1) (end - (i + 1))) ≡ whole
no_edge_next keeps i end out whole within left h =
    let n : ℕ = end - (i + 1) in
    let here : end - i ≡ suc n = omega arith in
    sym (ap (λ (k : ℕ). out ++ filter keeps (range_with_len i k)) here ∙ ap (λ (b : Bool). out ++ (if b then i ∷ filter keeps (range_with_len (i + 1) n) else filter keeps (range_with_len (i + 1) n))) left) ∙ h

-- all are asked
pub edges_end : (keeps : ℕ → Bool) (end : ℕ) (out whole : List ℕ) → out ++ filter keeps (range_with_len end (end - end)) ≡ whole → out ≡ whole
edges_end keeps end out whole h =
    let none : end - end ≡ 0 = omega arith in
    sym (ap (λ (k : ℕ). out ++ filter keeps (range_with_len end k)) none ∙ append-nil out) ∙ h
