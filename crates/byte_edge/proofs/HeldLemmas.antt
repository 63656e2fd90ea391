-- What is taken from the front of what is left.
use Rattle.std.proofs.Common.{◌≡◌, ℕ, ◌+◌, ◌-◌, ◌≤◌, List, ◌++◌, length, take, drop, sym, ap, ◌∙◌}
use Rattle.std.proofs.lemmas.List.{take-append-drop, take_at, take_rest, length-take-le, drop-drop}

-- n bytes from a place on were copied to the front of the slice
pub front_taken : (bytes into copied : List ℕ) (at n : ℕ) → copied ≡ take n (take (length bytes - at) (drop at bytes)) → n ≤ length (drop at bytes) →
    drop at bytes ≡ take n (copied ++ drop n into) ++ drop (at + n) bytes
front_taken bytes into copied at n e h =
    let front : copied ≡ take n (drop at bytes) = e ∙ ap (take n) (take_rest bytes at) in
    let size : length copied ≡ n = ap length front ∙ length-take-le n (drop at bytes) h in
    sym (take-append-drop n (drop at bytes)) ∙ ap (λ (z : List ℕ). z ++ drop n (drop at bytes)) (sym front ∙ sym (take_at copied (drop n into) n size)) ∙
    ap (λ (z : List ℕ). take n (copied ++ drop n into) ++ z) (drop-drop n at bytes)
