-- The line that a text ends in, one byte more.
use Rattle.std.proofs.Common.{◌≡◌, ℕ, ◌+◌, ◌-◌, ◌<◌, ◌≤◌, Bool, true, false, not, List, [], ◌∷◌, cond, if◌then◌else◌, length, take, drop, get_or, ap, ◌∙◌, arith}
use Rattle.std.specs.List.{prefix_len, suffix_len, after_last}
use Rattle.std.proofs.lemmas.List.{take_more, take_all, reverse-append}
use Rattle.lint_about.specs.About.{is_break}

-- how many bytes stand behind the last break
abbrev behind : List ℕ → ℕ
behind xs = suffix_len (λ byte. not (is_break byte)) xs

behind_more : (xs : List ℕ) (i : ℕ) → i < length xs → behind (take (i + 1) xs) ≡ cond (not (is_break (get_or xs i 0))) (1 + behind (take i xs)) 0
behind_more xs i within =
    ap behind (take_more xs i 0 within) ∙ ap (prefix_len (λ byte. not (is_break byte))) (reverse-append (take i xs) (get_or xs i 0 ∷ []))

by_case : (b : Bool) (i start n : ℕ) → start + n ≡ i → (if b then i + 1 else start) + cond (not b) (1 + n) 0 ≡ i + 1
by_case true i start n e = omega arith
by_case false i start n e = omega (arith, e)

-- where the line begins behind one byte more
pub start_next : (xs : List ℕ) (i start b next : ℕ) → i < length xs → b ≡ get_or xs i 0 → next ≡ (if is_break b then i + 1 else start) →
    start + suffix_len (λ byte. not (is_break byte)) (take i xs) ≡ i → next + suffix_len (λ byte. not (is_break byte)) (take (i + 1) xs) ≡ i + 1
start_next xs i start b next within is made so_far =
    rw made (rw is (rw (behind_more xs i within) (by_case (is_break (get_or xs i 0)) i start (behind (take i xs)) so_far)))

-- the line is what stands from there on
pub start_last : (xs : List ℕ) (i start : ℕ) → length xs ≤ i → i ≤ length xs → start + suffix_len (λ byte. not (is_break byte)) (take i xs) ≡ i → drop start xs ≡ after_last is_break xs
start_last xs i start end within so_far =
    let whole : take i xs ≡ xs = take_all i xs end in
    let all : start + behind xs ≡ i = rw whole at so_far in
    let here : start ≡ length xs - behind xs = omega arith in
    ap (λ (k : ℕ). drop k xs) here
