-- What begins a number is a number that is no greater, or 0x.
use Rattle.std.proofs.Common.{◌≡◌, ℕ, ◌+◌, ◌*◌, ◌^◌, ◌≤◌, ◌==◌, nat_lt, Bool, true, false, cond, List, [], ◌∷◌, ◌++◌, Option, Some, None, refl, arith, ◌⊎◌, inl, inr, ◌||◌}
use Rattle.std.specs.Prelude.{option_and_then}
use Rattle.c_words.specs.text_words.Numbers.{digit_in, with_digit, read_digits, behind_zero, c_number_in}

some_is : {A : Type 0} {x y : A} → Some x ≡ Some y → x ≡ y
some_is e = cc

none_some : {A : Type 0} {x : A} → None ≡ Some x → ⊥
none_some e = cc

with_grows : (v base digit l : ℕ) → v ≤ v * base → with_digit v base digit ≡ Some l → v ≤ l
with_grows v base digit l h e = by_test (nat_lt (v * base + digit) (2 ^ 64)) e
  where
    by_test : (t : Bool) → cond t (Some (v * base + digit)) None ≡ Some l → v ≤ l
    by_test true e = let f : v * base + digit ≡ l = some_is e in omega (arith, h, f)
    by_test false e = absurd (none_some e)

read_grows : (base : ℕ) → ((v : ℕ) → v ≤ v * base) → (ds : List ℕ) (v n : ℕ) → read_digits base v ds ≡ Some n → v ≤ n
read_grows base h [] v n e = let f : v ≡ n = some_is e in omega (arith, f)
read_grows base h (b ∷ bs) v n e = by_digit (digit_in base b) e (read_grows base h bs)
  where
    by_longer : (digit : ℕ) (o : Option ℕ) → with_digit v base digit ≡ o → option_and_then (λ longer. read_digits base longer bs) o ≡ Some n → ((v n : ℕ) → read_digits base v bs ≡ Some n → v ≤ n) → v ≤ n
    by_longer digit None w e ih = absurd (none_some e)
    by_longer digit (Some l) w e ih = omega (arith, with_grows v base digit l (h v) w, ih l n e)

    by_digit : (o : Option ℕ) → option_and_then (λ digit. option_and_then (λ longer. read_digits base longer bs) (with_digit v base digit)) o ≡ Some n → ((v n : ℕ) → read_digits base v bs ≡ Some n → v ≤ n) → v ≤ n
    by_digit None e ih = absurd (none_some e)
    by_digit (Some digit) e ih = by_longer digit (with_digit v base digit) refl e ih

-- a number that is no greater is read
abbrev NoGreater : Option ℕ → ℕ → Type 0
NoGreater o n = (m : ℕ) × (o ≡ Some m) × (m ≤ n)

read_prefix : (base : ℕ) → ((v : ℕ) → v ≤ v * base) → (xs more : List ℕ) (v n : ℕ) → read_digits base v (xs ++ more) ≡ Some n → NoGreater (read_digits base v xs) n
read_prefix base h [] more v n e = (v, refl, read_grows base h more v n e)
read_prefix base h (b ∷ bs) more v n e = by_digit (digit_in base b) e (read_prefix base h bs more)
  where
    by_longer : (o : Option ℕ) → option_and_then (λ longer. read_digits base longer (bs ++ more)) o ≡ Some n → ((v n : ℕ) → read_digits base v (bs ++ more) ≡ Some n → NoGreater (read_digits base v bs) n) →
        NoGreater (option_and_then (λ longer. read_digits base longer bs) o) n
    by_longer None e ih = absurd (none_some e)
    by_longer (Some l) e ih = ih l n e

    by_digit : (o : Option ℕ) → option_and_then (λ digit. option_and_then (λ longer. read_digits base longer (bs ++ more)) (with_digit v base digit)) o ≡ Some n →
        ((v n : ℕ) → read_digits base v (bs ++ more) ≡ Some n → NoGreater (read_digits base v bs) n) →
        NoGreater (option_and_then (λ digit. option_and_then (λ longer. read_digits base longer bs) (with_digit v base digit)) o) n
    by_digit None e ih = absurd (none_some e)
    by_digit (Some digit) e ih = by_longer (with_digit v base digit) e ih

-- a run that is a number no greater than this, or is one with a zero behind it
abbrev pub Shorter : List ℕ → ℕ → Type 0
Shorter run n = NoGreater (c_number_in run) n ⊎ (c_number_in (run ++ 48 ∷ []) ≡ Some 0)

-- behind a zero and an x
behind_x : (x n : ℕ) (more : List ℕ) → behind_zero (x ∷ more) ≡ Some n → behind_zero (x ∷ 48 ∷ []) ≡ Some 0
behind_x x n [] e = absurd (none_some e)
behind_x x n (d ∷ ds) e = by_test (x == 120 || x == 88) e
  where
    by_test : (t : Bool) → cond t (read_digits 16 0 (d ∷ ds)) None ≡ Some n → cond t (read_digits 16 0 (48 ∷ [])) None ≡ Some 0
    by_test true e = refl
    by_test false e = absurd (none_some e)

behind_digits : (x d n : ℕ) (ds more : List ℕ) → behind_zero (x ∷ d ∷ (ds ++ more)) ≡ Some n → NoGreater (behind_zero (x ∷ d ∷ ds)) n
behind_digits x d n ds more e = by_test (x == 120 || x == 88) e
  where
    by_test : (t : Bool) → cond t (read_digits 16 0 (d ∷ (ds ++ more))) None ≡ Some n → NoGreater (cond t (read_digits 16 0 (d ∷ ds)) None) n
    by_test true e = read_prefix 16 (λ v. omega arith) (d ∷ ds) more 0 n e
    by_test false e = absurd (none_some e)

zero_shorter : (bs more : List ℕ) (n : ℕ) → behind_zero (bs ++ more) ≡ Some n → NoGreater (behind_zero bs) n ⊎ (behind_zero (bs ++ 48 ∷ []) ≡ Some 0)
zero_shorter [] more n e = inl (0, refl, omega arith)
zero_shorter (x ∷ []) more n e = inr (behind_x x n more e)
zero_shorter (x ∷ d ∷ ds) more n e = inl (behind_digits x d n ds more e)

shorter_cons : (b : ℕ) (bs more : List ℕ) (n : ℕ) → c_number_in (b ∷ (bs ++ more)) ≡ Some n → Shorter (b ∷ bs) n
shorter_cons b bs more n e = by_test (b == 48) e
  where
    by_test : (t : Bool) → cond t (behind_zero (bs ++ more)) (read_digits 10 0 (b ∷ (bs ++ more))) ≡ Some n →
        NoGreater (cond t (behind_zero bs) (read_digits 10 0 (b ∷ bs))) n ⊎ (cond t (behind_zero (bs ++ 48 ∷ [])) (read_digits 10 0 (b ∷ (bs ++ 48 ∷ []))) ≡ Some 0)
    by_test true e = zero_shorter bs more n e
    by_test false e = inl (read_prefix 10 (λ v. omega arith) (b ∷ bs) more 0 n e)

pub shorter : (run more : List ℕ) (n : ℕ) → c_number_in (run ++ more) ≡ Some n → Shorter run n
shorter [] more n e = inr refl
shorter (b ∷ bs) more n e = shorter_cons b bs more n e
