-- A number is read back from its decimal text.
use Rattle.std.proofs.Common.{◌≡◌, ◌<◌, ◌≤◌, ◌^◌, ◌%◌, ◌+◌, ℕ, suc, ℤ, pos, negsuc, Bool, true, false, ◌&&◌, ◌==◌, cond, List, [], ◌∷◌, ◌++◌, Option, Some, None, refl, sym, ap, subst, ◌∙◌, bytes_eq, arith}
use Rattle.std.proofs.lemmas.Bool.Decides.{nat_tests}
use Rattle.std.proofs.lemmas.Fmt.{decimal_is_IsNumeral, decimal_by_steps}
use Rattle.std.proofs.lemmas.Slice.Eq.{bytes_eq-Decides}
use Rattle.std.specs.Prelude.{nat_lt, neg_ℤ, option_map, option_and_then}
use Rattle.std.specs.Fmt.{decimal, signed_decimal}
use Rattle.std.specs.Str.Parse.{signed_digits_value, digits_value}
use Rattle.text_words.specs.Words.{fits_i64, number_in}
use Rattle.lisp_read.specs.Leaf.{below, uid_in}

-- a text that begins with a digit
abbrev pub BeginsWithDigit : List ℕ → Type 0
BeginsWithDigit text = (d : ℕ) × (rest : List ℕ) × (text ≡ d ∷ rest) × (48 ≤ d) × (d < 58)

more_digits : (ds more : List ℕ) → BeginsWithDigit ds → BeginsWithDigit (ds ++ more)
more_digits ds more h = (h.0, h.1 ++ more, ap (λ (x : List ℕ). x ++ more) h.2, h.3, h.4)

pub begins_with_digit : (n : ℕ) → n < 2 ^ 64 → BeginsWithDigit (decimal n)
begins_with_digit n fits =
    decimal_by_steps (λ _ digits. BeginsWithDigit digits) (λ k small. (48 + k, [], refl, omega arith, omega arith))
    (λ k digits large front. more_digits digits ((48 + k % 10) ∷ []) front) n fits

no_sign : (n d : ℕ) (rest : List ℕ) → 48 ≤ d → digits_value 10 (d ∷ rest) ≡ n → signed_digits_value 10 (d ∷ rest) ≡ pos n
no_sign n d rest low e =
    let minus : (d == 45) ≡ false = grind (arith, nat_tests) in
    let plus : (d == 43) ≡ false = grind (arith, nat_tests) in
    rw minus (rw plus (ap pos e))

unsigned_value : (n : ℕ) (text : List ℕ) → BeginsWithDigit text → digits_value 10 text ≡ n → signed_digits_value 10 text ≡ pos n
unsigned_value n text h = subst (λ (t : List ℕ). digits_value 10 t ≡ n → signed_digits_value 10 t ≡ pos n) (sym h.2) (no_sign n h.0 h.1 h.3)

value : (z : ℤ) → fits_i64 z ≡ true → signed_digits_value 10 (signed_decimal z) ≡ z
value (pos n) h =
    let fits : n < 2 ^ 64 = grind (arith, nat_tests) in
    unsigned_value n (decimal n) (begins_with_digit n fits) (decimal_is_IsNumeral n fits).1
value (negsuc n) h =
    let fits : suc n < 2 ^ 64 = grind (arith, nat_tests) in
    ap (λ (k : ℕ). neg_ℤ (pos k)) (decimal_is_IsNumeral (suc n) fits).1

pub number_again : (z : ℤ) → fits_i64 z ≡ true → number_in (signed_decimal z) ≡ Some z
number_again z h = rw (value z h) (rw ((bytes_eq-Decides (signed_decimal z) (signed_decimal z)).1 refl, h) refl)

pub uid_again : (n : ℕ) → n < 4294967296 → uid_in (decimal n) ≡ Some n
uid_again n h =
    let fits : fits_i64 (pos n) ≡ true = grind (arith, nat_tests) in
    let less : nat_lt n 4294967296 ≡ true = grind (arith, nat_tests) in
    ap (option_and_then (below 4294967296)) (number_again (pos n) fits) ∙ rw less refl

-- ---- what a text that was read says

pub if_some : {X : Type 0} (b : Bool) (x y : X) → cond b (Some x) None ≡ Some y → (b ≡ true) × (x ≡ y)
if_some true x y is = (refl, cc)
if_some false x y is = cc

pub and_true : (a b : Bool) → (a && b) ≡ true → (a ≡ true) × (b ≡ true)
and_true true b holds = (refl, holds)
and_true false b holds = cc

pub number_fits : (text : List ℕ) (z : ℤ) → number_in text ≡ Some z → fits_i64 z ≡ true
number_fits text z is =
    let n : ℤ = signed_digits_value 10 text in
    let says : ((bytes_eq text (signed_decimal n) && fits_i64 n) ≡ true) × (n ≡ z) = if_some (bytes_eq text (signed_decimal n) && fits_i64 n) n z is in
    sym (ap fits_i64 says.1) ∙ (and_true (bytes_eq text (signed_decimal n)) (fits_i64 n) says.0).1

pub below_less : (limit : ℕ) (z : ℤ) (n : ℕ) → below limit z ≡ Some n → (z ≡ pos n) × (n < limit)
below_less limit (pos k) n is =
    let says : (nat_lt k limit ≡ true) × (k ≡ n) = if_some (nat_lt k limit) k n is in
    let less : k < limit = grind (arith, nat_tests, says.0) in
    (ap pos says.1, subst (λ (j : ℕ). j < limit) says.1 less)
below_less limit (negsuc k) n is = cc

pub then_some : {A B : Type 0} (o : Option A) (f : A → Option B) (y : B) → option_and_then f o ≡ Some y → (x : A) × (o ≡ Some x) × (f x ≡ Some y)
then_some None f y is = cc
then_some (Some x) f y is = (x, refl, is)

pub map_some : {A B : Type 0} (o : Option A) (f : A → B) (y : B) → option_map f o ≡ Some y → (x : A) × (o ≡ Some x) × (f x ≡ y)
map_some None f y is = cc
map_some (Some x) f y is = (x, refl, cc)

pub uid_less : (text : List ℕ) (n : ℕ) → uid_in text ≡ Some n → n < 4294967296
uid_less text n is =
    let z = then_some (number_in text) (below 4294967296) n is in
    (below_less 4294967296 z.0 n z.2).1
