-- A text is a number exactly where it is what is printed for the number that is parsed from it.
use Rattle.std.proofs.Common.{◌≡◌, ℕ, ◌<◌, ◌^◌, ℤ, pos, negsuc, Bool, true, false, ◌&&◌, cond, List, Option, Some, None, Result, Ok, Err, IsUtf8, FitsSigned, bytes_eq, get_or, refl, sym, subst, arith}
use Rattle.std.proofs.lemmas.Fmt.{IsAscii-signed, parse-signed_decimal}
use Rattle.std.proofs.lemmas.Str.{IsUtf8-from_ascii}
use Rattle.std.specs.Int.{w64}
use Rattle.std.specs.Fmt.{signed_decimal}
use Rattle.std.specs.Str.Parse.{ParsesSigned, signed_digits_value}
use Rattle.std.proofs.lemmas.Slice.Eq.{bytes_eq-Decides}
use lib.Signed.{mag}
use Rattle.text_words.specs.Words.{fits_i64, number_in}

fits_mag : (n : ℤ) → fits_i64 n ≡ true → mag n < 2 ^ 63
fits_mag (pos n) h = grind arith
fits_mag (negsuc n) h = grind arith

mag_fits : (n : ℤ) → mag n < 2 ^ 63 → fits_i64 n ≡ true
mag_fits (pos n) h = grind arith
mag_fits (negsuc n) h = grind arith

-- what is chosen where both tests hold is the one thing that could be
abbrev Chosen : Bool → Bool → ℤ → Option ℤ
Chosen same fits n = cond (same && fits) (Some n) None

no_choice : (same fits : Bool) (n : ℤ) → (same ≡ true → fits ≡ true → ⊥) → Chosen same fits n ≡ None
no_choice true true n h = absurd (h refl refl)
no_choice true false n h = refl
no_choice false fits n h = refl

same_text : (xs ys : List ℕ) → bytes_eq xs ys ≡ true → xs ≡ ys
same_text xs ys h = grind (arith, bytes_eq-Decides xs ys, h)

-- a text that is no UTF-8 is no number
pub no_number-utf8 : (text : List ℕ) → ¬ (IsUtf8 text) → number_in text ≡ None
no_number-utf8 text bad =
    let n : ℤ = signed_digits_value 10 text in
    no_choice (bytes_eq text (signed_decimal n)) (fits_i64 n) n
    (λ same fits. bad (IsUtf8-from_ascii text (subst (λ (t : List ℕ). (i : ℕ) → get_or t i 0 < 128) (sym (same_text text (signed_decimal n) same)) (IsAscii-signed n (fits_mag n fits)))))

-- nor is a text that is not parsed
pub no_number-parse : {E : Type 0} (text digits : List ℕ) (e : E) (r : Result ℤ E) → digits ≡ text → r ≡ Err e → ParsesSigned w64 10 digits r → number_in text ≡ None
no_number-parse text digits e r same_digits is_err parses =
    let n : ℤ = signed_digits_value 10 text in
    no_choice (bytes_eq text (signed_decimal n)) (fits_i64 n) n
    (λ same fits. both r n e is_err (parse-signed_decimal w64 n text r (record { sfits = fits_mag n fits }) (fits_mag n fits) (same_text text (signed_decimal n) same) (subst (λ (t : List ℕ). ParsesSigned w64 10 t r) same_digits parses)))
  where
    both : {E : Type 0} (r : Result ℤ E) (n : ℤ) (e : E) → r ≡ Err e → r ≡ Ok n → ⊥
    both r n e p q = cc

-- a text that is parsed is a number where it is what is printed
pub number_if_printed : (text printed : List ℕ) (n : ℤ) → n ≡ signed_digits_value 10 text → FitsSigned w64 n → printed ≡ signed_decimal n → number_in text ≡ cond (bytes_eq text printed) (Some n) None
number_if_printed text printed n e fits p = rw (← e) (rw (p, mag_fits n fits.sfits) (chosen (bytes_eq text (signed_decimal n)) n))
  where
    chosen : (same : Bool) (n : ℤ) → cond (same && true) (Some n) None ≡ cond same (Some n) None
    chosen true n = refl
    chosen false n = refl
