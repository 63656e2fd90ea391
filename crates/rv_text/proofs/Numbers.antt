-- Numbers of 64 bits and their texts.
use Rattle.std.proofs.Common.{◌≡◌, subst, ℕ, ℤ, pos, negsuc, ◌<◌, ◌^◌, Bool, true, false, ◌&&◌, List, Option, Some, None, Result, Ok, cond, refl, sym, ◌∙◌, ap, bytes_eq, arith}
use Rattle.std.proofs.lemmas.Bool.Decides.{nat_tests}
use Rattle.std.proofs.lemmas.Fmt.{IsAscii-signed, parse-signed_decimal}
use Rattle.std.proofs.lemmas.Str.{IsUtf8-from_ascii}
use Rattle.std.proofs.lemmas.Slice.Eq.{bytes_eq-Decides}
use Rattle.std.specs.Fmt.{signed_decimal}
use Rattle.std.specs.Int.{w64}
use Rattle.std.specs.Str.{IsUtf8}
use Rattle.std.specs.Str.Parse.{ParsesSigned}
use lib.Signed.{mag}
use Rattle.text_words.specs.Words.{fits_i64}
use Rattle.rv_text.specs.Lines.{is_within, number_text}
use Rattle.rv_text.specs.Text.{Finds}

pub mag_i64 : (z : ℤ) → fits_i64 z ≡ true → mag z < 2 ^ 63
mag_i64 (pos n) within = grind (arith, nat_tests)
mag_i64 (negsuc n) within = grind (arith, nat_tests)

-- the text of a number is no other than UTF-8
pub number_is_utf8 : (text : List ℕ) (z : ℤ) → fits_i64 z ≡ true → signed_decimal z ≡ text → IsUtf8 text
number_is_utf8 text z within is = subst IsUtf8 is (IsUtf8-from_ascii (signed_decimal z) (IsAscii-signed z (mag_i64 z within)))

-- and it is read as the number
pub number_is_read : {E : Type 0} (text : List ℕ) (r : Result ℤ E) (z : ℤ) → ParsesSigned w64 10 text r → fits_i64 z ≡ true → signed_decimal z ≡ text → r ≡ Ok z
number_is_read text r z parses within is = parse-signed_decimal w64 z text r (record { sfits = mag_i64 z within }) (mag_i64 z within) (sym is) parses

pub if_some : {X : Type 0} (b : Bool) (x y : X) → cond b (Some x) None ≡ Some y → (b ≡ true) × (x ≡ y)
if_some true x y is = (refl, cc)
if_some false x y is = cc

pub and_true : (a b : Bool) → (a && b) ≡ true → (a ≡ true) × (b ≡ true)
and_true true b holds = (refl, holds)
and_true false b holds = cc

pub both_true : (a b : Bool) → a ≡ true → b ≡ true → (a && b) ≡ true
both_true a b one other = rw one other

-- what a text of a number says of it
pub number_text_says : (least most z : ℤ) (text : List ℕ) → number_text least most z ≡ Some text → (fits_i64 z ≡ true) × (is_within least most z ≡ true) × (signed_decimal z ≡ text)
number_text_says least most z text is =
    let parts = if_some (is_within least most z) (signed_decimal z) text is in
    ((and_true (fits_i64 z) _ parts.0).0, parts.0, parts.1)

pub no_number : (text : List ℕ) (least most : ℤ) (read : Option ℤ) → ((z : ℤ) → fits_i64 z ≡ true → signed_decimal z ≡ text → read ≡ Some z) → read ≡ None → (z : ℤ) → number_text least most z ≡ Some text → ⊥
no_number text least most read all none z is =
    let says = number_text_says least most z text is in
    let some = all z says.0 says.2 in cc

pub number_found : (text : List ℕ) (least most n : ℤ) (read result : Option ℤ) → ((z : ℤ) → fits_i64 z ≡ true → signed_decimal z ≡ text → read ≡ Some z) → read ≡ Some n →
    result ≡ cond (is_within least most n && bytes_eq (signed_decimal n) text) (Some n) None → Finds (λ z. number_text least most z ≡ Some text) result
number_found text least most n read result all some is =
    let P : Option ℤ → Type 0 = λ r. Finds (λ z. number_text least most z ≡ Some text) r in
    let only : (z : ℤ) → number_text least most z ≡ Some text → z ≡ n = λ z holds. (let says = number_text_says least most z text holds in let there = all z says.0 says.2 in let same : Some z ≡ Some n = sym there ∙ some in cc) in
    subst P (sym is) (tested (is_within least most n && bytes_eq (signed_decimal n) text) refl only)
  where
    tested : (b : Bool) → (is_within least most n && bytes_eq (signed_decimal n) text) ≡ b → ((z : ℤ) → number_text least most z ≡ Some text → z ≡ n) → Finds (λ z. number_text least most z ≡ Some text) (cond b (Some n) None)
    tested true test only =
        let parts = and_true (is_within least most n) (bytes_eq (signed_decimal n) text) test in
        let same = (bytes_eq-Decides (signed_decimal n) text).0 parts.1 in
        (rw parts.0 (ap Some same), only)
    tested false test only = λ z holds. (
        let says = number_text_says least most z text holds in
        let is_n = only z holds in
        let within : is_within least most n ≡ true = ap (is_within least most) (sym is_n) ∙ says.1 in
        let text_is : signed_decimal n ≡ text = ap signed_decimal (sym is_n) ∙ says.2 in
        let equal = (bytes_eq-Decides (signed_decimal n) text).1 text_is in
        let whole = both_true (is_within least most n) (bytes_eq (signed_decimal n) text) within equal in
        cc)
