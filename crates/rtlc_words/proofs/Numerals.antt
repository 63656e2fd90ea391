-- A word writes a number exactly where it is what is printed for the number that is parsed from it.
use Rattle.std.proofs.Common.{◌≡◌, ℕ, ◌<◌, ◌^◌, Bool, true, false, ◌&&◌, cond, List, Some, None, Result, Ok, Err, bytes_eq, refl, sym, ap, ◌∙◌, arith}
use Rattle.std.specs.Prelude.{nat_lt}
use Rattle.std.specs.Fmt.{decimal}
use Rattle.std.specs.Str.Parse.{ParsesUnsigned, digits_value}
use Rattle.std.proofs.lemmas.Bool.Decides.{nat_tests}
use Rattle.std.proofs.lemmas.Fmt.{parse-decimal, decimal_is_IsNumeral}
use Rattle.std.proofs.lemmas.Slice.Eq.{bytes_eq-Decides}
use Rattle.rtlc_words.specs.Words.{number_in}
use Rattle.rtlc_words.proofs.Texts.{same_text}

text_same : (xs ys : List ℕ) → xs ≡ ys → bytes_eq xs ys ≡ true
text_same xs ys h = grind (arith, bytes_eq-Decides xs ys, h)

fits : (n : ℕ) → nat_lt n 18446744073709551616 ≡ true → n < 2 ^ 64
fits n h = grind (arith, nat_tests, h)

fitting : (n : ℕ) → n < 2 ^ 64 → nat_lt n 18446744073709551616 ≡ true
fitting n h = grind (arith, nat_tests, h)

-- what is chosen where both tests hold is the one thing that could be
no_choice : (same small : Bool) (n : ℕ) → (same ≡ true → small ≡ true → ⊥) → cond (same && small) (Some n) None ≡ None
no_choice true true n h = absurd (h refl refl)
no_choice true false n h = refl
no_choice false small n h = refl

-- a word that is the text of no number
no_number : (word : List ℕ) → ((n : ℕ) → n < 2 ^ 64 → word ≡ decimal n → ⊥) → number_in word ≡ None
no_number word never =
    let n : ℕ = digits_value 10 word in
    no_choice (bytes_eq word (decimal n)) (nat_lt n 18446744073709551616) n (λ same small. never n (fits n small) (same_text word (decimal n) same))

-- and one that is that of a number
a_number : (word : List ℕ) (n : ℕ) → n < 2 ^ 64 → word ≡ decimal n → number_in word ≡ Some n
a_number word n small is =
    let value : digits_value 10 word ≡ n = ap (digits_value 10) is ∙ (decimal_is_IsNumeral n small).1 in
    rw value (rw (text_same word (decimal n) is, fitting n small) refl)

-- a word that is not parsed is no number
pub no_number-parse : {E : Type 0} (word : List ℕ) (e : E) (r : Result ℕ E) → r ≡ Err e → ParsesUnsigned 64 10 word r → number_in word ≡ None
no_number-parse word e r is_err parses =
    no_number word (λ n small is. both r n e is_err (parse-decimal 64 n word r small small is parses))
  where
    both : {E : Type 0} (r : Result ℕ E) (n : ℕ) (e : E) → r ≡ Err e → r ≡ Ok n → ⊥
    both r n e p q = cc

-- one that is what is printed for the number
pub number_printed : (word printed : List ℕ) (n : ℕ) → n < 2 ^ 64 → printed ≡ decimal n → printed ≡ word → number_in word ≡ Some n
number_printed word printed n small is same = a_number word n small (sym same ∙ is)

-- and one that is not
pub number_unprinted : {E : Type 0} (word printed : List ℕ) (n : ℕ) (r : Result ℕ E) → r ≡ Ok n → ParsesUnsigned 64 10 word r → printed ≡ decimal n → (printed ≡ word → ⊥) → number_in word ≡ None
number_unprinted word printed n r is_ok parses is other =
    no_number word (λ m small that. other (is ∙ ap decimal (both r n m is_ok (parse-decimal 64 m word r small small that parses)) ∙ sym that))
  where
    both : {E : Type 0} (r : Result ℕ E) (n m : ℕ) → r ≡ Ok n → r ≡ Ok m → n ≡ m
    both r n m p q = cc
