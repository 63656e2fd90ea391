-- Numbers and registers are written without blanks, commas, colons and parentheses.
use Rattle.std.proofs.Common.{◌≡◌, ℕ, ℤ, zero, suc, pos, negsuc, ◌+◌, ◌<◌, ◌≤◌, ◌%◌, ◌^◌, Bool, true, false, ◌&&◌, not, nat_eq, nat_lt, List, [], ◌∷◌, ◌++◌, Some, refl, sym, ◌∙◌, ap, arith}
use Rattle.std.specs.Prelude.{slice_get}
use Rattle.std.specs.List.{list_all}
use Rattle.std.specs.Fmt.{decimal, signed_decimal}
use Rattle.std.proofs.lemmas.Bool.Decides.{nat_tests}
use Rattle.std.proofs.lemmas.Fmt.{decimal_by_steps}
use Rattle.std.proofs.lemmas.List.Folds.{list_all-append}
use lib.Signed.{mag}
use Rattle.rtx_tree.specs.Registers.{reg_names}
use Rattle.rv_text.specs.Lines.{number_text, register_text}
use Rattle.rv_text.specs.machine.Cuts.{is_word_byte}
use Rattle.rv_text.proofs.Numbers.{number_text_says, both_true, and_true, mag_i64}

-- behind the parentheses, and neither a comma nor a colon
abbrev pub is_plain : ℕ → Bool
is_plain byte = nat_lt 41 byte && (not (nat_eq byte 44) && not (nat_eq byte 58))

pub plain_is_word : (byte : ℕ) → is_plain byte ≡ true → is_word_byte byte ≡ true
plain_is_word byte plain = grind (arith, nat_tests)

pub plain_is_not : (byte mark : ℕ) → is_plain byte ≡ true → mark ≤ 41 → nat_eq byte mark ≡ false
plain_is_not byte mark plain small = grind (arith, nat_tests)

digit_is_plain : (n : ℕ) → n < 10 → is_plain (48 + n) ≡ true
digit_is_plain n small = grind (arith, nat_tests)

pub all_of_both : {X : Type 0} (p : X → Bool) (xs ys : List X) → list_all p xs ≡ true → list_all p ys ≡ true → list_all p (xs ++ ys) ≡ true
all_of_both p xs ys one other = list_all-append p xs ys ∙ both_true (list_all p xs) (list_all p ys) one other

-- what each digit has, each byte of a decimal has
pub decimal_has : (p : ℕ → Bool) → ((n : ℕ) → n < 10 → p (48 + n) ≡ true) → (n : ℕ) → n < 2 ^ 64 → list_all p (decimal n) ≡ true
decimal_has p each n fits =
    decimal_by_steps (λ _ digits. list_all p digits ≡ true) (λ k small. both_true (p (48 + k)) true (each k small) refl)
    (λ k digits large front. all_of_both p digits ((48 + k % 10) ∷ []) front (both_true (p (48 + k % 10)) true (each (k % 10) (omega arith)) refl)) n fits

decimal_is_plain : (n : ℕ) → n < 2 ^ 64 → list_all is_plain (decimal n) ≡ true
decimal_is_plain n fits = decimal_has is_plain digit_is_plain n fits

signed_is_plain : (z : ℤ) → mag z < 2 ^ 63 → list_all is_plain (signed_decimal z) ≡ true
signed_is_plain (pos n) fits = decimal_is_plain n (omega arith)
signed_is_plain (negsuc n) fits = decimal_is_plain (suc n) (omega arith)

pub number_is_plain : (least most z : ℤ) (text : List ℕ) → number_text least most z ≡ Some text → list_all is_plain text ≡ true
number_is_plain least most z text is =
    let says = number_text_says least most z text is in
    sym (ap (list_all is_plain) says.2) ∙ signed_is_plain z (mag_i64 z says.0)

pub all_at : {X : Type 0} (p : X → Bool) (xs : List X) (i : ℕ) (x : X) → list_all p xs ≡ true → slice_get xs i ≡ Some x → p x ≡ true
all_at p [] i x all is = cc
all_at p (y ∷ ys) zero x all is = let same : y ≡ x = cc in sym (ap p same) ∙ (and_true (p y) (list_all p ys) all).0
all_at p (y ∷ ys) (suc i) x all is = all_at p ys i x (and_true (p y) (list_all p ys) all).1 is

pub register_is_plain : (reg : ℕ) (text : List ℕ) → register_text reg ≡ Some text → list_all is_plain text ≡ true
register_is_plain reg text is = all_at (list_all is_plain) reg_names reg text refl is
