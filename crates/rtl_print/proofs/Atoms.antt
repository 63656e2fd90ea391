-- The words of a printed text are atoms, and its names may stand in quotes.
use Rattle.std.proofs.Common.{◌≡◌, ◌<◌, ◌≤◌, ◌+◌, ◌-◌, ◌%◌, ◌^◌, inl, inr, ℕ, suc, ℤ, pos, negsuc, List, [], ◌∷◌, ◌++◌, Bool, true, false, ◌&&◌, ◌||◌, ◌==◌, cond, refl, sym, ap, ◌∙◌, arith}
use Rattle.std.proofs.lemmas.Bool.Decides.{nat_tests}
use Rattle.std.proofs.lemmas.Fmt.{decimal_by_steps}
use Rattle.std.proofs.lemmas.List.Folds.{list_all-append}
use Rattle.std.specs.Prelude.{nat_lt}
use Rattle.std.specs.List.{list_all}
use Rattle.std.specs.Fmt.{decimal, signed_decimal}
use Rattle.rtx_tree.specs.declared.code.Code.{Code}
use Rattle.rtx_tree.specs.declared.code.Code.TheVariants as code
use Rattle.rtx_tree.specs.declared.code.Mode.{Mode}
use Rattle.rtx_tree.specs.declared.code.Mode.TheVariants as mode
use Rattle.text_words.specs.Words.{fits_i64, is_symbol, is_symbol_byte}
use Rattle.lisp_read.specs.declared.class.ByteClass.{ByteClass}
use Rattle.lisp_read.specs.declared.class.ByteClass.TheVariants as class
use Rattle.lisp_read.specs.declared.class.Bracket.TheVariants.{Round, Square}
use Rattle.lisp_read.specs.Class.{class_of, is_atom_class, in_quotes}
use Rattle.lisp_read.specs.Text.{Each, IsAtom, IsQuoted}
use Rattle.rtl_print.specs.Print.{head_text, starred}
use Rattle.rtl_print.proofs.Numbers.{and_true}
use Rattle.rtl_print.proofs.Registers.{IsRegister, one_below}
use Rattle.rtx_tree.specs.Registers.{register_text}

-- ---- words

abbrev is_atom_byte : ℕ → Bool
is_atom_byte b = is_atom_class (class_of b)

-- what an atom may begin with, whatever follows
abbrev starts : ByteClass → Bool
starts class.Star = true
starts class.Backslash = true
starts class.Plain = true
starts _ = false

abbrev pub is_plain_word : List ℕ → Bool
is_plain_word [] = false
is_plain_word (b ∷ bs) = starts (class_of b) && list_all is_atom_byte bs

each_byte : (bs : List ℕ) → list_all is_atom_byte bs ≡ true → Each is_atom_class bs
each_byte [] h = tt
each_byte (b ∷ bs) h = let parts = and_true (is_atom_byte b) (list_all is_atom_byte bs) h in (parts.0, each_byte bs parts.1)

start_is_atom : (c : ByteClass) → starts c ≡ true → is_atom_class c ≡ true
start_is_atom class.Star h = refl
start_is_atom class.Backslash h = refl
start_is_atom class.Plain h = refl
start_is_atom _ h = cc

no_slash : (c : ByteClass) → starts c ≡ true → c ≡ class.Slash → ⊥
no_slash c h e = let wrong : starts class.Slash ≡ true = sym (ap starts e) ∙ h in let none : ⊥ = cc in none

pub word_is_atom : (w : List ℕ) → is_plain_word w ≡ true → IsAtom w
word_is_atom [] h = absurd (let none : ⊥ = cc in none)
word_is_atom (b ∷ bs) h =
    let parts = and_true (starts (class_of b)) (list_all is_atom_byte bs) h in
    (start_is_atom (class_of b) parts.0, each_byte bs parts.1, λ e. absurd (no_slash (class_of b) parts.0 e))

both_true : (a b : Bool) → a ≡ true → b ≡ true → (a && b) ≡ true
both_true a b one other = rw one other

all_more : (bs cs : List ℕ) → list_all is_atom_byte bs ≡ true → list_all is_atom_byte cs ≡ true → list_all is_atom_byte (bs ++ cs) ≡ true
all_more bs cs one other = list_all-append is_atom_byte bs cs ∙ both_true (list_all is_atom_byte bs) (list_all is_atom_byte cs) one other

word_more : (w more : List ℕ) → is_plain_word w ≡ true → list_all is_atom_byte more ≡ true → is_plain_word (w ++ more) ≡ true
word_more [] more h all = cc
word_more (b ∷ bs) more h all =
    let parts = and_true (starts (class_of b)) (list_all is_atom_byte bs) h in
    both_true (starts (class_of b)) (list_all is_atom_byte (bs ++ more)) parts.0 (all_more bs more parts.1 all)

word_bytes : (w : List ℕ) → is_plain_word w ≡ true → list_all is_atom_byte w ≡ true
word_bytes [] h = refl
word_bytes (b ∷ bs) h =
    let parts = and_true (starts (class_of b)) (list_all is_atom_byte bs) h in
    both_true (is_atom_byte b) (list_all is_atom_byte bs) (start_is_atom (class_of b) parts.0) parts.1

-- ---- heads, numbers and registers

by_mode : (m : Mode) (c : Code) → is_plain_word (head_text c m) ≡ true
by_mode mode.Void code.Reg = refl
by_mode mode.QI code.Reg = refl
by_mode mode.HI code.Reg = refl
by_mode mode.SI code.Reg = refl
by_mode mode.DI code.Reg = refl
by_mode _ _ = refl

pub head_is_atom : (c : Code) (m : Mode) → IsAtom (head_text c m)
head_is_atom c m = word_is_atom (head_text c m) (by_mode m c)

digit_starts : (k : ℕ) → k < 10 → starts (class_of (48 + k)) ≡ true
digit_starts k small = one_below 10 (λ (n : ℕ). starts (class_of (48 + n))) k refl small

decimal_word : (n : ℕ) → n < 2 ^ 64 → is_plain_word (decimal n) ≡ true
decimal_word n fits =
    decimal_by_steps (λ _ digits. is_plain_word digits ≡ true) (λ k small. both_true (starts (class_of (48 + k))) true (digit_starts k small) refl)
    (λ k digits large front. word_more digits ((48 + k % 10) ∷ []) front
    (both_true (is_atom_byte (48 + k % 10)) true (start_is_atom (class_of (48 + k % 10)) (digit_starts (k % 10) (omega arith))) refl)) n fits

pub decimal_is_atom : (n : ℕ) → n < 2 ^ 64 → IsAtom (decimal n)
decimal_is_atom n fits = word_is_atom (decimal n) (decimal_word n fits)

pub number_is_atom : (z : ℤ) → fits_i64 z ≡ true → IsAtom (signed_decimal z)
number_is_atom (pos n) h = decimal_is_atom n (grind (arith, nat_tests))
number_is_atom (negsuc n) h = word_is_atom (45 ∷ decimal (suc n)) (word_bytes (decimal (suc n)) (decimal_word (suc n) (grind (arith, nat_tests))))

low_word : (r : ℕ) → r < 33 → is_plain_word (register_text r) ≡ true
low_word r less = one_below 33 (λ (k : ℕ). is_plain_word (register_text k)) r refl less

high_word : (r : ℕ) → 64 ≤ r → r < 2147483712 → is_plain_word (register_text r) ≡ true
high_word r low high =
    let hard : nat_lt r 32 ≡ false = grind (arith, nat_tests) in
    let stack : nat_lt r 64 ≡ false = grind (arith, nat_tests) in
    rw (hard, stack) (all_more (decimal (r - 64)) (62 ∷ []) (word_bytes (decimal (r - 64)) (decimal_word (r - 64) (omega arith))) refl)

pub register_is_atom : (r : ℕ) → IsRegister r → IsAtom (register_text r)
register_is_atom r (inl less) = word_is_atom (register_text r) (low_word r less)
register_is_atom r (inr within) = word_is_atom (register_text r) (high_word r within.0 within.1)

-- ---- names

quoted_by : (blank line semi slash star opens closes round square end last low plain : Bool) →
    in_quotes (cond blank class.Blank (cond line class.Newline (cond semi class.Semicolon (cond slash class.Slash (cond star class.Star (cond opens class.OpenBrace (cond closes class.CloseBrace (cond round (class.Open Round) (cond square (class.Open Square) (cond end (class.Close Round) (cond last (class.Close Square) (cond low class.Other (cond plain class.Plain class.Other))))))))))))) ≡ true
quoted_by true _ _ _ _ _ _ _ _ _ _ _ _ = refl
quoted_by false true _ _ _ _ _ _ _ _ _ _ _ = refl
quoted_by false false true _ _ _ _ _ _ _ _ _ _ = refl
quoted_by false false false true _ _ _ _ _ _ _ _ _ = refl
quoted_by false false false false true _ _ _ _ _ _ _ _ = refl
quoted_by false false false false false true _ _ _ _ _ _ _ = refl
quoted_by false false false false false false true _ _ _ _ _ _ = refl
quoted_by false false false false false false false true _ _ _ _ _ = refl
quoted_by false false false false false false false false true _ _ _ _ = refl
quoted_by false false false false false false false false false true _ _ _ = refl
quoted_by false false false false false false false false false false true _ _ = refl
quoted_by false false false false false false false false false false false true _ = refl
quoted_by false false false false false false false false false false false false true = refl
quoted_by false false false false false false false false false false false false false = refl

symbol_byte : (b : ℕ) → is_symbol_byte b ≡ true → in_quotes (class_of b) ≡ true
symbol_byte b h =
    let zero : (b == 0) ≡ false = grind (arith, nat_tests) in
    let quote : (b == 34) ≡ false = grind (arith, nat_tests) in
    let backslash : (b == 92) ≡ false = grind (arith, nat_tests) in
    rw (zero, quote, backslash) (quoted_by (b == 32 || b == 9 || b == 13 || b == 12) (b == 10) (b == 59) (b == 47) (b == 42) (b == 123) (b == 125) (b == 40) (b == 91) (b == 41) (b == 93) (nat_lt b 33) (nat_lt b 127))

quoted_bytes : (bs : List ℕ) → list_all is_symbol_byte bs ≡ true → IsQuoted bs
quoted_bytes [] h = IsQuoted.nothing
quoted_bytes (b ∷ bs) h =
    let parts = and_true (is_symbol_byte b) (list_all is_symbol_byte bs) h in
    IsQuoted.byte b bs (symbol_byte b parts.0) (quoted_bytes bs parts.1)

pub symbol_is_quoted : (name : List ℕ) → is_symbol name ≡ true → IsQuoted name
symbol_is_quoted [] h = IsQuoted.nothing
symbol_is_quoted (b ∷ bs) h = quoted_bytes (b ∷ bs) (and_true _ (list_all is_symbol_byte (b ∷ bs)) h).1

pub starred_is_quoted : (name : List ℕ) → is_symbol name ≡ true → IsQuoted (starred name)
starred_is_quoted [] h = IsQuoted.nothing
starred_is_quoted (b ∷ bs) h = by_star (b == 42) (symbol_is_quoted (b ∷ bs) h)
  where
    by_star : (s : Bool) → IsQuoted (b ∷ bs) → IsQuoted (cond s (42 ∷ b ∷ bs) (b ∷ bs))
    by_star true q = IsQuoted.byte 42 (b ∷ bs) refl q
    by_star false q = q
