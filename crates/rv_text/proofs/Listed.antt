-- Operands in a row: each text is a word, so the bytes are cut in one way alone.
use Rattle.std.proofs.Common.{◌≡◌, ◌≢◌, ℕ, ℤ, pos, negsuc, ◌-◌, ◌<◌, ◌≤◌, ◌^◌, Bool, true, false, nat_lt, length, get_or, take, drop, List, [], ◌∷◌, ◌++◌, Option, Some, None, refl, sym, ◌∙◌, ap, subst, arith}
use Rattle.std.specs.List.{list_all}
use Rattle.std.specs.Fmt.{signed_decimal}
use Rattle.std.proofs.lemmas.Bool.Decides.{nat_tests}
use Rattle.std.proofs.lemmas.Fmt.{decimal_nonempty}
use Rattle.std.proofs.lemmas.List.Folds.{list_all-append}
use Rattle.std.proofs.lemmas.List.{append-nil}
use Rattle.std.proofs.Math.Seq.{take-length}
use lib.Signed.{mag}
use Rattle.rtx_tree.specs.Registers.{reg_names}
use Rattle.text_words.specs.Words.{is_symbol, is_symbol_byte}
use Rattle.rv_text.specs.Lines.{number_text, register_text, operand_text}
use Rattle.rv_text.specs.Text.{Finds, Sets, IsListedFrom}
use Rattle.text_words.specs.Blanks.{behind_spaces}
use Rattle.rv_text.specs.machine.Cuts.{is_word_byte, word, behind_word, behind_comma}
use Rattle.rv_text.specs.declared.line.Line.{Line}
use Rattle.rv_text.specs.declared.operand.Operand.{Operand}
use Rattle.rv_text.specs.declared.operand.Operand.TheVariants.{Rd, Rs, Rt, Number, Place, Target, Ra}
use Rattle.rv_text.proofs.Numbers.{number_text_says, and_true, both_true, if_some, mag_i64}
use Rattle.rv_text.proofs.Plain.{is_plain, plain_is_word, number_is_plain, register_is_plain, all_at}
use Rattle.rv_text.proofs.Places.{place_text_says}
use Rattle.rv_text.proofs.Words.{is_word, stays, cut, blanks_end, joined, comma_says, comma_is}

-- ---- the texts of operands are words

pub all_of : (p q : ℕ → Bool) → ((b : ℕ) → p b ≡ true → q b ≡ true) → (bytes : List ℕ) → list_all p bytes ≡ true → list_all q bytes ≡ true
all_of p q each [] all = refl
all_of p q each (b ∷ bytes) all = let parts = and_true (p b) (list_all p bytes) all in both_true (q b) (list_all q bytes) (each b parts.0) (all_of p q each bytes parts.1)

word_from_all : (text : List ℕ) → text ≢ [] → list_all is_word_byte text ≡ true → is_word text ≡ true
word_from_all [] some all = absurd (some refl)
word_from_all (b ∷ text) some all = all

symbol_is_word_byte : (b : ℕ) → is_symbol_byte b ≡ true → is_word_byte b ≡ true
symbol_is_word_byte b h = grind (arith, nat_tests)

symbol_is_word : (text : List ℕ) → is_symbol text ≡ true → is_word text ≡ true
symbol_is_word text symbol =
    let parts = and_true (nat_lt 0 (length text)) (list_all is_symbol_byte text) symbol in
    word_from_all text (λ none. let zero : length text ≡ 0 = ap length none in let no : nat_lt 0 (length text) ≡ false = grind (arith, nat_tests) in let e = parts.0 in cc) (all_of is_symbol_byte is_word_byte symbol_is_word_byte text parts.1)

number_is_some : (z : ℤ) → mag z < 2 ^ 63 → signed_decimal z ≢ []
number_is_some (pos n) fits none = let some = decimal_nonempty n (omega arith) in omega (arith, some, ap length none)
number_is_some (negsuc n) fits none = cc

register_is_word : (reg : ℕ) (text : List ℕ) → register_text reg ≡ Some text → is_word text ≡ true
register_is_word reg text is = all_at is_word reg_names reg text refl is

place_is_word : (number reg : List ℕ) → list_all is_plain number ≡ true → list_all is_plain reg ≡ true → is_word (number ++ 40 ∷ (reg ++ 41 ∷ [])) ≡ true
place_is_word number reg one other =
    let n = all_of is_plain is_word_byte plain_is_word number one in
    let r = all_of is_plain is_word_byte plain_is_word reg other in
    let back : list_all is_word_byte (reg ++ 41 ∷ []) ≡ true = list_all-append is_word_byte reg (41 ∷ []) ∙ both_true (list_all is_word_byte reg) true r refl in
    let whole : list_all is_word_byte (number ++ 40 ∷ (reg ++ 41 ∷ [])) ≡ true =
    list_all-append is_word_byte number (40 ∷ (reg ++ 41 ∷ [])) ∙ both_true (list_all is_word_byte number) (list_all is_word_byte (reg ++ 41 ∷ [])) n back in
    word_from_all (number ++ 40 ∷ (reg ++ 41 ∷ [])) (some number) whole
  where
    some : (n : List ℕ) → n ++ 40 ∷ (reg ++ 41 ∷ []) ≢ []
    some [] e = cc
    some (b ∷ n) e = cc

pub text_is_word : (operand : Operand) (line : Line) (text : List ℕ) → operand_text operand line ≡ Some text → is_word text ≡ true
text_is_word Rd line text is = register_is_word line.rd text is
text_is_word Rs line text is = register_is_word line.rs text is
text_is_word Rt line text is = register_is_word line.rt text is
text_is_word (Number least most) line text is =
    let says = number_text_says least most line.imm text is in
    let some : text ≢ [] = λ none. number_is_some line.imm (mag_i64 line.imm says.0) (says.2 ∙ none) in
    word_from_all text some (all_of is_plain is_word_byte plain_is_word text (number_is_plain least most line.imm text is))
text_is_word (Place least most) line text is =
    let says = place_text_says (number_text least most line.imm) (register_text line.rs) text is in
    ap is_word says.4 ∙ place_is_word says.0 says.1 (number_is_plain least most line.imm says.0 says.2) (register_is_plain line.rs says.1 says.3)
text_is_word Target line text is =
    let says = if_some (is_symbol line.target) line.target text is in
    sym (ap is_word says.1) ∙ symbol_is_word line.target says.0
text_is_word Ra line text is = let same : 114 ∷ 97 ∷ [] ≡ text = cc in sym (ap is_word same)

-- ---- operands with commas

-- no blank stands before the first operand
pub listed_stays : (operand : Operand) (others : List Operand) (bytes : List ℕ) (before after : Line) → IsListedFrom operand others bytes before after → behind_spaces bytes ≡ bytes
listed_stays operand [] bytes before after sets =
    let whole = text_is_word operand after bytes sets.text_is in
    let e = stays bytes [] whole in simp append-nil at e
listed_stays operand (next ∷ others) bytes before after listed =
    let parted = listed.4 in
    let whole = text_is_word operand listed.2 listed.0 listed.3.text_is in
    ap behind_spaces parted.spelled ∙ (stays listed.0 (parted.left ++ 44 ∷ (parted.right ++ listed.1)) whole ∙ sym parted.spelled)

module _ (operand next : Operand) (others : List Operand) (bytes : List ℕ) (before : Line) where
  -- the first operand is the first word, and the others stand behind the comma
  pub listed_cut : (after : Line) (listed : IsListedFrom operand (next ∷ others) bytes before after) → (word bytes ≡ listed.0) × (behind_comma (behind_word bytes) ≡ Some listed.1)
  listed_cut after listed =
      let parted = listed.4 in
      let behind = parted.left ++ 44 ∷ (parted.right ++ listed.1) in
      let whole = text_is_word operand listed.2 listed.0 listed.3.text_is in
      let ends = blanks_end parted.left (44 ∷ (parted.right ++ listed.1)) parted.left_blank refl in
      let parts = cut listed.0 behind whole ends in (
        ap word parted.spelled ∙ parts.0,
        ap behind_comma (ap behind_word parted.spelled ∙ parts.1) ∙ comma_is parted.left parted.right listed.1 parted.left_blank parted.right_blank (listed_stays next others listed.1 listed.2 after listed.5),
      )

  pub no_operand : (first : List ℕ) → first ≡ word bytes → ((line : Line) → Sets operand first before line → ⊥) → (after : Line) → IsListedFrom operand (next ∷ others) bytes before after → ⊥
  no_operand first is none after listed =
      let P : List ℕ → Type 0 = λ t. Sets operand t before listed.2 in
      none listed.2 (subst P (sym (listed_cut after listed).0 ∙ sym is) listed.3)

  pub no_comma : behind_comma (behind_word bytes) ≡ None → (after : Line) → IsListedFrom operand (next ∷ others) bytes before after → ⊥
  no_comma none after listed = let some = (listed_cut after listed).1 in cc

  sets_one : (first rest : List ℕ) (between : Line) → first ≡ word bytes → Sets operand first before between → behind_comma (behind_word bytes) ≡ Some rest → (after : Line) → IsListedFrom next others rest between after →
      IsListedFrom operand (next ∷ others) bytes before after
  sets_one first rest between is sets comma after listed =
      (first, rest, between, sets, comma_says first bytes rest (ap (λ x. x ++ behind_word bytes) is ∙ sym (joined bytes)) comma, listed)

  only_one : (first rest : List ℕ) (between : Line) → first ≡ word bytes → ((line : Line) → Sets operand first before line → line ≡ between) → behind_comma (behind_word bytes) ≡ Some rest → (after : Line) →
      IsListedFrom operand (next ∷ others) bytes before after → IsListedFrom next others rest between after
  only_one first rest between is only comma after listed =
      let parts = listed_cut after listed in
      let P : List ℕ → Type 0 = λ t. Sets operand t before listed.2 in
      let same = only listed.2 (subst P (sym parts.0 ∙ sym is) listed.3) in
      let rests : Some listed.1 ≡ Some rest = sym parts.1 ∙ comma in
      let rest_same : listed.1 ≡ rest = cc in
      let Q : List ℕ → Type 0 = λ r. IsListedFrom next others r between after in
      let R : Line → Type 0 = λ b. IsListedFrom next others listed.1 b after in
      subst Q rest_same (subst R same listed.5)

  pub goes_on : (first rest : List ℕ) (between : Line) → first ≡ word bytes → Finds (Sets operand first before) (Some between) → behind_comma (behind_word bytes) ≡ Some rest → (result : Option Line) →
      Finds (IsListedFrom next others rest between) result → Finds (IsListedFrom operand (next ∷ others) bytes before) result
  goes_on first rest between is sets comma None none = λ after listed. none after (only_one first rest between is sets.1 comma after listed)
  goes_on first rest between is sets comma (Some line) found =
      (sets_one first rest between is sets.0 comma line found.0, λ after listed. found.1 after (only_one first rest between is sets.1 comma after listed))

-- the code's way to name the first of some operands and the others
pub others_are : (others : List Operand) → 1 ≤ length others → others ≡ get_or others 0 Rd ∷ take (length others - 1) (drop 1 others)
others_are [] some = absurd (omega arith)
others_are (next ∷ others) some = ap (λ x. next ∷ x) (sym (whole others))
  where
    whole : (xs : List Operand) → take (length (next ∷ xs) - 1) (drop 1 (next ∷ xs)) ≡ xs
    whole xs = let e : length (next ∷ xs) - 1 ≡ length xs = omega arith in rw e (take-length xs)

module _ (operand : Operand) (others : List Operand) (bytes : List ℕ) (before : Line) (some : 1 ≤ length others) where
  abbrev next : Operand
  next = get_or others 0 Rd

  abbrev behind : List Operand
  behind = take (length others - 1) (drop 1 others)

  pub none_at_first : (first : List ℕ) → first ≡ word bytes → ((line : Line) → Sets operand first before line → ⊥) → (after : Line) → IsListedFrom operand others bytes before after → ⊥
  none_at_first first is none after listed =
      let P : List Operand → Type 0 = λ xs. IsListedFrom operand xs bytes before after in
      no_operand operand next behind bytes before first is none after (subst P (others_are others some) listed)

  pub none_at_comma : behind_comma (behind_word bytes) ≡ None → (after : Line) → IsListedFrom operand others bytes before after → ⊥
  none_at_comma none after listed =
      let P : List Operand → Type 0 = λ xs. IsListedFrom operand xs bytes before after in
      no_comma operand next behind bytes before none after (subst P (others_are others some) listed)

  pub goes_on_at : (first rest : List ℕ) (between : Line) → first ≡ word bytes → Finds (Sets operand first before) (Some between) → behind_comma (behind_word bytes) ≡ Some rest → (result : Option Line) →
      Finds (IsListedFrom next behind rest between) result → Finds (IsListedFrom operand others bytes before) result
  goes_on_at first rest between is sets comma result found =
      let P : List Operand → Type 0 = λ xs. Finds (IsListedFrom operand xs bytes before) result in
      subst P (sym (others_are others some)) (goes_on operand next behind bytes before first rest between is sets comma result found)
