-- Blanks and words of bytes.
use Rattle.std.proofs.Common.{◌≡◌, ℕ, Bool, true, false, cond, not, nat_eq, List, [], ◌∷◌, ◌++◌, Some, None, refl, sym, ◌∙◌, ap, arith}
use Rattle.std.specs.List.{list_all}
use Rattle.std.proofs.lemmas.Bool.Decides.{nat_tests}
use Rattle.text_words.specs.Blanks.{is_space, behind_spaces}
use Rattle.rv_text.specs.Text.{AreBlanks, IsParted}
use Rattle.rv_text.specs.machine.Cuts.{is_word_byte, word, behind_word, behind_comma}
use Rattle.rv_text.proofs.Numbers.{and_true, both_true}

-- one or more bytes of a word
abbrev pub is_word : List ℕ → Bool
is_word [] = false
is_word (byte ∷ bytes) = list_all is_word_byte (byte ∷ bytes)

pub word_is_no_blank : (byte : ℕ) → is_word_byte byte ≡ true → is_space byte ≡ false
word_is_no_blank byte h = grind (arith, nat_tests)

pub blank_is_no_word : (byte : ℕ) → is_space byte ≡ true → is_word_byte byte ≡ false
blank_is_no_word byte h = rw h refl

-- ---- blanks

pub skipped : (blanks rest : List ℕ) → AreBlanks blanks → behind_spaces (blanks ++ rest) ≡ behind_spaces rest
skipped [] rest all = refl
skipped (byte ∷ blanks) rest all = let parts = and_true (is_space byte) (list_all is_space blanks) all in rw parts.0 (skipped blanks rest parts.1)

pub stays : (text rest : List ℕ) → is_word text ≡ true → behind_spaces (text ++ rest) ≡ text ++ rest
stays [] rest h = cc
stays (byte ∷ text) rest h = rw (word_is_no_blank byte (and_true (is_word_byte byte) (list_all is_word_byte text) h).0) refl

-- the blanks at the front
pub front_blanks : List ℕ → List ℕ
front_blanks [] = []
front_blanks (byte ∷ bytes) = cond (is_space byte) (byte ∷ front_blanks bytes) []

-- bytes are blanks and what stands behind them
pub record Skips (bytes : List ℕ) : Type 0 where
  pub blanks : List ℕ
  pub blank : AreBlanks blanks
  pub spelled : bytes ≡ blanks ++ behind_spaces bytes

skips_one : (byte : ℕ) (bytes : List ℕ) (b : Bool) → is_space byte ≡ b → Skips bytes → Skips (byte ∷ bytes)
skips_one byte bytes true is skips = record {
  blanks = byte ∷ skips.blanks;
  blank = both_true (is_space byte) (list_all is_space skips.blanks) is skips.blank;
  spelled = rw is (ap (λ x. byte ∷ x) skips.spelled);
}
skips_one byte bytes false is skips = record { blanks = []; blank = refl; spelled = rw is refl }

pub skips : (bytes : List ℕ) → Skips bytes
skips [] = record { blanks = []; blank = refl; spelled = refl }
skips (byte ∷ bytes) = skips_one byte bytes (is_space byte) refl (skips bytes)

-- ---- words

-- what follows a word: nothing, or a byte that is of none
abbrev pub ends_word : List ℕ → Bool
ends_word [] = true
ends_word (byte ∷ bytes) = not (is_word_byte byte)

pub blanks_end : (blanks rest : List ℕ) → AreBlanks blanks → ends_word rest ≡ true → ends_word (blanks ++ rest) ≡ true
blanks_end [] rest all ends = ends
blanks_end (byte ∷ blanks) rest all ends = rw (blank_is_no_word byte (and_true (is_space byte) (list_all is_space blanks) all).0) refl

word_ends : (rest : List ℕ) → ends_word rest ≡ true → (word rest ≡ []) × (behind_word rest ≡ rest)
word_ends [] ends = (refl, refl)
word_ends (byte ∷ rest) ends = let no_word : is_word_byte byte ≡ false = grind (arith, nat_tests) in (rw no_word refl, rw no_word refl)

word_of : (text rest : List ℕ) → list_all is_word_byte text ≡ true → ends_word rest ≡ true → (word (text ++ rest) ≡ text) × (behind_word (text ++ rest) ≡ rest)
word_of [] rest all ends = word_ends rest ends
word_of (byte ∷ text) rest all ends =
    let parts = and_true (is_word_byte byte) (list_all is_word_byte text) all in
    let further = word_of text rest parts.1 ends in
    (rw parts.0 (ap (λ x. byte ∷ x) further.0), rw parts.0 further.1)

is_word_all : (text : List ℕ) → is_word text ≡ true → list_all is_word_byte text ≡ true
is_word_all [] h = cc
is_word_all (byte ∷ text) h = h

pub cut : (text rest : List ℕ) → is_word text ≡ true → ends_word rest ≡ true → (word (text ++ rest) ≡ text) × (behind_word (text ++ rest) ≡ rest)
cut text rest is ends = word_of text rest (is_word_all text is) ends

joined_one : (byte : ℕ) (bytes : List ℕ) (b : Bool) → is_word_byte byte ≡ b → bytes ≡ word bytes ++ behind_word bytes → byte ∷ bytes ≡ word (byte ∷ bytes) ++ behind_word (byte ∷ bytes)
joined_one byte bytes true is all = rw is (ap (λ x. byte ∷ x) all)
joined_one byte bytes false is all = rw is refl

pub joined : (bytes : List ℕ) → bytes ≡ word bytes ++ behind_word bytes
joined [] = refl
joined (byte ∷ bytes) = joined_one byte bytes (is_word_byte byte) refl (joined bytes)

-- ---- commas

comma_from : (bytes rest cut : List ℕ) → behind_spaces bytes ≡ cut → behind_comma bytes ≡ Some rest → (more : List ℕ) × (cut ≡ 44 ∷ more) × (rest ≡ behind_spaces more)
comma_from bytes rest [] is some = let e : behind_comma bytes ≡ None = rw is refl in cc
comma_from bytes rest (byte ∷ more) is some = tested (nat_eq byte 44) refl
  where
    tested : (b : Bool) → nat_eq byte 44 ≡ b → (m : List ℕ) × (byte ∷ more ≡ 44 ∷ m) × (rest ≡ behind_spaces m)
    tested true test =
        let same : byte ≡ 44 = grind (arith, nat_tests) in
        let e : behind_comma bytes ≡ Some (behind_spaces more) = rw (is, test) refl in
        (more, ap (λ x. x ∷ more) same, cc)
    tested false test = let e : behind_comma bytes ≡ None = rw (is, test) refl in cc

-- what stands behind a comma, if there is one
pub comma_says : (text bytes rest : List ℕ) → text ++ behind_word bytes ≡ bytes → behind_comma (behind_word bytes) ≡ Some rest → IsParted text rest bytes
comma_says text bytes rest whole some =
    let left = skips (behind_word bytes) in
    let comma = comma_from (behind_word bytes) rest (behind_spaces (behind_word bytes)) refl some in
    let right = skips comma.0 in
    record {
      left = left.blanks;
      left_blank = left.blank;
      right = right.blanks;
      right_blank = right.blank;
      spelled = sym whole ∙ ap (λ x. text ++ x) (left.spelled ∙ ap (λ x. left.blanks ++ x) (comma.1 ∙ ap (λ x. 44 ∷ x) (right.spelled ∙ ap (λ x. right.blanks ++ x) (sym comma.2))));
    }

pub comma_is : (left right rest : List ℕ) → AreBlanks left → AreBlanks right → behind_spaces rest ≡ rest → behind_comma (left ++ 44 ∷ (right ++ rest)) ≡ Some rest
comma_is left right rest left_blank right_blank stay = rw (skipped left (44 ∷ (right ++ rest)) left_blank) (ap Some (skipped right rest right_blank ∙ stay))
