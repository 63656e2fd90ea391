-- A line's text: a mnemonic of the table, and the rest of it.
use Rattle.std.proofs.Common.{◌≡◌, ◌≢◌, ℕ, ◌+◌, Bool, true, false, cond, bytes_eq, nat_eq, length, List, [], ◌∷◌, ◌++◌, Option, Some, None, refl, sym, ◌∙◌, ap, subst, arith}
use Rattle.std.specs.List.{list_all}
use Rattle.std.proofs.lemmas.Bool.Decides.{nat_tests}
use Rattle.std.proofs.lemmas.Slice.Eq.{bytes_eq-Decides}
use Rattle.std.proofs.lemmas.List.{length-append}
use Rattle.rv_text.specs.Table.{Row, table, find_row, row_named}
use Rattle.rv_text.specs.Lines.{put, bare}
use Rattle.text_words.specs.Blanks.{is_space, behind_spaces}
use Rattle.rv_text.specs.Text.{AreBlanks, Finds, Sets, IsListed, IsListedFrom, IsRestOf, IsTextOf}
use Rattle.rv_text.specs.machine.Cuts.{word, behind_word}
use Rattle.rv_text.specs.declared.line.Line.{Line}
use Rattle.rv_text.specs.declared.operand.Operand.{Operand}
use Rattle.rv_text.specs.declared.operand.Operand.TheVariants.{Rd, Rs, Rt, Number, Place, Target, Ra}
use Rattle.rv_text.proofs.Numbers.{and_true}
use Rattle.rv_text.proofs.Words.{is_word, blank_is_no_word, skipped, stays, skips, cut, ends_word, blanks_end, joined}
use Rattle.rv_text.proofs.Listed.{listed_stays}

-- ---- the mnemonic

-- what each name of the table has, a name that is found has
pub found_name_has : (p : List ℕ → Bool) (rows : List Row) (name : List ℕ) (row : Row) → list_all (λ row. p row.name) rows ≡ true → find_row name rows ≡ Some row → p name ≡ true
found_name_has p [] name row all found = cc
found_name_has p (first ∷ rows) name row all found = tested (bytes_eq first.name name) refl (and_true (p first.name) (list_all (λ row. p row.name) rows) all) found (found_name_has p rows name row)
  where
    tested : (b : Bool) → bytes_eq first.name name ≡ b → (p first.name ≡ true) × (list_all (λ row. p row.name) rows ≡ true) → cond b (Some first) (find_row name rows) ≡ Some row →
        (list_all (λ row. p row.name) rows ≡ true → find_row name rows ≡ Some row → p name ≡ true) → p name ≡ true
    tested true test parts found further = sym (ap p ((bytes_eq-Decides first.name name).0 test)) ∙ parts.0
    tested false test parts found further = further parts.1 found

all_names : list_all (λ row. is_word row.name) table ≡ true
unfolding table
all_names = refl

pub name_is_word : (name : List ℕ) (row : Row) → row_named name ≡ Some row → is_word name ≡ true
name_is_word name row named = found_name_has is_word table name row all_names named

put_name : (operand : Operand) (from line : Line) → (put operand from line).name ≡ line.name
put_name Rd from line = refl
put_name Rs from line = refl
put_name Rt from line = refl
put_name (Number least most) from line = refl
put_name (Place least most) from line = refl
put_name Target from line = refl
put_name Ra from line = refl

sets_name : (operand : Operand) (text : List ℕ) (before after : Line) → Sets operand text before after → after.name ≡ before.name
sets_name operand text before after sets = ap (λ l. l.name) sets.rest_is ∙ put_name operand after before

from_name : (operand : Operand) (others : List Operand) (bytes : List ℕ) (before after : Line) → IsListedFrom operand others bytes before after → after.name ≡ before.name
from_name operand [] bytes before after sets = sets_name operand bytes before after sets
from_name operand (next ∷ others) bytes before after listed = from_name next others listed.1 listed.2 after listed.5 ∙ sets_name operand listed.0 before listed.2 listed.3

listed_name : (operands : List Operand) (bytes : List ℕ) (before after : Line) → IsListed operands bytes before after → after.name ≡ before.name
listed_name [] bytes before after listed = ap (λ l. l.name) listed.1
listed_name (operand ∷ operands) bytes before after listed = from_name operand operands bytes before after listed

-- ---- the rest

all_listed_stays : (operands : List Operand) (bytes : List ℕ) (before after : Line) → IsListed operands bytes before after → behind_spaces bytes ≡ bytes
all_listed_stays [] bytes before after listed = ap behind_spaces listed.0 ∙ sym listed.0
all_listed_stays (operand ∷ operands) bytes before after listed = listed_stays operand operands bytes before after listed

gap_ends : (operands : List Operand) (gap bytes : List ℕ) (before after : Line) → AreBlanks gap → (operands ≢ [] → gap ≢ []) → IsListed operands bytes before after → ends_word (gap ++ bytes) ≡ true
gap_ends [] gap bytes before after blank apart listed = blanks_end gap bytes blank (ap ends_word listed.0)
gap_ends (operand ∷ operands) [] bytes before after blank apart listed = absurd (apart (λ e. cc) refl)
gap_ends (operand ∷ operands) (byte ∷ gap) bytes before after blank apart listed = rw (blank_is_no_word byte (and_true (is_space byte) (list_all is_space gap) blank).0) refl

empty : (xs : List ℕ) → length xs ≡ 0 → xs ≡ []
empty [] none = refl
empty (x ∷ xs) none = absurd (omega (arith, none))

module _ (row : Row) (name bytes : List ℕ) where
  rest_operands : (line : Line) (rest : IsRestOf row name bytes line) → behind_spaces bytes ≡ rest.operands
  rest_operands line rest = ap behind_spaces rest.spelled ∙ (skipped rest.gap rest.operands rest.gap_blank ∙ all_listed_stays row.operands rest.operands (bare name) line rest.listed)

  rest_ends : (line : Line) → IsRestOf row name bytes line → ends_word bytes ≡ true
  rest_ends line rest = ap ends_word rest.spelled ∙ gap_ends row.operands rest.gap rest.operands (bare name) line rest.gap_blank rest.apart rest.listed

  -- where no blank follows the mnemonic, there are no operands
  pub no_gap : length (behind_spaces bytes) ≡ length bytes → row.operands ≢ [] → (line : Line) → IsRestOf row name bytes line → ⊥
  no_gap same some line rest =
      let gap = rest.apart some in
      let behind = rest_operands line rest in
      let lengths : length bytes ≡ length rest.gap + length rest.operands = ap length rest.spelled ∙ length-append rest.gap rest.operands in
      let none : length rest.gap ≡ 0 = omega (arith, same, ap length behind, lengths) in
      gap (empty rest.gap none)

  rest_one : (row.operands ≢ [] → length (behind_spaces bytes) ≢ length bytes) → (line : Line) → IsListed row.operands (behind_spaces bytes) (bare name) line → IsRestOf row name bytes line
  rest_one apart line listed =
      let s = skips bytes in
      record {
        gap = s.blanks;
        gap_blank = s.blank;
        apart = λ some none. apart some (let whole : behind_spaces bytes ≡ bytes = ap (λ x. x ++ behind_spaces bytes) (sym none) ∙ sym s.spelled in ap length whole);
        operands = behind_spaces bytes;
        spelled = s.spelled;
        listed = listed;
      }

  pub rest_only : (line : Line) → IsRestOf row name bytes line → IsListed row.operands (behind_spaces bytes) (bare name) line
  rest_only line rest = let P : List ℕ → Type 0 = λ b. IsListed row.operands b (bare name) line in subst P (sym (rest_operands line rest)) rest.listed

  pub rest_finds : (row.operands ≢ [] → length (behind_spaces bytes) ≢ length bytes) → (result : Option Line) → Finds (IsListed row.operands (behind_spaces bytes) (bare name)) result → Finds (IsRestOf row name bytes) result
  rest_finds apart None none = λ line rest. none line (rest_only line rest)
  rest_finds apart (Some line) found = (rest_one apart line found.0, λ other rest. found.1 other (rest_only other rest))

none_of : (operands : List Operand) (none : Bool) → none ≡ nat_eq (length operands) 0 → none ≡ true → operands ≡ []
none_of [] none is test = refl
none_of (operand ∷ operands) none is test = let no : nat_eq (length (operand ∷ operands)) 0 ≡ false = grind (arith, nat_tests) in cc

pub some_of : (operands : List Operand) (none : Bool) → none ≡ nat_eq (length operands) 0 → none ≡ false → operands ≢ []
some_of operands none is test e = let zero : length operands ≡ 0 = ap length e in let yes : nat_eq (length operands) 0 ≡ true = grind (arith, nat_tests) in cc

pub no_operands : (operands : List Operand) (none : Bool) {X : Type 0} → none ≡ nat_eq (length operands) 0 → none ≡ true → operands ≢ [] → X
no_operands operands none is test some = absurd (some (none_of operands none is test))

pub rest_found : (row : Row) (name bytes behind : List ℕ) (before : Line) → behind ≡ behind_spaces bytes → before ≡ bare name → (row.operands ≢ [] → length behind ≢ length bytes) → (result : Option Line) →
    Finds (IsListed row.operands behind before) result → Finds (IsRestOf row name bytes) result
rest_found row name bytes behind before behind_is before_is apart result found =
    let P : List ℕ → Type 0 = λ b. row.operands ≢ [] → length b ≢ length bytes in
    let Q : List ℕ → Type 0 = λ b. Finds (IsListed row.operands b before) result in
    let R : Line → Type 0 = λ l. Finds (IsListed row.operands (behind_spaces bytes) l) result in
    rest_finds row name bytes (subst P behind_is apart) result (subst R before_is (subst Q behind_is found))

-- ---- the line

module _ (bytes name rest : List ℕ) (name_is : name ≡ word (behind_spaces bytes)) (rest_is : rest ≡ behind_word (behind_spaces bytes)) where
  -- a line of the text has this mnemonic and this rest
  pub text_cut : (line : Line) (text : IsTextOf bytes line) → (line.name ≡ name) × (text.rest ≡ rest)
  text_cut line text =
      let is = name_is_word line.name text.row text.named in
      let ends = rest_ends text.row line.name text.rest line text.rest_is in
      let behind : behind_spaces bytes ≡ line.name ++ text.rest =
      ap behind_spaces text.spelled ∙ (skipped text.front (line.name ++ text.rest) text.front_blank ∙ stays line.name text.rest is) in
      let parts = cut line.name text.rest is ends in
      (sym (name_is ∙ (ap word behind ∙ parts.0)), sym (rest_is ∙ (ap behind_word behind ∙ parts.1)))

  pub no_row : row_named name ≡ None → (line : Line) → IsTextOf bytes line → ⊥
  no_row none line text = let same : row_named line.name ≡ None = ap row_named (text_cut line text).0 ∙ none in let named = text.named in cc

  pub text_only : (row : Row) → row_named name ≡ Some row → (line : Line) → IsTextOf bytes line → IsRestOf row name rest line
  text_only row named line text =
      let parts = text_cut line text in
      let rows : Some text.row ≡ Some row = sym text.named ∙ (ap row_named parts.0 ∙ named) in
      let same : text.row ≡ row = cc in
      let P : Row → Type 0 = λ r. IsRestOf r line.name text.rest line in
      let Q : List ℕ → Type 0 = λ n. IsRestOf row n text.rest line in
      let R : List ℕ → Type 0 = λ r. IsRestOf row name r line in
      subst R parts.1 (subst Q parts.0 (subst P same text.rest_is))

  text_one : (row : Row) → row_named name ≡ Some row → (line : Line) → IsRestOf row name rest line → IsTextOf bytes line
  text_one row named line is =
      let s = skips bytes in
      let named_same : line.name ≡ name = listed_name row.operands is.operands (bare name) line is.listed in
      let Q : List ℕ → Type 0 = λ n. IsRestOf row n rest line in
      record {
        row = row;
        named = ap row_named named_same ∙ named;
        front = s.blanks;
        front_blank = s.blank;
        rest = rest;
        spelled = s.spelled ∙ ap (λ x. s.blanks ++ x) (joined (behind_spaces bytes) ∙ (ap (λ x. x ++ behind_word (behind_spaces bytes)) (sym (named_same ∙ name_is)) ∙ ap (λ x. line.name ++ x) (sym rest_is)));
        rest_is = subst Q (sym named_same) is;
      }

  pub text_finds : (row : Row) → row_named name ≡ Some row → (result : Option Line) → Finds (IsRestOf row name rest) result → Finds (IsTextOf bytes) result
  text_finds row named None none = λ line text. none line (text_only row named line text)
  text_finds row named (Some line) found = (text_one row named line found.0, λ other text. found.1 other (text_only row named other text))

pub moved : (bytes : List ℕ) (line other : Line) → Finds (IsTextOf bytes) (Some line) → other ≡ line → Finds (IsTextOf bytes) (Some other)
moved bytes line other found same = let P : Line → Type 0 = λ l. Finds (IsTextOf bytes) (Some l) in subst P (sym same) found
