-- A text of a line has neither a newline nor a colon in it, and not blanks alone.
use Rattle.std.proofs.Common.{◌≡◌, ℕ, Bool, true, ◌&&◌, nat_lt, length, List, [], ◌∷◌, ◌++◌, Some, refl, sym, ◌∙◌, ap, arith}
use Rattle.std.specs.List.{list_all}
use Rattle.std.proofs.lemmas.Bool.Decides.{nat_tests}
use Rattle.std.proofs.lemmas.List.{append-nil}
use Rattle.text_words.specs.Words.{is_symbol, is_symbol_byte}
use Rattle.rv_text.specs.Table.{Row, table, row_named}
use Rattle.rv_text.specs.Lines.{number_text, register_text, operand_text}
use Rattle.text_words.specs.Blanks.{is_space, behind_spaces}
use Rattle.rv_text.specs.Text.{AreBlanks, IsListed, IsListedFrom, IsRestOf, IsTextOf}
use Rattle.rv_text.specs.machine.Cuts.{word}
use Rattle.rv_text.specs.declared.line.Line.{Line}
use Rattle.rv_text.specs.declared.operand.Operand.{Operand}
use Rattle.rv_text.specs.declared.operand.Operand.TheVariants.{Rd, Rs, Rt, Number, Place, Target, Ra}
use Rattle.rv_text.proofs.Numbers.{and_true, if_some}
use Rattle.rv_text.proofs.Plain.{is_plain, number_is_plain, register_is_plain, all_of_both}
use Rattle.rv_text.proofs.Places.{place_text_says}
use Rattle.rv_text.proofs.Words.{is_word, skipped}
use Rattle.rv_text.proofs.Listed.{all_of}
use Rattle.rv_text.proofs.Reading.{found_name_has, name_is_word, text_cut}
use Rattle.rv_text.proofs.Marks.{is_other, Lacks}

abbrev is_inner : ℕ → Bool
is_inner byte = is_other 10 byte && is_other 58 byte

abbrev AreInner : List ℕ → Type 0
AreInner bytes = list_all is_inner bytes ≡ true

both : (front back : List ℕ) → AreInner front → AreInner back → AreInner (front ++ back)
both front back one other = all_of_both is_inner front back one other

-- ---- bytes

blank_is_inner : (byte : ℕ) → is_space byte ≡ true → is_inner byte ≡ true
blank_is_inner byte blank = grind (arith, nat_tests)

plain_is_inner : (byte : ℕ) → is_plain byte ≡ true → is_inner byte ≡ true
plain_is_inner byte plain = grind (arith, nat_tests)

symbol_is_inner : (byte : ℕ) → is_symbol_byte byte ≡ true → is_inner byte ≡ true
symbol_is_inner byte symbol = grind (arith, nat_tests)

blanks_inner : (blanks : List ℕ) → AreBlanks blanks → AreInner blanks
blanks_inner blanks all = all_of is_space is_inner blank_is_inner blanks all

plain_inner : (text : List ℕ) → list_all is_plain text ≡ true → AreInner text
plain_inner text all = all_of is_plain is_inner plain_is_inner text all

-- ---- operands

operand_inner : (operand : Operand) (line : Line) (text : List ℕ) → operand_text operand line ≡ Some text → AreInner text
operand_inner Rd line text is = plain_inner text (register_is_plain line.rd text is)
operand_inner Rs line text is = plain_inner text (register_is_plain line.rs text is)
operand_inner Rt line text is = plain_inner text (register_is_plain line.rt text is)
operand_inner (Number least most) line text is = plain_inner text (number_is_plain least most line.imm text is)
operand_inner (Place least most) line text is =
    let says = place_text_says (number_text least most line.imm) (register_text line.rs) text is in
    let number = plain_inner says.0 (number_is_plain least most line.imm says.0 says.2) in
    let reg = plain_inner says.1 (register_is_plain line.rs says.1 says.3) in
    ap (list_all is_inner) says.4 ∙ both says.0 (40 ∷ (says.1 ++ 41 ∷ [])) number (both says.1 (41 ∷ []) reg refl)
operand_inner Target line text is =
    let says = if_some (is_symbol line.target) line.target text is in
    sym (ap (list_all is_inner) says.1) ∙ all_of is_symbol_byte is_inner symbol_is_inner line.target (and_true (nat_lt 0 (length line.target)) _ says.0).1
operand_inner Ra line text is = let same : 114 ∷ 97 ∷ [] ≡ text = cc in sym (ap (list_all is_inner) same)

from_inner : (operand : Operand) (others : List Operand) (bytes : List ℕ) (before after : Line) → IsListedFrom operand others bytes before after → AreInner bytes
from_inner operand [] bytes before after sets = operand_inner operand after bytes sets.text_is
from_inner operand (next ∷ others) bytes before after listed =
    let parted = listed.4 in
    let text = operand_inner operand listed.2 listed.0 listed.3.text_is in
    let further = from_inner next others listed.1 listed.2 after listed.5 in
    let right = both parted.right listed.1 (blanks_inner parted.right parted.right_blank) further in
    let left = both parted.left (44 ∷ (parted.right ++ listed.1)) (blanks_inner parted.left parted.left_blank) right in
    ap (list_all is_inner) parted.spelled ∙ both listed.0 (parted.left ++ 44 ∷ (parted.right ++ listed.1)) text left

listed_inner : (operands : List Operand) (bytes : List ℕ) (before after : Line) → IsListed operands bytes before after → AreInner bytes
listed_inner [] bytes before after listed = ap (list_all is_inner) listed.0
listed_inner (operand ∷ operands) bytes before after listed = from_inner operand operands bytes before after listed

-- ---- the line

all_names_inner : list_all (λ row. list_all is_inner row.name) table ≡ true
unfolding table
all_names_inner = refl

name_inner : (name : List ℕ) (row : Row) → row_named name ≡ Some row → AreInner name
name_inner name row named = found_name_has (list_all is_inner) table name row all_names_inner named

rest_inner : (row : Row) (name bytes : List ℕ) (line : Line) → IsRestOf row name bytes line → AreInner bytes
rest_inner row name bytes line rest =
    ap (list_all is_inner) rest.spelled ∙ both rest.gap rest.operands (blanks_inner rest.gap rest.gap_blank) (listed_inner row.operands rest.operands _ line rest.listed)

line_inner : (text : List ℕ) (line : Line) → IsTextOf text line → AreInner text
line_inner text line is =
    let behind = both line.name is.rest (name_inner line.name is.row is.named) (rest_inner is.row line.name is.rest line is.rest_is) in
    ap (list_all is_inner) is.spelled ∙ both is.front (line.name ++ is.rest) (blanks_inner is.front is.front_blank) behind

inner_lacks_newline : (byte : ℕ) → is_inner byte ≡ true → is_other 10 byte ≡ true
inner_lacks_newline byte inner = (and_true (is_other 10 byte) (is_other 58 byte) inner).0

inner_lacks_colon : (byte : ℕ) → is_inner byte ≡ true → is_other 58 byte ≡ true
inner_lacks_colon byte inner = (and_true (is_other 10 byte) (is_other 58 byte) inner).1

pub line_lacks_newline : (text : List ℕ) (line : Line) → IsTextOf text line → Lacks 10 text
line_lacks_newline text line is = all_of is_inner (is_other 10) inner_lacks_newline text (line_inner text line is)

pub line_lacks_colon : (text : List ℕ) (line : Line) → IsTextOf text line → Lacks 58 text
line_lacks_colon text line is = all_of is_inner (is_other 58) inner_lacks_colon text (line_inner text line is)

pub blanks_lack_newline : (blanks : List ℕ) → AreBlanks blanks → Lacks 10 blanks
blanks_lack_newline blanks all = all_of is_inner (is_other 10) inner_lacks_newline blanks (blanks_inner blanks all)

pub blanks_lack_colon : (blanks : List ℕ) → AreBlanks blanks → Lacks 58 blanks
blanks_lack_colon blanks all = all_of is_inner (is_other 58) inner_lacks_colon blanks (blanks_inner blanks all)

-- blanks are no line
pub blanks_are_no_line : (text : List ℕ) (line : Line) → AreBlanks text → IsTextOf text line → ⊥
blanks_are_no_line text line all is =
    let none : behind_spaces text ≡ [] = ap behind_spaces (sym (append-nil text)) ∙ skipped text [] all in
    let name : line.name ≡ [] = (text_cut text (word (behind_spaces text)) _ refl refl line is).0 ∙ ap word none in
    let yes : is_word [] ≡ true = sym (ap is_word name) ∙ name_is_word line.name is.row is.named in
    cc
