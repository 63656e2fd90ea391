-- A text is that of one line alone: of each part there is one.
use Rattle.std.proofs.Common.{◌≡◌, ℕ, ℤ, List, [], ◌∷◌, Some, refl, sym, ◌∙◌, ap, subst}
use Rattle.std.proofs.lemmas.Fmt.{signed_decimal_injective}
use Rattle.rtx_tree.proofs.Distinct.{one_register}
use Rattle.text_words.specs.Words.{is_symbol}
use Rattle.rv_text.specs.Table.{Row, row_named}
use Rattle.rv_text.specs.Lines.{register_text, number_text, place_text, bare}
use Rattle.rv_text.specs.Text.{Sets, IsListed, IsListedFrom, IsRestOf, IsTextOf}
use Rattle.text_words.specs.Blanks.{behind_spaces}
use Rattle.rv_text.specs.machine.Cuts.{word, behind_word, place_parts}
use Rattle.rv_text.specs.declared.line.Line.{Line}
use Rattle.rv_text.specs.declared.operand.Operand.{Operand}
use Rattle.rv_text.specs.declared.operand.Operand.TheVariants.{Rd, Rs, Rt, Number, Place, Target, Ra}
use Rattle.rv_text.proofs.Numbers.{mag_i64, number_text_says, if_some}
use Rattle.rv_text.proofs.Plain.{number_is_plain, register_is_plain}
use Rattle.rv_text.proofs.Places.{place_text_says, place_joined, of_place}
use Rattle.rv_text.proofs.Listed.{listed_cut}
use Rattle.rv_text.proofs.Reading.{rest_only, text_cut, text_only}

-- ---- operands

one_number : (least most y z : ℤ) (text : List ℕ) → number_text least most y ≡ Some text → number_text least most z ≡ Some text → y ≡ z
one_number least most y z text one other =
    let a = number_text_says least most y text one in
    let b = number_text_says least most z text other in
    signed_decimal_injective y z (mag_i64 y a.0) (mag_i64 z b.0) (a.2 ∙ sym b.2)

one_place : (least most : ℤ) (p q : ℤ × ℕ) (text : List ℕ) → place_text (number_text least most p.0) (register_text p.1) ≡ Some text → place_text (number_text least most q.0) (register_text q.1) ≡ Some text → p ≡ q
one_place least most p q text one other =
    let says = place_text_says (number_text least most p.0) (register_text p.1) text one in
    let parts = ap place_parts says.4 ∙ place_joined says.0 says.1 (number_is_plain least most p.0 says.0 says.2) (register_is_plain p.1 says.1 says.3) in
    let both = of_place least most text says.0 says.1 parts q other in
    let number = one_number least most p.0 q.0 says.0 says.2 both.0 in
    let reg = one_register p.1 q.1 says.1 says.3 both.1 in
    λ i. (number i, reg i)

one_set : (operand : Operand) (text : List ℕ) (before a b : Line) → Sets operand text before a → Sets operand text before b → a ≡ b
one_set Rd text before a b one other = one.rest_is ∙ (ap (λ r. record before { rd = r }) (one_register a.rd b.rd text one.text_is other.text_is) ∙ sym other.rest_is)
one_set Rs text before a b one other = one.rest_is ∙ (ap (λ r. record before { rs = r }) (one_register a.rs b.rs text one.text_is other.text_is) ∙ sym other.rest_is)
one_set Rt text before a b one other = one.rest_is ∙ (ap (λ r. record before { rt = r }) (one_register a.rt b.rt text one.text_is other.text_is) ∙ sym other.rest_is)
one_set (Number least most) text before a b one other = one.rest_is ∙ (ap (λ z. record before { imm = z }) (one_number least most a.imm b.imm text one.text_is other.text_is) ∙ sym other.rest_is)
one_set (Place least most) text before a b one other =
    one.rest_is ∙ (ap (λ (p : ℤ × ℕ). record before { rs = p.1; imm = p.0 }) (one_place least most (a.imm, a.rs) (b.imm, b.rs) text one.text_is other.text_is) ∙ sym other.rest_is)
one_set Target text before a b one other =
    let same = (if_some (is_symbol a.target) a.target text one.text_is).1 ∙ sym (if_some (is_symbol b.target) b.target text other.text_is).1 in
    one.rest_is ∙ (ap (λ t. record before { target = t }) same ∙ sym other.rest_is)
one_set Ra text before a b one other = one.rest_is ∙ sym other.rest_is

-- ---- operands with commas

one_from : (operand : Operand) (others : List Operand) (bytes : List ℕ) (before a b : Line) → IsListedFrom operand others bytes before a → IsListedFrom operand others bytes before b → a ≡ b
one_from operand [] bytes before a b one other = one_set operand bytes before a b one other
one_from operand (next ∷ others) bytes before a b one other =
    let p = listed_cut operand next others bytes before a one in
    let q = listed_cut operand next others bytes before b other in
    let texts : other.0 ≡ one.0 = sym q.0 ∙ p.0 in
    let some : Some other.1 ≡ Some one.1 = sym q.1 ∙ p.1 in
    let rests : other.1 ≡ one.1 = cc in
    let P : List ℕ → Type 0 = λ t. Sets operand t before other.2 in
    let lines : other.2 ≡ one.2 = one_set operand one.0 before other.2 one.2 (subst P texts other.3) one.3 in
    let Q : List ℕ → Type 0 = λ r. IsListedFrom next others r other.2 b in
    let R : Line → Type 0 = λ l. IsListedFrom next others one.1 l b in
    one_from next others one.1 one.2 a b one.5 (subst R lines (subst Q rests other.5))

one_listed : (operands : List Operand) (bytes : List ℕ) (before a b : Line) → IsListed operands bytes before a → IsListed operands bytes before b → a ≡ b
one_listed [] bytes before a b one other = one.1 ∙ sym other.1
one_listed (operand ∷ operands) bytes before a b one other = one_from operand operands bytes before a b one other

-- ---- the line

one_rest : (row : Row) (name bytes : List ℕ) (a b : Line) → IsRestOf row name bytes a → IsRestOf row name bytes b → a ≡ b
one_rest row name bytes a b one other = one_listed row.operands (behind_spaces bytes) (bare name) a b (rest_only row name bytes a one) (rest_only row name bytes b other)

pub one_line : (text : List ℕ) (a b : Line) → IsTextOf text a → IsTextOf text b → a ≡ b
one_line text a b one other =
    let name = word (behind_spaces text) in
    let rest = behind_word (behind_spaces text) in
    let named : row_named name ≡ Some one.row = ap row_named (sym (text_cut text name rest refl refl a one).0) ∙ one.named in
    one_rest one.row name rest a b (text_only text name rest refl refl one.row named a one) (text_only text name rest refl refl one.row named b other)
