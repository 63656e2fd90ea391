-- What reads as a line is one: the operands of a row name different parts of the line, so that each keeps the text that it was read from.
use Rattle.std.proofs.Common.{◌≡◌, ℕ, Bool, true, false, cond, ◌&&◌, bytes_eq, nat_eq, List, [], ◌∷◌, Option, Some, None, is_some, IsSome, option_and_then, refl, sym, ◌∙◌, ap}
use Rattle.std.specs.Ordering.{int_eq}
use Rattle.std.specs.Cmp.{unsigned_Decides, signed_Decides}
use Rattle.std.specs.List.{list_all}
use Rattle.std.proofs.lemmas.Slice.Eq.{bytes_eq-Decides}
use Rattle.rv_text.specs.Table.{Row, table, find_row}
use Rattle.rv_text.specs.Lines.{operand_text, put, bare, same_line, filled, has_all, is_of_row, action_of}
use Rattle.rv_text.specs.Text.{Sets, IsListed, IsListedFrom, IsTextOf}
use Rattle.rv_text.specs.declared.line.Line.{Line}
use Rattle.rv_text.specs.declared.operand.Operand.{Operand}
use Rattle.rv_text.specs.declared.operand.Operand.TheVariants.{Rd, Rs, Rt, Number, Place, Target}
use Rattle.rv_text.proofs.Numbers.{and_true, both_true}

-- two operands name different parts
abbrev is_apart : Operand → Operand → Bool
is_apart Rd Rd = false
is_apart Rs Rs = false
is_apart Rs (Place least most) = false
is_apart Rt Rt = false
is_apart (Number l m) (Number least most) = false
is_apart (Number l m) (Place least most) = false
is_apart (Place l m) Rs = false
is_apart (Place l m) (Number least most) = false
is_apart (Place l m) (Place least most) = false
is_apart Target Target = false
is_apart _ _ = true

abbrev are_apart : List Operand → Bool
are_apart [] = true
are_apart (operand ∷ operands) = list_all (is_apart operand) operands && are_apart operands

all_apart : list_all (λ row. are_apart row.operands) table ≡ true
unfolding table
all_apart = refl

found_has : (p : Row → Bool) (rows : List Row) (name : List ℕ) (row : Row) → list_all p rows ≡ true → find_row name rows ≡ Some row → p row ≡ true
found_has p [] name row all found = cc
found_has p (first ∷ rows) name row all found = tested (bytes_eq first.name name) (and_true (p first) (list_all p rows) all) found (found_has p rows name row)
  where
    tested : (b : Bool) → (p first ≡ true) × (list_all p rows ≡ true) → cond b (Some first) (find_row name rows) ≡ Some row → (list_all p rows ≡ true → find_row name rows ≡ Some row → p row ≡ true) → p row ≡ true
    tested true parts found further = let same : first ≡ row = cc in sym (ap p same) ∙ parts.0
    tested false parts found further = further parts.1 found

-- what one operand gives to a line leaves the parts of another
keeps_put : (operand other : Operand) (from line to : Line) → is_apart operand other ≡ true → put operand (put other from line) to ≡ put operand line to
keeps_put Rd Rd from line to apart = cc
keeps_put Rs Rs from line to apart = cc
keeps_put Rs (Place least most) from line to apart = cc
keeps_put Rt Rt from line to apart = cc
keeps_put (Number l m) (Number least most) from line to apart = cc
keeps_put (Number l m) (Place least most) from line to apart = cc
keeps_put (Place l m) Rs from line to apart = cc
keeps_put (Place l m) (Number least most) from line to apart = cc
keeps_put (Place l m) (Place least most) from line to apart = cc
keeps_put Target Target from line to apart = cc
keeps_put _ _ from line to apart = refl

keeps_text : (operand other : Operand) (from line : Line) → is_apart operand other ≡ true → operand_text operand (put other from line) ≡ operand_text operand line
keeps_text Rd Rd from line apart = cc
keeps_text Rs Rs from line apart = cc
keeps_text Rs (Place least most) from line apart = cc
keeps_text Rt Rt from line apart = cc
keeps_text (Number l m) (Number least most) from line apart = cc
keeps_text (Number l m) (Place least most) from line apart = cc
keeps_text (Place l m) Rs from line apart = cc
keeps_text (Place l m) (Number least most) from line apart = cc
keeps_text (Place l m) (Place least most) from line apart = cc
keeps_text Target Target from line apart = cc
keeps_text _ _ from line apart = refl

-- and so do all operands of a list
record Keeps (operand : Operand) (before after : Line) : Type 0 where
  parts : (to : Line) → put operand after to ≡ put operand before to
  text : operand_text operand after ≡ operand_text operand before

keeps_one : (operand other : Operand) (bytes : List ℕ) (before after : Line) → is_apart operand other ≡ true → Sets other bytes before after → Keeps operand before after
keeps_one operand other bytes before after apart sets = record {
  parts = λ to. ap (λ l. put operand l to) sets.rest_is ∙ keeps_put operand other after before to apart;
  text = ap (operand_text operand) sets.rest_is ∙ keeps_text operand other after before apart;
}

keeps_all : (operand other : Operand) (others : List Operand) (bytes : List ℕ) (before after : Line) → list_all (is_apart operand) (other ∷ others) ≡ true → IsListedFrom other others bytes before after → Keeps operand before after
keeps_all operand other [] bytes before after apart sets = keeps_one operand other bytes before after (and_true (is_apart operand other) _ apart).0 sets
keeps_all operand other (next ∷ others) bytes before after apart listed =
    let parts = and_true (is_apart operand other) (list_all (is_apart operand) (next ∷ others)) apart in
    let first = keeps_one operand other listed.0 before listed.2 parts.0 listed.3 in
    let further = keeps_all operand next others listed.1 listed.2 after parts.1 listed.5 in
    record { parts = λ to. further.parts to ∙ first.parts to; text = further.text ∙ first.text }

some_text : (o : Option (List ℕ)) (text : List ℕ) → o ≡ Some text → is_some o ≡ true
some_text o text is = ap is_some is

-- the operands of a list have texts, and they make the whole line
from_fits : (operand : Operand) (others : List Operand) (bytes : List ℕ) (before after : Line) → are_apart (operand ∷ others) ≡ true → IsListedFrom operand others bytes before after →
    (has_all (operand ∷ others) after ≡ true) × (filled (operand ∷ others) after before ≡ after)
from_fits operand [] bytes before after apart sets = (both_true (is_some (operand_text operand after)) true (some_text _ bytes sets.text_is) refl, sym sets.rest_is)
from_fits operand (next ∷ others) bytes before after apart listed =
    let parts = and_true (list_all (is_apart operand) (next ∷ others)) (are_apart (next ∷ others)) apart in
    let further = from_fits next others listed.1 listed.2 after parts.1 listed.5 in
    let keeps = keeps_all operand next others listed.1 listed.2 after parts.0 listed.5 in
    let between : put operand after before ≡ listed.2 = keeps.parts before ∙ sym listed.3.rest_is in (
      both_true (is_some (operand_text operand after)) (has_all (next ∷ others) after) (some_text _ listed.0 (keeps.text ∙ listed.3.text_is)) further.0,
      ap (filled (next ∷ others) after) between ∙ further.1,
    )

fits : (operands : List Operand) (bytes : List ℕ) (before after : Line) → are_apart operands ≡ true → IsListed operands bytes before after → (has_all operands after ≡ true) × (filled operands after before ≡ after)
fits [] bytes before after apart listed = (refl, sym listed.1)
fits (operand ∷ operands) bytes before after apart listed = from_fits operand operands bytes before after apart listed

-- equal lines are the same by the test
same_self : (line other : Line) → other ≡ line → same_line other line ≡ true
same_self line other is =
    both_true (bytes_eq other.name line.name) _ ((bytes_eq-Decides other.name line.name).1 (ap (λ l. l.name) is))
    (both_true (nat_eq other.rd line.rd) _ ((unsigned_Decides other.rd line.rd).1 (ap (λ l. l.rd) is))
    (both_true (nat_eq other.rs line.rs) _ ((unsigned_Decides other.rs line.rs).1 (ap (λ l. l.rs) is))
    (both_true (nat_eq other.rt line.rt) _ ((unsigned_Decides other.rt line.rt).1 (ap (λ l. l.rt) is))
    (both_true (int_eq other.imm line.imm) _ ((signed_Decides other.imm line.imm).1 (ap (λ l. l.imm) is)) ((bytes_eq-Decides other.target line.target).1 (ap (λ l. l.target) is))))))

pub text_is_line : (bytes : List ℕ) (line : Line) → IsTextOf bytes line → IsSome (action_of line)
text_is_line bytes line text =
    let apart = found_has (λ row. are_apart row.operands) table line.name text.row all_apart text.named in
    let parts = fits text.row.operands text.rest_is.operands (bare line.name) line apart text.rest_is.listed in
    let of_row : is_of_row text.row line ≡ true = both_true (has_all text.row.operands line) _ parts.0 (same_self line (filled text.row.operands line (bare line.name)) parts.1) in
    let is : action_of line ≡ Some text.row.action = ap (option_and_then (λ row. cond (is_of_row row line) (Some row.action) None)) text.named ∙ ap (λ b. cond b (Some text.row.action) None) of_row in
    let some : is_some (action_of line) ≡ true = ap is_some is in
    some
