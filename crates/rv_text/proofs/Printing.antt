-- What a line is written as reads back as the line.
use Rattle.std.proofs.Common.{◌≡◌, ℕ, Bool, true, false, cond, bytes_eq, nat_eq, List, [], ◌∷◌, ◌++◌, Option, Some, None, is_some, IsSome, option_and_then, unwrap_or, refl, sym, ◌∙◌, ap, subst}
use Rattle.std.specs.Ordering.{int_eq}
use Rattle.std.specs.Cmp.{unsigned_Decides, signed_Decides}
use Rattle.std.proofs.lemmas.Slice.Eq.{bytes_eq-Decides}
use Rattle.std.proofs.lemmas.List.{append-nil}
use Rattle.rv_text.specs.Table.{Row, row_named}
use Rattle.text_words.specs.Words.{is_symbol}
use Rattle.rv_text.specs.Lines.{register_text, is_within, place_text, operand_text, put, bare, same_line, filled, has_all, is_of_row, action_of, shown, shown_all, row_text, line_text}
use Rattle.rv_text.specs.Text.{Sets, IsListed, IsListedFrom, IsRestOf, IsTextOf}
use Rattle.rv_text.specs.declared.line.Line.{Line}
use Rattle.rv_text.specs.declared.operand.Operand.{Operand}
use Rattle.rv_text.specs.declared.operand.Operand.TheVariants.{Rd, Rs, Rt, Number, Place, Target, Ra}
use Rattle.rv_text.proofs.Numbers.{and_true}

-- ---- equal lines

pub same_line_is : (a b : Line) → same_line a b ≡ true → a ≡ b
same_line_is a b same =
    let one = and_true (bytes_eq a.name b.name) _ same in
    let two = and_true (nat_eq a.rd b.rd) _ one.1 in
    let three = and_true (nat_eq a.rs b.rs) _ two.1 in
    let four = and_true (nat_eq a.rt b.rt) _ three.1 in
    let five = and_true (int_eq a.imm b.imm) (bytes_eq a.target b.target) four.1 in
    let name = (bytes_eq-Decides a.name b.name).0 one.0 in
    let rd = (unsigned_Decides a.rd b.rd).0 two.0 in
    let rs = (unsigned_Decides a.rs b.rs).0 three.0 in
    let rt = (unsigned_Decides a.rt b.rt).0 four.0 in
    let imm = (signed_Decides a.imm b.imm).0 five.0 in
    let target = (bytes_eq-Decides a.target b.target).0 five.1 in
    λ i. record { name = name i; rd = rd i; rs = rs i; rt = rt i; imm = imm i; target = target i }

-- ---- one operand

some_shown : (o : Option (List ℕ)) → is_some o ≡ true → o ≡ Some (unwrap_or o [])
some_shown None some = cc
some_shown (Some text) some = refl

if_shown : (b : Bool) (text : List ℕ) → is_some (cond b (Some text) None) ≡ true → cond b (Some text) None ≡ Some text
if_shown true text some = refl
if_shown false text some = cc

place_shown : (b : Bool) (text : List ℕ) (reg : Option (List ℕ)) → is_some (place_text (cond b (Some text) None) reg) ≡ true → place_text (cond b (Some text) None) reg ≡ Some (text ++ 40 ∷ (unwrap_or reg [] ++ 41 ∷ []))
place_shown true text None some = cc
place_shown true text (Some reg) some = refl
place_shown false text reg some = cc

-- an operand that has a text is written as this text
shown_is : (operand : Operand) (line : Line) → is_some (operand_text operand line) ≡ true → operand_text operand line ≡ Some (shown operand line)
shown_is Rd line some = some_shown (register_text line.rd) some
shown_is Rs line some = some_shown (register_text line.rs) some
shown_is Rt line some = some_shown (register_text line.rt) some
shown_is (Number least most) line some = if_shown (is_within least most line.imm) _ some
shown_is (Place least most) line some = place_shown (is_within least most line.imm) _ (register_text line.rs) some
shown_is Target line some = if_shown (is_symbol line.target) line.target some
shown_is Ra line some = refl

-- an operand's text gives its part of the line to another line
put_text : (operand : Operand) (from before : Line) → operand_text operand (put operand from before) ≡ operand_text operand from
put_text Rd from before = refl
put_text Rs from before = refl
put_text Rt from before = refl
put_text (Number least most) from before = refl
put_text (Place least most) from before = refl
put_text Target from before = refl
put_text Ra from before = refl

put_again : (operand : Operand) (from before : Line) → put operand from before ≡ put operand (put operand from before) before
put_again Rd from before = refl
put_again Rs from before = refl
put_again Rt from before = refl
put_again (Number least most) from before = refl
put_again (Place least most) from before = refl
put_again Target from before = refl
put_again Ra from before = refl

sets_shown : (operand : Operand) (from before : Line) → is_some (operand_text operand from) ≡ true → Sets operand (shown operand from) before (put operand from before)
sets_shown operand from before some = record { text_is = put_text operand from before ∙ shown_is operand from some; rest_is = put_again operand from before }

-- ---- operands with commas

-- the operands without the byte before the first
abbrev shown_from : Operand → List Operand → Line → List ℕ
shown_from operand others line = shown operand line ++ shown_all 44 others line

listed_from : (operand : Operand) (others : List Operand) (from before : Line) → has_all (operand ∷ others) from ≡ true → IsListedFrom operand others (shown_from operand others from) before (filled (operand ∷ others) from before)
listed_from operand [] from before all =
    let parts = and_true (is_some (operand_text operand from)) _ all in
    let P : List ℕ → Type 0 = λ t. Sets operand t before (put operand from before) in
    subst P (sym (append-nil (shown operand from))) (sets_shown operand from before parts.0)
listed_from operand (next ∷ others) from before all =
    let parts = and_true (is_some (operand_text operand from)) (has_all (next ∷ others) from) all in (
      shown operand from,
      shown_from next others from,
      put operand from before,
      sets_shown operand from before parts.0,
      record { left = []; left_blank = refl; right = []; right_blank = refl; spelled = refl },
      listed_from next others from (put operand from before) parts.1,
    )

-- ---- a line

rest_shown : (row : Row) (line : Line) → is_of_row row line ≡ true → IsRestOf row line.name (shown_all 9 row.operands line) line
rest_shown row line of_row =
    let parts = and_true (has_all row.operands line) (same_line (filled row.operands line (bare line.name)) line) of_row in
    cases row.operands refl parts.0 (same_line_is _ line parts.1)
  where
    cases : (operands : List Operand) → row.operands ≡ operands → has_all row.operands line ≡ true → filled row.operands line (bare line.name) ≡ line → IsRestOf row line.name (shown_all 9 row.operands line) line
    cases [] is all same = record {
      gap = [];
      gap_blank = refl;
      apart = λ some. absurd (some is);
      operands = [];
      spelled = ap (λ o. shown_all 9 o line) is;
      listed = subst (λ o. IsListed o [] (bare line.name) line) (sym is) (refl, sym same ∙ ap (λ o. filled o line (bare line.name)) is);
    }
    cases (operand ∷ others) is all same = record {
      gap = 9 ∷ [];
      gap_blank = refl;
      apart = λ some none. cc;
      operands = shown_from operand others line;
      spelled = ap (λ o. shown_all 9 o line) is;
      listed = subst (λ o. IsListed o (shown_from operand others line) (bare line.name) line) (sym is)
          (subst (λ l. IsListedFrom operand others (shown_from operand others line) (bare line.name) l) (sym (ap (λ o. filled o line (bare line.name)) is) ∙ same)
          (listed_from operand others line (bare line.name) (sym (ap (λ o. has_all o line) is) ∙ all)));
    }

text_shown : (row : Row) (line : Line) → row_named line.name ≡ Some row → is_of_row row line ≡ true → IsTextOf (9 ∷ (line.name ++ shown_all 9 row.operands line)) line
text_shown row line named of_row = record {
  row = row;
  named = named;
  front = 9 ∷ [];
  front_blank = refl;
  rest = shown_all 9 row.operands line;
  spelled = refl;
  rest_is = rest_shown row line of_row;
}

row_shown : (found : Option Row) (line : Line) → row_named line.name ≡ found → IsSome (option_and_then (λ row. cond (is_of_row row line) (Some row.action) None) found) → IsTextOf (row_text found line) line
row_shown None line named some = let e : false ≡ true = some in cc
row_shown (Some row) line named some = cases (is_of_row row line) refl some
  where
    cases : (b : Bool) → is_of_row row line ≡ b → IsSome (cond b (Some row.action) None) → IsTextOf (cond b (9 ∷ (line.name ++ shown_all 9 row.operands line)) []) line
    cases true of_row some = text_shown row line named of_row
    cases false of_row some = let e : false ≡ true = some in cc

pub reads_back : (line : Line) → IsSome (action_of line) → IsTextOf (line_text line) line
reads_back line some = row_shown (row_named line.name) line refl some
