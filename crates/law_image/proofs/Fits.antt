-- The words of a line fit their formats.
use Rattle.std.proofs.Common.{◌≡◌, ℕ, ℤ, pos, negsuc, ◌<◌, ◌≤ℤ◌, ◌&&◌, Bool, true, false, if◌then◌else◌, List, [], ◌∷◌, Option, Some, None, is_some, refl, subst, arith}
use Rattle.std.specs.Prelude.{int_le}
use Rattle.std.specs.Fmt.{signed_decimal}
use Rattle.std.proofs.lemmas.Int.{ints}
use Rattle.std.proofs.lemmas.Bool.Decides.{nat_tests}
use Rattle.text_words.specs.Words.{fits_i64}
use Rattle.rv_text.specs.Lines.{is_within, register_text, number_text, place_text, operand_text, is_of_row, same_line, put, filled, bare, has_all}
use Rattle.rv_text.specs.Table.{Row}
use Rattle.rv_text.specs.declared.line.Line.{Line}
use Rattle.rv_text.specs.declared.operand.Operand.{Operand}
use Rattle.rv_text.specs.declared.operand.Operand.TheVariants.{Rd, Rs, Rt, Number, Place, Target, Ra}
use Rattle.rv_text.proofs.Numbers.{and_true}
use Rattle.rv_text.proofs.Printing.{same_line_is}
use Rattle.rv_text.proofs.Registers.{is_some_register}
use Rattle.rv_word.specs.Word.{IsWithin}

-- ---- registers

pub record Low (line : Line) : Type 0 where
  pub rd : line.rd < 32
  pub rs : line.rs < 32
  pub rt : line.rt < 32

below : (reg : ℕ) → is_some (register_text reg) ≡ true → reg < 32
below reg is = grind (arith, nat_tests, is_some_register reg)

place_reg : (n r : Option (List ℕ)) → is_some (place_text n r) ≡ true → is_some r ≡ true
place_reg None r some = cc
place_reg (Some t) None some = cc
place_reg (Some t) (Some u) some = refl

place_number : (n r : Option (List ℕ)) → is_some (place_text n r) ≡ true → is_some n ≡ true
place_number None r some = cc
place_number (Some t) r some = refl

put_low : (operand : Operand) (from line : Line) → is_some (operand_text operand from) ≡ true → Low line → Low (put operand from line)
put_low Rd from line some low = record { rd = below from.rd some; rs = low.rs; rt = low.rt }
put_low Rs from line some low = record { rd = low.rd; rs = below from.rs some; rt = low.rt }
put_low Rt from line some low = record { rd = low.rd; rs = low.rs; rt = below from.rt some }
put_low (Number least most) from line some low = record { rd = low.rd; rs = low.rs; rt = low.rt }
put_low (Place least most) from line some low = record { rd = low.rd; rs = below from.rs (place_reg (number_text least most from.imm) (register_text from.rs) some); rt = low.rt }
put_low Target from line some low = record { rd = low.rd; rs = low.rs; rt = low.rt }
put_low Ra from line some low = low

filled_low : (operands : List Operand) (from line : Line) → has_all operands from ≡ true → Low line → Low (filled operands from line)
filled_low [] from line all low = low
filled_low (operand ∷ operands) from line all low =
    let parts = and_true (is_some (operand_text operand from)) (has_all operands from) all in
    filled_low operands from (put operand from line) parts.1 (put_low operand from line parts.0 low)

pub low_line : (row : Row) (line : Line) → is_of_row row line ≡ true → Low line
low_line row line of_row =
    let parts = and_true (has_all row.operands line) (same_line (filled row.operands line (bare line.name)) line) of_row in
    let none : Low (bare line.name) = record { rd = omega arith; rs = omega arith; rt = omega arith } in
    subst Low (same_line_is (filled row.operands line (bare line.name)) line parts.1) (filled_low row.operands line (bare line.name) parts.0 none)

-- ---- numbers

not_below : (z least : ℤ) → int_le least z ≡ true → least ≤ℤ z
not_below (pos n) (pos m) is = grind (arith, nat_tests)
not_below (pos n) (negsuc m) is = omega (arith, ints)
not_below (negsuc n) (pos m) is = cc
not_below (negsuc n) (negsuc m) is = grind (arith, nat_tests)

in_range : (least most z : ℤ) → is_some (number_text least most z) ≡ true → IsWithin least most z
in_range least most z some = by (is_within least most z) refl some
  where
    by : (t : Bool) → is_within least most z ≡ t → is_some (if t then Some (signed_decimal z) else None) ≡ true → IsWithin least most z
    by false e is = cc
    by true e is =
        let parts = and_true (fits_i64 z) (int_le least z && int_le z most) e in
        let ends = and_true (int_le least z) (int_le z most) parts.1 in
        (not_below z least ends.0, not_below most z ends.1)

abbrev holds : Row → Line → Bool
holds row line = has_all row.operands line

pub all_of : (row : Row) (line : Line) → is_of_row row line ≡ true → has_all row.operands line ≡ true
all_of row line of_row = (and_true (has_all row.operands line) (same_line (filled row.operands line (bare line.name)) line) of_row).0

-- the number that is the third operand, or the second, or stands in a place that is the second
pub third_number : (a b : Operand) (least most : ℤ) (line : Line) → has_all (a ∷ b ∷ Number least most ∷ []) line ≡ true → IsWithin least most line.imm
third_number a b least most line all =
    let one = and_true (is_some (operand_text a line)) (has_all (b ∷ Number least most ∷ []) line) all in
    let two = and_true (is_some (operand_text b line)) (has_all (Number least most ∷ []) line) one.1 in
    let three = and_true (is_some (number_text least most line.imm)) true two.1 in
    in_range least most line.imm three.0

pub second_number : (a : Operand) (least most : ℤ) (line : Line) → has_all (a ∷ Number least most ∷ []) line ≡ true → IsWithin least most line.imm
second_number a least most line all =
    let one = and_true (is_some (operand_text a line)) (has_all (Number least most ∷ []) line) all in
    let two = and_true (is_some (number_text least most line.imm)) true one.1 in
    in_range least most line.imm two.0

pub second_place : (a : Operand) (least most : ℤ) (line : Line) → has_all (a ∷ Place least most ∷ []) line ≡ true → IsWithin least most line.imm
second_place a least most line all =
    let one = and_true (is_some (operand_text a line)) (has_all (Place least most ∷ []) line) all in
    let two = and_true (is_some (place_text (number_text least most line.imm) (register_text line.rs))) true one.1 in
    in_range least most line.imm (place_number (number_text least most line.imm) (register_text line.rs) two.0)
