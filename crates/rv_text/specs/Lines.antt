-- Lines of assembly, and how they are written. The operands are written as the assembly manual has
-- them ("RISC-V Assembly Programmer's Manual", "Load and Store Instructions" for imm(rs));
-- registers go by the names of the calling convention alone (RISC-V ELF psABI, "Integer Register
-- Convention"), and numbers are decimal.
use Rattle.std.specs.Prelude.{ℕ, ℤ, pos, Bool, ◌&&◌, nat_eq, int_le, List, [], ◌∷◌, ◌++◌, Option, Some, None, is_some, if◌then◌else◌, bytes_eq, codes, option_map, option_and_then, slice_get, unwrap_or}
use Rattle.std.specs.Ordering.{int_eq}
use Rattle.std.specs.List.{list_all}
use Rattle.std.specs.Fmt.{signed_decimal}
use Rattle.rtx_tree.specs.Registers.{reg_names}
use Rattle.text_words.specs.Words.{fits_i64, is_symbol}
use Rattle.rv_text.specs.Table.{Row, row_named}
use Rattle.rv_text.specs.declared.action.Action.{Action}
use Rattle.rv_text.specs.declared.line.Line.{Line}
use Rattle.rv_text.specs.declared.line.LineParts as code
use Rattle.rv_text.specs.declared.operand.Operand.{Operand}
use Rattle.rv_text.specs.declared.operand.Operand.TheVariants.{Rd, Rs, Rt, Number, Place, Target, Ra}

-- the line that the code lends by its parts
abbrev pub parts_view : code.LineParts → Line
parts_view parts = record { name = parts.name.now; rd = parts.rd; rs = parts.rs; rt = parts.rt; imm = parts.imm; target = parts.target.now }

-- ---- what the operands of a line are

-- a register's name
abbrev pub register_text : ℕ → Option (List ℕ)
register_text reg = slice_get reg_names reg

abbrev pub is_within : ℤ → ℤ → ℤ → Bool
is_within least most number = fits_i64 number && (int_le least number && int_le number most)

-- a number of 64 signed bits within bounds, in decimal: no needless zero, no plus sign, no minus
-- sign before 0
abbrev pub number_text : ℤ → ℤ → ℤ → Option (List ℕ)
number_text least most number =
    if is_within least most number then Some (signed_decimal number) else None

-- a number, and a register in parentheses
abbrev pub place_text : Option (List ℕ) → Option (List ℕ) → Option (List ℕ)
place_text number reg =
    option_and_then (λ n. option_map (λ r. n ++ (40 ∷ (r ++ 41 ∷ []))) reg) number

-- the text of an operand of a line, or none where the line's part is not what the operand may be
abbrev pub operand_text : Operand → Line → Option (List ℕ)
operand_text Rd line = register_text line.rd
operand_text Rs line = register_text line.rs
operand_text Rt line = register_text line.rt
operand_text (Number least most) line = number_text least most line.imm
operand_text (Place least most) line =
    place_text (number_text least most line.imm) (register_text line.rs)
operand_text Target line = if is_symbol line.target then Some line.target else None
operand_text Ra line = Some (codes "ra")

-- an operand as it is written, whatever the line's parts are
abbrev pub shown : Operand → Line → List ℕ
shown Rd line = unwrap_or (register_text line.rd) []
shown Rs line = unwrap_or (register_text line.rs) []
shown Rt line = unwrap_or (register_text line.rt) []
shown (Number least most) line = signed_decimal line.imm
shown (Place least most) line =
    signed_decimal line.imm ++ (40 ∷ (unwrap_or (register_text line.rs) [] ++ 41 ∷ []))
shown Target line = line.target
shown Ra line = codes "ra"

-- a line of which nothing but the mnemonic is given
abbrev pub bare : List ℕ → Line
bare name = record { name = name; rd = 0; rs = 0; rt = 0; imm = pos 0; target = [] }

-- the second line with the part that an operand names taken from the first
abbrev pub put : Operand → Line → Line → Line
put Rd from line = record line { rd = from.rd }
put Rs from line = record line { rs = from.rs }
put Rt from line = record line { rt = from.rt }
put (Number least most) from line = record line { imm = from.imm }
put (Place least most) from line = record line { rs = from.rs; imm = from.imm }
put Target from line = record line { target = from.target }
put Ra from line = line

-- ---- which lines there are

abbrev pub same_line : Line → Line → Bool
same_line a b = bytes_eq a.name b.name && (nat_eq a.rd b.rd && (nat_eq a.rs b.rs && (nat_eq a.rt b.rt && (int_eq a.imm b.imm && bytes_eq a.target b.target))))

-- the second line with what all operands name taken from the first
abbrev pub filled : List Operand → Line → Line → Line
filled [] from line = line
filled (operand ∷ operands) from line = filled operands from (put operand from line)

-- each of the operands has a text
abbrev pub has_all : List Operand → Line → Bool
has_all operands line = list_all (λ operand. is_some (operand_text operand line)) operands

-- a line is one of a row where its operands have texts, and where all that they do not name is 0 or
-- empty
abbrev pub is_of_row : Row → Line → Bool
is_of_row row line =
    has_all row.operands line && same_line (filled row.operands line (bare line.name)) line

-- what a line does, or none where it is no line of the table
abbrev pub action_of : Line → Option Action
action_of line = option_and_then (λ row. if is_of_row row line then Some row.action else None) (row_named line.name)

-- the operands as they are written: a byte before the first, a comma before each other one
abbrev pub shown_all : ℕ → List Operand → Line → List ℕ
shown_all separator [] line = []
shown_all separator (operand ∷ operands) line =
    separator ∷ (shown operand line ++ shown_all 44 operands line)

-- a line of a row is written as a tab, the mnemonic, a tab and the operands; what is no line of the
-- row, as nothing
abbrev pub row_text : Option Row → Line → List ℕ
row_text None line = []
row_text (Some row) line =
    if is_of_row row line then 9 ∷ (line.name ++ shown_all 9 row.operands line) else []

abbrev pub line_text : Line → List ℕ
line_text line = row_text (row_named line.name) line
