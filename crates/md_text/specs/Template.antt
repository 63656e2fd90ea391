-- Output templates: GCC Internals, "Output Templates and Operand Substitution" and "C Statements
-- for Assembler Output". Their texts stand between quotes and have their backslashes still.
use Rattle.std.specs.Prelude.{ℕ, ◌+◌, ◌==◌, nat_lt, ℤ, pos, negsuc, Bool, false, ◌||◌, List, [], ◌∷◌, Option, Some, None, if◌then◌else◌, length, option_map, option_and_then}
use Rattle.std.specs.List.{find, list_all, list_any}
use Rattle.text_words.specs.Words.{number_in}
use Rattle.text_words.specs.Blanks.{is_space, behind_spaces}
use Rattle.md_text.specs.declared.template.Print.{Print}
use Rattle.md_text.specs.declared.template.Print.TheVariants as print
use Rattle.md_text.specs.declared.template.Piece.{Piece}
use Rattle.md_text.specs.declared.template.Piece.TheVariants as piece
use Rattle.md_text.specs.declared.template.Template.TheVariants as template
use Rattle.md_text.specs.declared.template.Reading.{Reading}
use Rattle.md_text.specs.declared.template.Reading.TheVariants as reading
use Rattle.md_text.specs.Lists.{parts, each}
use Rattle.md_text.specs.Pieces.{pieces}
use Rattle.md_text.specs.Constraint.{is_digit}

-- ---- one text

-- what may stand between % and the number of an operand: l, c, n, z, i, C and N
abbrev pub prints : List (ℕ × Print)
prints = (108, print.Label) ∷ (99, print.Constant) ∷ (110, print.Negative) ∷ (122, print.OrZero) ∷ (105, print.Immediate) ∷ (67, print.Comparison) ∷ (78, print.Reversed) ∷ []

abbrev pub print_of : ℕ → Option Print
print_of byte = option_map (λ e. e.1) (find (λ e. e.0 == byte) prints)

-- the digits at the front
abbrev pub digits : List ℕ → List ℕ
digits [] = []
digits (b ∷ rest) = if is_digit b then b ∷ digits rest else []

abbrev pub number_at : ℤ → Option ℕ
number_at (pos n) = if nat_lt n 4294967296 then Some n else None
number_at (negsuc n) = None

-- the number that some digits write, in 32 bits and without a needless zero
abbrev pub operand_number : List ℕ → Option ℕ
operand_number text = option_and_then number_at (number_in text)

-- an operand whose number stands at the front, behind so many bytes of the sequence
abbrev pub operand : Print → ℕ → List ℕ → Option (Piece × ℕ)
operand how before text = option_map (λ n. (piece.Operand how n, before + length (digits text))) (operand_number (digits text))

abbrev pub byte_piece : ℕ → Option (Piece × ℕ)
byte_piece byte = Some (piece.Byte byte, 1)

-- behind %: % itself, = for the number of the instruction, an operand's number, or a letter and an
-- operand's number
abbrev pub behind_percent : List ℕ → Option (Piece × ℕ)
behind_percent [] = None
behind_percent (b ∷ rest) = if b == 37 then byte_piece 37
    else if b == 61 then Some (piece.Uid, 1)
    else if is_digit b then operand print.Plain 0 (b ∷ rest)
    else option_and_then (λ how. operand how 1 rest) (print_of b)

-- behind a backslash: t, n, a backslash or a quote
abbrev pub behind_backslash : List ℕ → Option (Piece × ℕ)
behind_backslash [] = None
behind_backslash (b ∷ rest) = if b == 116 then byte_piece 9
    else if b == 110 then byte_piece 10
    else if b == 92 || b == 34 then byte_piece b
    else None

-- what stands at the front of a template, and how many bytes it has behind its first. Braces, which
-- choose a dialect of the assembler, are outside.
abbrev pub piece_at : List ℕ → Option (Piece × ℕ)
piece_at [] = None
piece_at (byte ∷ rest) = if byte == 37 then behind_percent rest
    else if byte == 92 then behind_backslash rest
    else if byte == 123 || byte == 125 then None
    else Some (piece.Byte byte, 0)

-- the pieces of one text; none where a sequence in it is outside
abbrev pub line_of : List ℕ → Option (List Piece)
line_of text = pieces piece_at 0 text

-- ---- the template of a form

-- without the line of the @ itself, if nothing more stands there
abbrev pub behind_at : List (List ℕ) → List (List ℕ)
behind_at [] = []
behind_at (first ∷ more) = if list_all is_space first then more else first ∷ more

-- the lines behind @, one for each alternative
abbrev pub lines : List ℕ → List (List ℕ)
lines text = behind_at (parts 10 text)

-- a star begins C code
abbrev pub is_code : List ℕ → Bool
is_code [] = false
is_code (b ∷ rest) = b == 42

-- blanks before a line are dropped
abbrev pub is_code_line : List ℕ → Bool
is_code_line text = is_code (behind_spaces text)

abbrev pub spaced_line_of : List ℕ → Option (List Piece)
spaced_line_of text = line_of (behind_spaces text)

abbrev pub one : Option (List Piece) → Reading
one None = reading.Outside
one (Some line) = reading.Template (template.One line)

abbrev pub several : Option (List (List Piece)) → Reading
several None = reading.Outside
several (Some lines) = reading.Template (template.Each lines)

abbrev pub each_line : List (List ℕ) → Reading
each_line texts =
    if list_any is_code_line texts then reading.Code else several (each spaced_line_of texts)

-- # alone: the form is always split
abbrev pub is_split : List ℕ → Bool
is_split (b ∷ []) = b == 35
is_split _ = false

abbrev pub is_several : List ℕ → Bool
is_several [] = false
is_several (b ∷ rest) = b == 64

abbrev pub behind_first : List ℕ → List ℕ
behind_first [] = []
behind_first (b ∷ rest) = rest

-- what the output part of a form is
abbrev pub template_of : List ℕ → Reading
template_of text = if is_code text then reading.Code
    else if is_split text then reading.Template template.Split
    else if is_several text then each_line (lines (behind_first text))
    else one (line_of text)
