-- A template filled with operands: GCC Internals, "Output Templates and Operand Substitution" and
-- "C Statements for Assembler Output".
use Rattle.std.specs.Prelude.{ℕ, List, [], ◌∷◌, Option, flat_map, slice_index_or}
use Rattle.std.specs.Fmt.{decimal}
use Rattle.rtx_tree.specs.declared.tree.Rtx.{Rtx}
use Rattle.rtx_tree.specs.Operands.{operand_at}
use Rattle.md_text.specs.declared.template.Piece.{Piece}
use Rattle.md_text.specs.declared.template.Piece.TheVariants as piece
use Rattle.md_text.specs.declared.template.Template.{Template}
use Rattle.md_text.specs.declared.template.Template.TheVariants as template
use Rattle.md_text.specs.Lists.{parts}
use Rattle.md_output.specs.Sequence.{operand_text}

-- the text of a piece, by the function's number, and the instruction's uid and operands
abbrev pub piece_text : ℕ → ℕ → List (Option Rtx) → Piece → List ℕ
piece_text function uid operands (piece.Byte byte) = byte ∷ []
piece_text function uid operands (piece.Operand how n) =
    operand_text function how (operand_at operands n)
piece_text function uid operands piece.Uid = decimal uid

-- the pieces that a template has for an alternative, counted from 0: those of its one text, or of
-- the alternative's own. There are none where the template lacks the alternative, or is `#`
abbrev pub pieces_in : Template → ℕ → List Piece
pieces_in template.Split alternative = []
pieces_in (template.One line) alternative = line
pieces_in (template.Each lines) alternative = slice_index_or lines alternative []

-- the text that a template gives in an alternative
abbrev pub filled : Template → ℕ → ℕ → ℕ → List (Option Rtx) → List ℕ
filled t alternative function uid operands =
    flat_map (piece_text function uid operands) (pieces_in t alternative)

-- the lines of a text, between its newlines; the empty text has none
abbrev pub lines_of : List ℕ → List (List ℕ)
lines_of [] = []
lines_of (byte ∷ rest) = parts 10 (byte ∷ rest)
