-- What a block stands for in a form without it: GCC Internals, "Compact Syntax". The constraint of a
-- column's operand is the column's mark and its entries of all rows, with commas between; an
-- attribute has its values of all rows; the template is @ and the outputs as its lines.
use Rattle.std.specs.Prelude.{ℕ, ◌==◌, Bool, false, ◌&&◌, List, [], ◌∷◌, ◌++◌, map, slice_index_or}
use Rattle.std.specs.List.{flat_map, list_any}
use Rattle.md_compact.specs.declared.block.Mark.{Mark}
use Rattle.md_compact.specs.declared.block.Mark.TheVariants as mark
use Rattle.md_compact.specs.declared.block.Column.{Column}
use Rattle.md_compact.specs.declared.block.Row.{Row}
use Rattle.md_compact.specs.declared.block.Block.{Block}

-- ---- constraints

abbrev pub mark_text : Mark → List ℕ
mark_text mark.Nothing = []
mark_text mark.Output = 61 ∷ []
mark_text mark.Both = 43 ∷ []

-- what a row has in the column of an index
abbrev pub entry : ℕ → Row → List ℕ
entry at row = slice_index_or row.entries at []

-- with commas between
abbrev pub entries : ℕ → List Row → List ℕ
entries at [] = []
entries at (row ∷ more) = entry at row ++ flat_map (λ r. 44 ∷ entry at r) more

-- the constraint of the operand of a column at an index
unfoldable pub column_text : Block → ℕ → Column → List ℕ
column_text block at column = mark_text column.mark ++ entries at block.rows

-- ---- attributes

-- what a row has under the name of an index
abbrev pub value : ℕ → Row → List ℕ
value at row = slice_index_or row.values at []

-- what all rows have there
unfoldable pub values_at : Block → ℕ → List (List ℕ)
values_at block at = map (value at) block.rows

-- ---- the template

-- an output that begins with << is C code, as one that begins with a star
abbrev pub is_expression : List ℕ → Bool
is_expression (a ∷ b ∷ rest) = a == 60 && b == 60
is_expression _ = false

unfoldable pub has_expression : Block → Bool
has_expression block = list_any (λ r. is_expression r.output) block.rows

-- @, and each output on a line of its own
unfoldable pub old_template : Block → List ℕ
old_template block = 64 ∷ flat_map (λ r. 10 ∷ r.output) block.rows
