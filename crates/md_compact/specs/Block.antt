-- Blocks in the compact syntax, which stand in the place of a template: GCC Internals, "Compact
-- Syntax". Behind @ stand a layout and one row or more. A row is a line: [ENTRIES] or [ENTRIES;
-- VALUES], with an entry for each column and a value for each name of the layout, and behind it the
-- output, up to the end of the line.
use Rattle.std.specs.Prelude.{ℕ, ◌==◌, ◌&&◌, List, [], ◌∷◌, Option, Some, None, if◌then◌else◌, length, option_and_then}
use Rattle.text_words.specs.Blanks.{behind_blanks}
use Rattle.md_text.specs.Lists.{parts, members, trimmed, each}
use Rattle.md_compact.specs.declared.block.Layout.{Layout}
use Rattle.md_compact.specs.declared.block.Row.{Row}
use Rattle.md_compact.specs.declared.block.Block.{Block}
use Rattle.md_compact.specs.Lines.{kept, past_blank, bracketed}
use Rattle.md_compact.specs.Layout.{layout_of}

-- ---- rows

abbrev pub row_with : Layout → List ℕ → List (List ℕ) → List (List ℕ) → Option Row
row_with layout output entries values =
    if length entries == length layout.columns && length values == length layout.names
    then Some (record { entries = entries; values = values; output = output }) else None

-- by the parts between semicolons
abbrev pub row_by : Layout → List ℕ → List (List ℕ) → Option Row
row_by layout output (entries ∷ []) = row_with layout output (members entries) []
row_by layout output (entries ∷ values ∷ []) =
    row_with layout output (members entries) (members values)
row_by layout output _ = None

abbrev pub row_of : Layout → List ℕ → Option Row
row_of layout line = option_and_then (λ b. row_by layout (trimmed b.1) (parts 59 b.0)) (bracketed line)

-- ---- the block

-- a block has a row
abbrev pub with_rows : Layout → List Row → Option Block
with_rows layout [] = None
with_rows layout (row ∷ more) = Some (record { layout = layout; rows = row ∷ more })

abbrev pub with_lines : List (List ℕ) → Layout → Option Block
with_lines lines layout =
    option_and_then (with_rows layout) (each (row_of layout) (past_blank lines))

-- the block whose text stands behind @
abbrev pub behind_at : List ℕ → Option Block
behind_at text = option_and_then (λ b. option_and_then (with_lines (parts 10 b.1)) (layout_of (parts 59 b.0))) (bracketed text)

abbrev pub block_by : List ℕ → Option Block
block_by [] = None
block_by (b ∷ rest) = if b == 64 then behind_at (kept (parts 10 rest)) else None

-- the block that a text is, behind blanks and @; none where it is none
unfoldable pub block_of : List ℕ → Option Block
block_of text = block_by (behind_blanks text)
