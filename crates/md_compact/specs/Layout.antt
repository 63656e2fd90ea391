-- The layout of a block: GCC Internals, "Compact Syntax". It stands between brackets as cons:
-- COLUMNS or as cons: COLUMNS; attrs: NAMES. A column is the number of an operand, behind = or + or
-- nothing, and a name is an attribute's; both lists have commas.
use Rattle.std.specs.Prelude.{ℕ, ◌==◌, nat_lt, Bool, List, [], ◌∷◌, Option, Some, None, if◌then◌else◌, codes, length, option_map, option_and_then}
use Rattle.std.specs.List.{list_all}
use Rattle.text_words.specs.Blanks.{behind_blanks}
use Rattle.md_text.specs.Lists.{members, each}
use Rattle.md_text.specs.Template.{operand_number}
use Rattle.md_compact.specs.declared.block.Mark.{Mark}
use Rattle.md_compact.specs.declared.block.Mark.TheVariants as mark
use Rattle.md_compact.specs.declared.block.Column.{Column}
use Rattle.md_compact.specs.declared.block.Layout.{Layout}
use Rattle.md_compact.specs.Lines.{behind_word}

-- ---- columns

abbrev pub numbered : Mark → List ℕ → Option Column
numbered m text = option_map (λ n. record { operand = n; mark = m }) (operand_number (behind_blanks text))

-- =NUMBER, +NUMBER or NUMBER
abbrev pub column_of : List ℕ → Option Column
column_of [] = None
column_of (b ∷ rest) =
    if b == 61 then numbered mark.Output rest
    else if b == 43 then numbered mark.Both rest
    else numbered mark.Nothing (b ∷ rest)

-- cons: COLUMNS
abbrev pub columns_of : List ℕ → Option (List Column)
columns_of text =
    option_and_then (λ list. each column_of (members list)) (behind_word (codes "cons:") (behind_blanks text))

-- ---- names

-- each has a byte or more
abbrev pub are_named : List (List ℕ) → Bool
are_named names = list_all (λ name. nat_lt 0 (length name)) names

abbrev pub if_named : List (List ℕ) → Option (List (List ℕ))
if_named names = if are_named names then Some names else None

-- attrs: NAMES
abbrev pub names_of : List ℕ → Option (List (List ℕ))
names_of text =
    option_and_then (λ list. if_named (members list)) (behind_word (codes "attrs:") (behind_blanks text))

-- ---- both

abbrev pub layout_with : Option (List Column) → Option (List (List ℕ)) → Option Layout
layout_with (Some columns) (Some names) = Some (record { columns = columns; names = names })
layout_with _ _ = None

-- the layout of what stands between its brackets, by the parts between semicolons
abbrev pub layout_of : List (List ℕ) → Option Layout
layout_of (columns ∷ []) = layout_with (columns_of columns) (Some [])
layout_of (columns ∷ names ∷ []) = layout_with (columns_of columns) (names_of names)
layout_of _ = None
