-- What a reason is about: where it stands, and what is written there.
use Rattle.std.specs.Prelude.{ℕ, ◌+◌, ◌-◌, ◌==◌, min, Bool, List, [], ◌++◌, if◌then◌else◌, length, take, drop}
use Rattle.std.specs.List.{after_last, count_by}
use Rattle.rtx_tree.specs.declared.place.Place.{Place}
use Rattle.text_words.specs.Blanks.{behind_blanks}
use Rattle.lisp_read.specs.declared.tree.Tree.{Tree}
use Rattle.lisp_read.specs.Shape.{place_of}
use Rattle.lisp_read.specs.Head.{cut}
use Rattle.lint_about.specs.declared.about.About.{About}

-- a tree as a whole
abbrev pub whole : Tree → About
whole t = record { place = place_of t; text = [] }

-- what is written at a place
abbrev pub told : Place → List ℕ → About
told place text = record { place = place; text = text }

-- the front of it, of 60 bytes at most
abbrev pub shown : Place → List ℕ → About
shown place text = told place (take 60 text)

-- ---- the lines of a quoted text

abbrev pub is_break : ℕ → Bool
is_break byte = byte == 10

-- what 32 bits hold
abbrev pub counted : ℕ → ℕ
counted n = min n 4294967295

-- the line of a text that has the byte at an offset: what stands behind the last break before it, and
-- what stands before the first break from there on
unfoldable pub line_at : List ℕ → ℕ → List ℕ
line_at text offset = after_last is_break (take offset text) ++ (cut 10 (drop offset text)).0

-- so many lines below a quote, and behind so many blanks
abbrev pub below : Place → ℕ → ℕ → Place
below quote lines blanks = record { line = counted (quote.line + lines); column = counted (blanks + 1); offset = quote.offset }

-- a line without its indentation; the first stands where the quote does
abbrev pub line_told : Place → ℕ → List ℕ → List ℕ → About
line_told quote lines line written =
    if lines == 0 then shown quote written else shown (below quote lines (length line - length written)) written

-- the line of a quoted text that has the byte at an offset, where it begins
unfoldable pub line_of : Place → List ℕ → ℕ → About
line_of quote text offset =
    line_told quote (count_by is_break (take offset text)) (line_at text offset) (behind_blanks (line_at text offset))
