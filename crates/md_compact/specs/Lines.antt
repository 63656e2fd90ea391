-- The text of a block and its lines: GCC Internals, "Compact Syntax". A line of blanks and a line
-- that begins with // carry nothing, and blanks between the parts of a block don't either.
use Rattle.std.specs.Prelude.{ℕ, ◌==◌, Bool, false, ◌&&◌, ◌||◌, List, [], ◌∷◌, ◌++◌, Option, Some, None, if◌then◌else◌, length, take, drop}
use Rattle.std.specs.List.{flat_map, list_all}
use Rattle.std.specs.Str.{bytes_eq}
use Rattle.text_words.specs.Blanks.{is_blank, behind_blanks}
use Rattle.text_words.specs.Cut.{cut}

-- ---- lines

abbrev pub begins_comment : List ℕ → Bool
begins_comment (a ∷ b ∷ rest) = a == 47 && b == 47
begins_comment _ = false

-- a line of blanks, or one whose first bytes past blanks are //
abbrev pub says_nothing : List ℕ → Bool
says_nothing line = list_all is_blank line || begins_comment (behind_blanks line)

abbrev pub further : List ℕ → List ℕ
further line = if says_nothing line then [] else 10 ∷ line

-- the text of some lines without those that carry nothing; on the first stands the @
abbrev pub kept : List (List ℕ) → List ℕ
kept [] = []
kept (first ∷ more) = first ++ flat_map further more

-- without the rest of a line, if it is of blanks
abbrev pub past_blank : List (List ℕ) → List (List ℕ)
past_blank [] = []
past_blank (first ∷ more) = if list_all is_blank first then more else first ∷ more

-- ---- what stands between

-- behind blanks and [, what stands before and behind the first ]
abbrev pub bracketed_by : List ℕ → Option (List ℕ × List ℕ)
bracketed_by [] = None
bracketed_by (b ∷ rest) = if b == 91 then cut 93 rest else None

abbrev pub bracketed : List ℕ → Option (List ℕ × List ℕ)
bracketed text = bracketed_by (behind_blanks text)

-- what stands behind a word with which a text begins
abbrev pub behind_word : List ℕ → List ℕ → Option (List ℕ)
behind_word word text =
    if bytes_eq (take (length word) text) word then Some (drop (length word) text) else None
