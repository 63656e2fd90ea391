-- What is told of the lines of a filled template: GCC Internals, "Output Templates and Operand
-- Substitution".
use Rattle.std.specs.Prelude.{◌==◌, ℕ, Bool, false, List, [], slice_get}
use Rattle.std.specs.List.{list_any}
use Rattle.std.specs.Option.{option_map_or}
use Rattle.rv_text.specs.declared.line.Line.{Line}

abbrev pub is_nothing : List ℕ → Bool
is_nothing [] = Bool.true
is_nothing _ = false

-- the text at a place was no line
abbrev pub is_unread : List Line → ℕ → Bool
is_unread lines place = option_map_or (λ (line : Line). is_nothing line.name) (slice_get lines place) false

abbrev pub is_quote : ℕ → Bool
is_quote byte = byte == 34

-- a sequence of the template couldn't print its operand in the text at a place: it left a double
-- quote, which no line has
abbrev pub is_quoted : List (List ℕ) → ℕ → Bool
is_quoted texts place = option_map_or (list_any is_quote) (slice_get texts place) false
