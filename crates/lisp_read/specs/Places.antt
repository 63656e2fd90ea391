-- Places in a text: the line and the column count from 1, the offset from 0, all in bytes. Only a
-- newline ends a line.
use Rattle.std.specs.Prelude.{ℕ, ◌+◌, ◌==◌, List, [], ◌∷◌, if◌then◌else◌}
use Rattle.rtx_tree.specs.declared.place.Place.{Place}
use Rattle.lisp_read.specs.Bytes.{newline}

-- where a text begins
abbrev pub start : Place
start = record { line = 1; column = 1; offset = 0 }

-- the place behind a byte that stands here
abbrev pub advance : Place → ℕ → Place
advance here b =
    if b == newline then record { line = here.line + 1; column = 1; offset = here.offset + 1 }
    else record { line = here.line; column = here.column + 1; offset = here.offset + 1 }

-- the place behind these bytes, the first of which stands here
abbrev pub place_after : Place → List ℕ → Place
place_after here [] = here
place_after here (b ∷ bs) = place_after (advance here b) bs
