-- How a name is told: on one line, whatever bytes it has.
use Rattle.std.specs.Prelude.{ℕ, nat_lt, ◌||◌, ◌==◌, List, map, if◌then◌else◌}

-- a byte of a name as it is told: a question mark for a control character of ASCII
abbrev pub shown_byte : ℕ → ℕ
shown_byte byte = if nat_lt byte 32 || byte == 127 then 63 else byte

abbrev pub shown_name : List ℕ → List ℕ
shown_name name = map shown_byte name
