-- A set of registers as words of 64 bits.
use Rattle.std.specs.Prelude.{ℕ, ◌/◌, ◌%◌, Bool, ◌==◌, List, slice_index}
use Rattle.std.specs.Int.{bit_at}
use Rattle.std.specs.List.{list_any}

-- the set has the register: its bit is 1
unfoldable pub has : List ℕ → ℕ → Bool
has words reg = bit_at (slice_index words (reg / 64)) (reg % 64) == 1

-- the list has the register
abbrev pub lists : List ℕ → ℕ → Bool
lists regs reg = list_any (λ r. r == reg) regs
