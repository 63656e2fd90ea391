-- When a count of faults rose, in other words.
use Rattle.std.proofs.Common.{◌≡◌, ℕ, ◌-◌, ◌^◌, ◌<◌, ◌≤◌, ◌⊎◌, arith}
use Rattle.byte_edge.specs.Causes.{Rose}

-- it is greater than before, or it stands at its last value
pub rose-cases : (before now : ℕ) → Rose before now → (before < now) ⊎ (2 ^ 64 - 1 ≤ now)
rose-cases before now rose = grind arith

pub rose-greater : (before now : ℕ) → before < now → Rose before now
rose-greater before now h = omega arith

pub rose-last : (before now : ℕ) → now ≡ 2 ^ 64 - 1 → Rose before now
rose-last before now h = omega arith
