-- What a label may be numbered by: GCC Internals, "Insns" (labels have numbers).
use Rattle.std.specs.Prelude.{ℕ, ◌<◌, ◌^◌}

-- what a label may be numbered by
abbrev pub IsUid : ℕ → Type 0
IsUid uid = uid < 2 ^ 32
