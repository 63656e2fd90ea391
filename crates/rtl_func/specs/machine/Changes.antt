-- A register that may be there, against others.
use Rattle.std.specs.Prelude.{ℕ, ◌==◌, Bool, false, Option, Some, None}

-- the one register, if there is one
abbrev pub is_register : Option ℕ → ℕ → Bool
is_register None reg = false
is_register (Some changed) reg = changed == reg

-- a register, if there is one, passes a test
abbrev pub is_known : (ℕ → Bool) → Option ℕ → Bool
is_known test None = false
is_known test (Some reg) = test reg
