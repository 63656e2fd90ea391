-- Classes of hard registers: GCC Internals, "Register Classes". Their members are by the RISC-V ELF
-- psABI, "Integer Register Convention".
use Rattle.std.specs.Prelude.{ℕ, nat_lt, ◌==◌, Bool, false, List}
use Rattle.std.specs.List.{list_any}
use Rattle.rv_regs.specs.Registers.{argument_registers, saved_registers}
use Rattle.rv_regs.specs.declared.classes.Class.{Class}
use Rattle.rv_regs.specs.declared.classes.Class.TheVariants.{General, Args, Saved, Nothing}

abbrev pub is_among : List ℕ → ℕ → Bool
is_among regs reg = list_any (λ r. r == reg) regs

-- a hard register is in a class; a number past the hard registers is in none
abbrev pub is_in_class : Class → ℕ → Bool
is_in_class General reg = nat_lt reg 32
is_in_class Args reg = is_among argument_registers reg
is_in_class Saved reg = is_among saved_registers reg
is_in_class Nothing reg = false
