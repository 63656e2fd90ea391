-- Hard registers by their numbers: RISC-V ELF psABI, "Integer Register Convention"; the order of
-- allocation is that of GCC Internals, "Allocation Order of Registers" (`REG_ALLOC_ORDER`), and
-- this program's choice.
use Rattle.std.specs.Prelude.{ℕ, List, [], ◌∷◌, ◌++◌}

-- ra
abbrev pub return_address : ℕ
return_address = 1

-- sp
abbrev pub stack_pointer : ℕ
stack_pointer = 2

-- a0 to a7
abbrev pub argument_registers : List ℕ
argument_registers = 10 ∷ 11 ∷ 12 ∷ 13 ∷ 14 ∷ 15 ∷ 16 ∷ 17 ∷ []

-- t0 to t2
abbrev pub low_temporaries : List ℕ
low_temporaries = 5 ∷ 6 ∷ 7 ∷ []

-- s0 to s11, in increasing order
abbrev pub saved_registers : List ℕ
saved_registers = 8 ∷ 9 ∷ 18 ∷ 19 ∷ 20 ∷ 21 ∷ 22 ∷ 23 ∷ 24 ∷ 25 ∷ 26 ∷ 27 ∷ []

-- what a caller finds as it was: ra, sp and s0 to s11
abbrev pub kept_registers : List ℕ
kept_registers = return_address ∷ stack_pointer ∷ saved_registers

-- the registers that may be homes, in the order in which they are tried
abbrev pub allocation_order : List ℕ
allocation_order = argument_registers ++ (low_temporaries ++ saved_registers)
