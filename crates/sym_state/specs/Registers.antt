-- Registers of a symbolic state: what a register holds, and how it is changed. Register zero always
-- reads as 0 and keeps nothing (RISC-V unprivileged manual, "Programmers' Model for Base Integer
-- ISA"); a call leaves registers unset (RISC-V ELF psABI, "Integer Register Convention").
use Rattle.std.specs.Prelude.{ℕ, zero, suc, ◌+◌, ◌==◌, nat_lt, if◌then◌else◌, List, [], ◌∷◌, Option, Some, None}
use Rattle.bits64.specs.declared.Width.{Width}
use Rattle.rtx_tree.specs.Registers.{is_call_used}
use Rattle.term_tree.specs.Tree.{Tree, width_of}
use Rattle.term_tree.specs.Form.{narrower}
use Rattle.sym_term.specs.term_mean.Sums.{constant}
use Rattle.sym_term.specs.term_mean.Compared.{low_bits}
use Rattle.sym_state.specs.State.{Changed, Need, Register, Lost, own_register}

-- what was made of a register, where it was changed
abbrev pub held : List Changed → ℕ → Option (Option Tree)
held [] reg = None
held (c ∷ regs) reg = if c.reg == reg then Some c.value else held regs reg

-- ---- reading

-- the low bits of a term, where it has so many; of any other, those that the register had at first
abbrev pub term_held : Option (Option Tree) → ℕ → Width → Tree
term_held (Some (Some t)) reg w =
    if narrower (width_of t) w then low_bits w (own_register reg) else low_bits w t
term_held _ reg w = low_bits w (own_register reg)

-- the low bits of a register
abbrev pub read : List Changed → ℕ → Width → Tree
read regs zero w = constant w 0
read regs (suc reg) w = term_held (held regs (suc reg)) (suc reg) w

-- a register that was not changed has to have the bits at first; of one that was, too few may be
-- left
abbrev pub need_of : Option (Option Tree) → ℕ → Width → List Need
need_of None reg w = Register reg w ∷ []
need_of (Some None) reg w = Lost reg w ∷ []
need_of (Some (Some t)) reg w = if narrower (width_of t) w then Lost reg w ∷ [] else []

-- what reading the low bits of a register needs
abbrev pub read_needs : List Changed → ℕ → Width → List Need
read_needs regs zero w = []
read_needs regs (suc reg) w = need_of (held regs (suc reg)) (suc reg) w

-- ---- changing

abbrev pub changed : ℕ → Option Tree → Changed
changed reg value = record { reg = reg; value = value }

-- a register in its place among the changed ones, which stand in increasing order
abbrev pub placed : List Changed → ℕ → Option Tree → List Changed
placed [] reg value = changed reg value ∷ []
placed (c ∷ regs) reg value =
    if nat_lt c.reg reg then c ∷ placed regs reg value else (
    if c.reg == reg then changed reg value ∷ regs else changed reg value ∷ c ∷ regs)

-- a register set to the known bits of a term, or unset
abbrev pub put : List Changed → ℕ → Option Tree → List Changed
put regs zero value = regs
put regs (suc reg) value = placed regs (suc reg) value

-- a number of registers from one on: those that a call need not preserve are unset
abbrev pub left_from : ℕ → ℕ → List Changed → List Changed
left_from zero reg regs = regs
left_from (suc count) reg regs =
    left_from count (reg + 1) (if is_call_used reg then put regs reg None else regs)

-- what a call leaves
abbrev pub left_by_call : List Changed → List Changed
left_by_call regs = left_from 32 0 regs
