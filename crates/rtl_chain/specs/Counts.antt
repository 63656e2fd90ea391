-- How many instructions a chain has, and which numbers its uids and its pseudo registers leave
-- free: GCC Internals, "Insns" and "Registers and Memory".
use Rattle.std.specs.Prelude.{ℕ, ◌+◌, ◌-◌, max, ℤ, pos, negsuc, Bool, true, false, List, [], ◌∷◌, map, filter, length}
use Rattle.rtx_tree.specs.declared.code.Code.{Code}
use Rattle.rtx_tree.specs.declared.code.Code.TheVariants.{Reg}
use Rattle.rtx_tree.specs.declared.function.Kind.{Kind}
use Rattle.rtx_tree.specs.declared.function.Kind.TheVariants.{Plain, Jump, Call}
use Rattle.rtx_tree.specs.declared.function.Insn.{Insn}
use Rattle.rtx_tree.specs.declared.tree.Rtx.{Rtx}
use Rattle.rtx_tree.specs.declared.tree.Rtx.TheOpen.{Rtx-F}
use Rattle.rtx_tree.specs.declared.tree.Rtx.TheFolds.{fold-Rtx}

-- the greatest of some numbers, or 0
abbrev pub greatest : List ℕ → ℕ
greatest [] = 0
greatest (n ∷ numbers) = max n (greatest numbers)

-- ---- instructions

abbrev pub is_instruction_kind : Kind → Bool
is_instruction_kind Plain = true
is_instruction_kind Jump = true
is_instruction_kind Call = true
is_instruction_kind _ = false

-- labels and barriers are none
abbrev pub is_instruction : Insn → Bool
is_instruction i = is_instruction_kind i.kind

abbrev pub instruction_count : List Insn → ℕ
instruction_count insns = length (filter is_instruction insns)

-- ---- uids

-- the greatest uid, or 0
abbrev pub greatest_uid : List Insn → ℕ
greatest_uid insns = greatest (map (λ i. i.uid) insns)

-- ---- pseudo registers, of which number k is register 64 + k

-- one above the number of the pseudo register that a code and a number are, or 0
abbrev pub above_pseudo : Code → ℤ → ℕ
above_pseudo Reg (pos n) = n - 63
above_pseudo _ _ = 0

abbrev pub pseudo_step : Rtx-F ℕ → ℕ
pseudo_step x = max (above_pseudo x.code x.number) (greatest x.kids)

-- one above the greatest number of a pseudo register in the tree, or 0 where it names none
abbrev pub next_pseudo_in : Rtx → ℕ
next_pseudo_in = fold-Rtx ℕ pseudo_step

-- one above the greatest number of a pseudo register of the instructions, or 0
abbrev pub next_pseudo : List Insn → ℕ
next_pseudo insns = greatest (map (λ i. next_pseudo_in i.pattern) insns)
