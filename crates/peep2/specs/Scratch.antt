-- The registers that a window's scratches are given: GCC Internals, "RTL to RTL Peephole
-- Optimizers" (`match_scratch`); RISC-V ELF psABI, "Integer Register Convention".
use Rattle.std.specs.Prelude.{ℕ, ℤ, pos, negsuc, Bool, false, not, ◌&&◌, List, [], ◌∷◌, ◌++◌, length, filter, Option, Some, None, option_and_then, slice_get}
use Rattle.std.specs.List.{list_any}
use Rattle.std.specs.Option.{option_map_or}
use Rattle.rtx_tree.specs.declared.tree.Rtx.{Rtx}
use Rattle.rtx_tree.specs.Tree.{head_of, reg_of, mentions_reg}
use Rattle.rtx_tree.specs.Operands.{put_at}
use Rattle.rtx_tree.specs.RegSet.{has_reg}
use Rattle.rv_regs.specs.Registers.{argument_registers, low_temporaries}
use Rattle.md_match.specs.Pattern.{Ops}
use Rattle.md_recog.specs.Recog.{is_scratch}

-- t3 to t6
abbrev pub high_temporaries : List ℕ
high_temporaries = 28 ∷ 29 ∷ 30 ∷ 31 ∷ []

-- the registers that scratches may be given, in the order in which they are tried: t0 to t6 and a0
-- to a7
abbrev pub scratch_order : List ℕ
scratch_order = low_temporaries ++ (high_temporaries ++ argument_registers)

-- of the registers that are dead at the points of a window those at one point have this one
abbrev pub is_dead_at : List (List ℕ) → ℕ → ℕ → Bool
is_dead_at dead point reg = option_map_or (λ regs. has_reg regs reg) (slice_get dead point) false

-- a register that is live neither before the window nor behind it, and stands nowhere in it
abbrev pub is_free : List (List ℕ) → List Rtx → ℕ → Bool
is_free dead insns reg =
    is_dead_at dead 0 reg && (is_dead_at dead (length insns) reg && not (list_any (mentions_reg reg) insns))

abbrev pub free_registers : List (List ℕ) → List Rtx → List ℕ
free_registers dead insns = filter (is_free dead insns) scratch_order

-- the elements of a window that ask for a register
abbrev pub scratches_of : List Rtx → List Rtx
scratches_of patterns = filter is_scratch patterns

-- no operand has a number below 0
abbrev pub natural : ℤ → Option ℕ
natural (pos k) = Some k
natural (negsuc k) = None

-- The operands with a register for each scratch, in its mode: from the left each is given the next
-- of the registers. None where there are too few.
abbrev pub with_scratches : List Rtx → List ℕ → Ops → Option Ops
with_scratches [] regs operands = Some operands
with_scratches (p ∷ ps) [] operands = None
with_scratches (p ∷ ps) (r ∷ regs) operands =
    option_and_then (λ k. with_scratches ps regs (put_at operands k (reg_of (head_of p).mode r))) (natural (head_of p).number)
