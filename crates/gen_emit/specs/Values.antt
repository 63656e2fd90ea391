-- What preparation statements make: GCC Internals, "Defining RTL Sequences for Code Generation";
-- "Registers and Memory" (registers, and the low parts of them).
use Rattle.std.specs.Prelude.{ℕ, ◌+◌, ◌==◌, nat_lt, ℤ, pos, Bool, true, false, if◌then◌else◌, [], ◌∷◌, ◌++◌, Option, Some, None, option_map, int_lt}
use Rattle.std.specs.Int.{cast_unsigned, w64}
use Rattle.bits64.specs.Words.{signed}
use Rattle.bits64.specs.declared.Width.TheVariants.{W8, W16, W32}
use Rattle.rtx_tree.specs.declared.code.Code.{Code}
use Rattle.rtx_tree.specs.declared.code.Code.TheVariants.{Reg, Subreg}
use Rattle.rtx_tree.specs.declared.code.Mode.{Mode}
use Rattle.rtx_tree.specs.declared.code.Mode.TheVariants.{QI, HI, SI}
use Rattle.rtx_tree.specs.declared.tree.Rtx.{Rtx}
use Rattle.rtx_tree.specs.Registers.{pseudo}
use Rattle.rtx_tree.specs.Tree.{head_of, leaf_of, node_of, reg_of}
use Rattle.rtx_tree.specs.Operands.{put_at}
use Rattle.rtx_tree.specs.Patterns.{set_rtx}
use Rattle.rtx_tree.specs.Code.{mode_bits}
use Rattle.md_match.specs.Pattern.{Ops}
use Rattle.gen_emit.specs.declared.draft.Draft.{Draft}

-- a value that was made, and what stands then
pub record Made : Type 0 where
  pub value : Rtx
  pub draft : Draft

abbrev pub made : Rtx → Draft → Made
made x d = record { value = x; draft = d }

-- what stands before the statements
abbrev pub draft : Ops → ℕ → Draft
draft operands next = record { operands = operands; moves = []; next = next }

-- ---- what statements do to a draft

-- (set TARGET SOURCE) behind the moves that were emitted
abbrev pub moved : Rtx → Rtx → Draft → Draft
moved target source d = record d { moves = d.moves ++ set_rtx target source ∷ [] }

-- an operand with another value; it may be a new one
abbrev pub assigned : ℕ → Rtx → Draft → Draft
assigned k x d = record d { operands = put_at d.operands k x }

-- ---- constants

-- the sign extension of a number's low bits of a mode
abbrev pub extended : Mode → ℤ → ℤ
extended QI n = signed W8 (cast_unsigned w64 n)
extended HI n = signed W16 (cast_unsigned w64 n)
extended SI n = signed W32 (cast_unsigned w64 n)
extended _ n = n

-- ---- registers

-- (gen_reg_rtx) a new pseudo register of a mode, where one may be made
abbrev pub fresh : Bool → Mode → Draft → Option Made
fresh may m d =
    if may then Some (made (reg_of m (pseudo d.next)) (record d { next = d.next + 1 })) else None

abbrev pub is_register_code : Code → Bool
is_register_code Reg = true
is_register_code _ = false

abbrev pub is_register : Rtx → Bool
is_register x = is_register_code (head_of x).code

-- the value of a new register that is set to this one
abbrev pub kept : Rtx → Made → Made
kept x new = made new.value (moved new.value x new.draft)

-- (force_reg) a register is itself; for any other value stands a new pseudo register, which a move
-- sets to it
abbrev pub forced : Bool → Mode → Made → Option Made
forced may m x =
    if is_register x.value then Some x else option_map (kept x.value) (fresh may m x.draft)

-- a pseudo register in a mode: itself in its own, and its low part in a narrower one
abbrev pub pseudo_part : Mode → Rtx → Option Rtx
pseudo_part m x = if mode_bits m == mode_bits (head_of x).mode then Some x
    else (if nat_lt (mode_bits m) (mode_bits (head_of x).mode) then Some (node_of Subreg m (x ∷ [])) else None)

-- a register in a mode; a hard register, or virtual-stack-vars, is no part of itself
abbrev pub register_part : Mode → Rtx → Option Rtx
register_part m x = if int_lt (head_of x).number (pos (pseudo 0)) then Some (leaf_of Reg m (head_of x).number) else pseudo_part m x

abbrev pub low_part : Mode → Rtx → Option Rtx
low_part m x = if is_register x then register_part m x else None

-- (gen_lowpart) a register in a mode, or the low part of a pseudo register
abbrev pub lowered : Mode → Made → Option Made
lowered m x = option_map (λ y. made y x.draft) (low_part m x.value)
