-- The instructions that make the frame of a function and leave it, and the function with its frame:
-- GCC Internals, "Basic Stack Layout" and "Function Entry and Exit" (prologue and epilogue); RISC-V
-- unprivileged manual, "Integer Register-Immediate Instructions" and "Load and Store Instructions"
-- (a number of 12 bits is part of an instruction, and another needs a register).
use Rattle.std.specs.Prelude.{◌≡◌, ℕ, ◌+◌, ◌==◌, nat_lt, ℤ, pos, neg_ℤ, Bool, false, if◌then◌else◌, List, [], ◌∷◌, ◌++◌, length}
use Rattle.std.specs.List.{flat_map}
use Rattle.rtx_tree.specs.Patterns.{set_rtx, sum_rtx, return_rtx}
use Rattle.rtx_tree.specs.Tree.{node_of, reg_of, const_of}
use Rattle.rtx_tree.specs.declared.code.Code.TheVariants.{Mem}
use Rattle.rtx_tree.specs.declared.code.Mode.TheVariants.{DI}
use Rattle.rtx_tree.specs.declared.function.Function.{Function}
use Rattle.rtx_tree.specs.declared.function.Insn.{Insn}
use Rattle.rtx_tree.specs.declared.function.Kind.{Kind}
use Rattle.rtx_tree.specs.declared.function.Kind.TheVariants.{Plain, Jump}
use Rattle.rtx_tree.specs.declared.tree.Rtx.{Rtx}
use Rattle.rv_regs.specs.Registers.{stack_pointer}
use Rattle.rtl_chain.specs.Counts.{greatest_uid}
use Rattle.rtl_chain.specs.End.{IsFinished}
use Rattle.reg_uses.specs.Uses as uses
use Rattle.assign.specs.declared.places.SavedAt.{SavedAt}
use Rattle.assign.specs.declared.places.Layout.{Layout}

-- ---- sp is changed

-- t3, which holds nothing where a frame is made or left
abbrev pub spare : ℕ
spare = 28

abbrev pub sp_rtx : Rtx
sp_rtx = reg_of DI stack_pointer

abbrev pub spare_rtx : Rtx
spare_rtx = reg_of DI spare

-- by a number that is part of an instruction
abbrev pub short_change : ℤ → List Rtx
short_change number = set_rtx sp_rtx (sum_rtx sp_rtx (const_of number)) ∷ []

-- by one that is not
abbrev pub long_change : ℤ → List Rtx
long_change number =
    set_rtx spare_rtx (const_of number) ∷ set_rtx sp_rtx (sum_rtx sp_rtx spare_rtx) ∷ []

-- the greatest multiple of 16 that is such a part, as itself and as its negative
abbrev pub most_short : ℕ
most_short = 2032

-- sp is changed by the size of a frame, down or up
abbrev pub sp_changed : ℕ → ℤ → List Rtx
sp_changed size number = if nat_lt most_short size then long_change number else short_change number

-- ---- a register is stored and loaded

-- the greatest offset that is part of an instruction
abbrev pub most_near : ℕ
most_near = 2047

-- sp and an offset, which is left out where it is 0
abbrev pub near_address : ℕ → Rtx
near_address offset = if offset == 0 then sp_rtx else sum_rtx sp_rtx (const_of (pos offset))

-- t3 is made the sum of an offset and sp
abbrev pub far_base : ℕ → List Rtx
far_base offset =
    set_rtx spare_rtx (const_of (pos offset)) ∷ set_rtx spare_rtx (sum_rtx spare_rtx sp_rtx) ∷ []

-- what is made for the address of an offset
abbrev pub base_made : ℕ → List Rtx
base_made offset = if nat_lt most_near offset then far_base offset else []

abbrev pub address_at : ℕ → Rtx
address_at offset = if nat_lt most_near offset then spare_rtx else near_address offset

-- the 64 bits at an offset
abbrev pub word_at : ℕ → Rtx
word_at offset = node_of Mem DI (address_at offset ∷ [])

abbrev pub stored : SavedAt → List Rtx
stored s = base_made s.offset ++ set_rtx (word_at s.offset) (reg_of DI s.reg) ∷ []

abbrev pub loaded : SavedAt → List Rtx
loaded s = base_made s.offset ++ set_rtx (reg_of DI s.reg) (word_at s.offset) ∷ []

-- ---- a frame is made and left; a frame without bytes is none

abbrev pub frame_made : Layout → List Rtx
frame_made layout = sp_changed layout.size (neg_ℤ (pos layout.size)) ++ flat_map stored layout.saved

abbrev pub frame_left : Layout → List Rtx
frame_left layout = flat_map loaded layout.saved ++ sp_changed layout.size (pos layout.size)

abbrev pub prologue : Layout → List Rtx
prologue layout = if layout.size == 0 then [] else frame_made layout

abbrev pub epilogue : Layout → List Rtx
epilogue layout = if layout.size == 0 then [] else frame_left layout

-- ---- the instructions of a function with its frame

abbrev pub plain_with : ℕ → Rtx → Insn
plain_with uid x = record { uid = uid; kind = Plain; pattern = x; uses = [] }

-- plain instructions of patterns, with uids from one on
abbrev pub plain_insns : ℕ → List Rtx → List Insn
plain_insns uid [] = []
plain_insns uid (x ∷ more) = plain_with uid x ∷ plain_insns (uid + 1) more

abbrev pub return_with : ℕ → Insn
return_with uid = record { uid = uid; kind = Jump; pattern = return_rtx; uses = [] }

abbrev pub entering : Layout → ℕ → List Insn
entering layout uid = plain_insns uid (prologue layout)

-- the frame is left, and the function returns
abbrev pub leaving : Layout → ℕ → List Insn
leaving layout uid =
    plain_insns uid (epilogue layout) ++ return_with (uid + length (epilogue layout)) ∷ []

-- the next free uid behind them
abbrev pub left_uid : Layout → ℕ → ℕ
left_uid layout uid = uid + (length (epilogue layout) + 1)

abbrev pub returns_by : Kind → Insn → Bool
returns_by Jump i = uses.is_return i
returns_by _ i = false

-- a jump that returns
abbrev pub returns : Insn → Bool
returns i = returns_by i.kind i

-- the items of a chain, with the frame left at each return, which is made anew; uids are free from
-- one on
abbrev pub left_at_returns : Layout → ℕ → List Insn → List Insn
left_at_returns layout uid [] = []
left_at_returns layout uid (i ∷ insns) =
    if returns i then leaving layout uid ++ left_at_returns layout (left_uid layout uid) insns else i ∷ left_at_returns layout uid insns

-- a finished chain with a frame
abbrev pub framed_insns : Layout → ℕ → List Insn → List Insn
framed_insns layout uid chain =
    entering layout uid ++ left_at_returns layout (uid + length (prologue layout)) chain

-- ---- the function

-- the function with another chain
abbrev pub with_insns : Function → List Insn → Function
with_insns f insns = record f { insns = insns }

-- the next uid of a chain
abbrev pub next_uid : List Insn → ℕ
next_uid insns = greatest_uid insns + 1

-- The function with a frame: its chain ends with a return where that end is reached, and new
-- instructions take the uids after the greatest, in their order.
pub record IsFramed (layout : Layout) (f g : Function) : Type 0 where
  pub chain : List Insn
  pub finished : IsFinished f.insns chain
  pub framed_is : g ≡ with_insns f (framed_insns layout (next_uid f.insns) chain)
