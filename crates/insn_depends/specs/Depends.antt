-- The dependences of instructions: GCC Internals, "Passes and Files of the Compiler" (instruction
-- scheduling) and "Specifying processor pipeline description" (latency).
use Rattle.std.specs.Prelude.{ℕ, ℤ, pos, ◌==◌, Bool, false, not, ◌&&◌, ◌||◌, List, ◌∷◌, Option, Some, None, if◌then◌else◌}
use Rattle.std.specs.List.{list_any}
use Rattle.rtx_tree.specs.declared.code.Code.{Code}
use Rattle.rtx_tree.specs.declared.code.Code.TheVariants.{Reg, Subreg, Set, Clobber}
use Rattle.rtx_tree.specs.declared.tree.Rtx.{Rtx}
use Rattle.rtx_tree.specs.declared.function.Insn.{Insn}
use Rattle.rtx_tree.specs.Tree.{head_of, kids_of}
use Rattle.reg_uses.specs.Effects.{effects_of}
use Rattle.reg_uses.specs.Uses.{insn_uses, insn_defines}
use Rattle.mem_uses.specs.Memory.{loads, stores}

-- ---- tests of the registers that an instruction sets

abbrev pub register_passes_by : (ℕ → Bool) → Code → ℤ → Bool
register_passes_by test Reg (pos reg) = not (reg == 0) && test reg
register_passes_by test _ number = false

-- the tree is a register that passes a test; register zero keeps nothing, and counts as none
abbrev pub register_passes : (ℕ → Bool) → Rtx → Bool
register_passes test x = register_passes_by test (head_of x).code (head_of x).number

abbrev pub place_passes_by : (ℕ → Bool) → Code → List Rtx → Rtx → Bool
place_passes_by test Subreg (whole ∷ parts) x = register_passes test whole
place_passes_by test _ parts x = register_passes test x

-- the place is such a register, or a low part of one
abbrev pub place_passes : (ℕ → Bool) → Rtx → Bool
place_passes test x = place_passes_by test (head_of x).code (kids_of x) x

abbrev pub effect_sets_by : (ℕ → Bool) → Code → List Rtx → Bool
effect_sets_by test Set (place ∷ parts) = place_passes test place
effect_sets_by test _ parts = false

abbrev pub effect_sets : (ℕ → Bool) → Rtx → Bool
effect_sets test x = effect_sets_by test (head_of x).code (kids_of x)

abbrev pub effect_defines_by : (ℕ → Bool) → Code → List Rtx → Bool
effect_defines_by test Set (place ∷ parts) = place_passes test place
effect_defines_by test Clobber (place ∷ parts) = place_passes test place
effect_defines_by test _ parts = false

abbrev pub effect_defines : (ℕ → Bool) → Rtx → Bool
effect_defines test x = effect_defines_by test (head_of x).code (kids_of x)

-- an instruction sets a register that passes a test
abbrev pub sets_some : (ℕ → Bool) → Insn → Bool
sets_some test i = list_any (effect_sets test) (effects_of i.pattern)

-- an instruction sets or clobbers one
abbrev pub defines_some : (ℕ → Bool) → Insn → Bool
defines_some test i = list_any (effect_defines test) (effects_of i.pattern)

-- ---- dependences

-- one defines a register that the other uses or defines
abbrev pub shares_register : Insn → Insn → Bool
shares_register earlier later =
    defines_some (λ reg. insn_uses later reg || insn_defines later reg) earlier
    || defines_some (insn_uses earlier) later

-- one stores, and the other loads or stores
abbrev pub shares_memory : Insn → Insn → Bool
shares_memory earlier later =
    (stores earlier && (loads later || stores later)) || (loads earlier && stores later)

-- an instruction depends on an earlier one
abbrev pub depends : Insn → Insn → Bool
depends earlier later = shares_register earlier later || shares_memory earlier later

-- ---- weights

-- the later uses a register that the earlier sets, or loads what the earlier may store
abbrev pub awaits : Insn → Insn → Bool
awaits earlier later =
    sets_some (insn_uses later) earlier || (stores earlier && loads later)

-- the cycles between an instruction of a latency and a later one that depends on it, at least
abbrev pub weight : ℕ → Insn → Insn → ℕ
weight latency earlier later = if awaits earlier later then latency else 0

-- the weight with which an instruction depends on an earlier one of a latency, if it does
abbrev pub dependence : ℕ → Insn → Insn → Option ℕ
dependence latency earlier later =
    if depends earlier later then Some (weight latency earlier later) else None
