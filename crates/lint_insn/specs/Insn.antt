-- An instruction that is tried alone: GCC Internals, "Insns" and "Side Effect Expressions"; RISC-V
-- ELF psABI, "Integer Calling Convention".
use Rattle.std.specs.Prelude.{ℕ, ◌&&◌, ◌||◌, Bool, true, false, List, [], ◌∷◌, map, if◌then◌else◌}
use Rattle.rtx_tree.specs.declared.code.Mode.TheVariants.{DI}
use Rattle.rtx_tree.specs.declared.function.ArgUse.{ArgUse}
use Rattle.rtx_tree.specs.declared.function.Insn.{Insn}
use Rattle.rtx_tree.specs.declared.function.Kind.{Kind}
use Rattle.rtx_tree.specs.declared.function.Kind.TheVariants.{Plain, Jump, Call}
use Rattle.rtx_tree.specs.declared.tree.Rtx.{Rtx}
use Rattle.rtl_func.specs.Calls.{call_target_agrees}
use Rattle.rtl_func.specs.Effects.{parallels_change_once}
use Rattle.rtl_func.specs.Kinds.{is_jump_tree, is_call_tree}
use Rattle.rtl_func.specs.Modes.{shapes_agree, call_modes_agree}
use Rattle.reg_uses.specs.Uses.{is_return}
use Rattle.sym_state.specs.State.{Ran, Runs}
use Rattle.sym_insns.specs.Run.{run}

-- ---- the instruction of a pattern

abbrev pub kind_of : Rtx → Kind
kind_of pattern = if is_jump_tree pattern then Jump else if is_call_tree pattern then Call else Plain

abbrev pub argument : ℕ → ArgUse
argument reg = record { reg = reg; mode = DI }

-- a0 to a7
abbrev pub arguments : List ArgUse
arguments = map argument (10 ∷ 11 ∷ 12 ∷ 13 ∷ 14 ∷ 15 ∷ 16 ∷ 17 ∷ [])

-- what a call's target reads
abbrev pub uses_of : Kind → List ArgUse
uses_of Call = arguments
uses_of _ = []

abbrev pub insn_with : Kind → Rtx → Insn
insn_with kind pattern = record { uid = 1; kind = kind; pattern = pattern; uses = uses_of kind }

abbrev pub insn_of : Rtx → Insn
insn_of pattern = insn_with (kind_of pattern) pattern

-- ---- whether it can stand in a function

abbrev pub is_state : Ran → Bool
is_state (Runs s) = true
is_state _ = false

-- it comes to a state by itself
abbrev pub has_state : Insn → Bool
has_state i = is_state (run (i ∷ []))

-- it is (return), which leads back and has no state
abbrev pub leads_back : Insn → Bool
leads_back i = is_return i && shapes_agree i.pattern

-- an instruction can stand in a function, and be compared by itself
abbrev pub is_lawful : Insn → Bool
is_lawful i =
    call_modes_agree i.pattern && (call_target_agrees i.kind i.pattern &&
    (parallels_change_once i.pattern && (leads_back i || has_state i)))
