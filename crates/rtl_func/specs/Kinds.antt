-- Kinds of instructions, and the labels that they name: GCC Internals, "Insns", "Jump Patterns" and
-- "Side Effect Expressions".
use Rattle.std.specs.Prelude.{ℕ, ◌||◌, not, Bool, true, false, List, [], ◌∷◌, Option, Some, None, is_some}
use Rattle.std.specs.List.{list_all}
use Rattle.rtx_tree.specs.declared.function.Kind.{Kind}
use Rattle.rtx_tree.specs.declared.function.Kind.TheVariants.{Plain, Jump, Call, Label, Barrier}
use Rattle.rtx_tree.specs.declared.function.Insn.{Insn}
use Rattle.rtx_tree.specs.declared.tree.Rtx.{Rtx, out-Rtx}
use Rattle.rtx_tree.specs.Patterns.{is_pc, label_of, place_of}
use Rattle.rtx_tree.specs.declared.class.Class.{Class}
use Rattle.rtx_tree.specs.declared.class.Class.TheVariants as class
use Rattle.rtl_func.specs.Nodes.{nodes_of}
use Rattle.rtl_func.specs.Shapes.{class_at, is_call_class}

-- ---- labels stand: each label_ref names a label of the chain

abbrev pub uid_stands : List Insn → Option ℕ → Bool
uid_stands insns None = true
uid_stands insns (Some uid) = is_some (place_of uid insns)

abbrev pub label_stands : List Insn → Rtx → Bool
label_stands insns x = uid_stands insns (label_of x)

abbrev pub labels_stand : List Insn → Rtx → Bool
labels_stand insns pattern = list_all (label_stands insns) (nodes_of pattern)

-- ---- kinds agree: a jump holds a jump or a return, a call holds a call or a set of one, an instruction holds none of these at
-- any depth, and a label holds nothing

abbrev pub is_jump_by : Class → List Rtx → Bool
is_jump_by class.Return parts = true
is_jump_by class.Setting (target ∷ parts) = is_pc target
is_jump_by _ parts = false

-- a return, or a set of the pc
abbrev pub is_jump_tree : Rtx → Bool
is_jump_tree x = is_jump_by (class_at x) (out-Rtx x).kids

abbrev pub is_call_by : Class → List Rtx → Bool
is_call_by class.Call parts = true
is_call_by class.Setting (target ∷ source ∷ []) = is_call_class (class_at source)
is_call_by _ parts = false

-- a call, or a set of one
abbrev pub is_call_tree : Rtx → Bool
is_call_tree x = is_call_by (class_at x) (out-Rtx x).kids

abbrev pub is_plain_tree : Rtx → Bool
is_plain_tree x = not (is_jump_tree x || is_call_class (class_at x))

abbrev pub is_nothing_by : Class → List Rtx → Bool
is_nothing_by class.Parallel [] = true
is_nothing_by _ parts = false

-- (parallel [])
abbrev pub is_nothing : Rtx → Bool
is_nothing x = is_nothing_by (class_at x) (out-Rtx x).kids

abbrev pub kinds_agree : Kind → Rtx → Bool
kinds_agree Plain pattern = list_all is_plain_tree (nodes_of pattern)
kinds_agree Jump pattern = is_jump_tree pattern
kinds_agree Call pattern = is_call_tree pattern
kinds_agree Label pattern = is_nothing pattern
kinds_agree Barrier pattern = true
