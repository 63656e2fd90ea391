-- The patterns of instructions as trees: GCC Internals, "Side Effect Expressions", "Arithmetic
-- Expressions", "Jump Patterns" and "Insns".
use Rattle.std.specs.Prelude.{ℕ, pos, ◌==◌, ◌&&◌, Bool, true, false, List, [], ◌∷◌, Option, Some, None}
use Rattle.std.specs.List.{position_from}
use Rattle.std.specs.Int.{cast_unsigned, w64}
use Rattle.rtx_tree.specs.declared.code.Code.{Code}
use Rattle.rtx_tree.specs.declared.code.Code.TheVariants.{Plus, Set, Parallel, Pc, LabelRef, Return}
use Rattle.rtx_tree.specs.declared.code.Mode.TheVariants.{Void, DI}
use Rattle.rtx_tree.specs.declared.function.Kind.{Kind}
use Rattle.rtx_tree.specs.declared.function.Kind.TheVariants.{Label}
use Rattle.rtx_tree.specs.declared.function.Insn.{Insn}
use Rattle.rtx_tree.specs.declared.function.Function.{Function}
use Rattle.rtx_tree.specs.declared.tree.Rtx.{Rtx, out-Rtx}
use Rattle.rtx_tree.specs.Tree.{leaf_of, node_of, const_of}

-- (plus:DI A B)
abbrev pub sum_rtx : Rtx → Rtx → Rtx
sum_rtx a b = node_of Plus DI (a ∷ b ∷ [])

-- (set TARGET SOURCE)
abbrev pub set_rtx : Rtx → Rtx → Rtx
set_rtx target source = node_of Set Void (target ∷ source ∷ [])

-- (label_ref UID)
abbrev pub label_rtx : ℕ → Rtx
label_rtx uid = node_of LabelRef Void (const_of (pos uid) ∷ [])

-- (return)
abbrev pub return_rtx : Rtx
return_rtx = leaf_of Return Void (pos 0)

-- ---- labels

abbrev pub is_pc_code : Code → Bool
is_pc_code Pc = true
is_pc_code _ = false

abbrev pub is_pc : Rtx → Bool
is_pc x = is_pc_code (out-Rtx x).code

-- the uid of a label: (label_ref UID)
abbrev pub label_uid : Code → List Rtx → Option ℕ
label_uid LabelRef (uid ∷ []) = Some (cast_unsigned w64 (out-Rtx uid).number)
label_uid _ parts = None

abbrev pub label_of : Rtx → Option ℕ
label_of x = label_uid (out-Rtx x).code (out-Rtx x).kids

-- a label with a uid
abbrev pub is_label_kind : Kind → Bool
is_label_kind Label = true
is_label_kind _ = false

abbrev pub is_label : ℕ → Insn → Bool
is_label uid i = is_label_kind i.kind && (i.uid == uid)

-- the place of the first label with a uid
abbrev pub place_of : ℕ → List Insn → Option ℕ
place_of uid insns = position_from (is_label uid) 0 insns

-- (parallel []), the pattern of labels and barriers, which do nothing
abbrev pub nothing_rtx : Rtx
nothing_rtx = node_of Parallel Void []

-- the instruction with another pattern
abbrev pub with_pattern : Insn → Rtx → Insn
with_pattern i pattern = record { uid = i.uid; kind = i.kind; pattern = pattern; uses = i.uses }

-- a function without a name, instructions, locals and a result
abbrev pub empty_function : Function
empty_function = record { name = []; insns = []; locals = 0; result = None; result_reg = 10 }
