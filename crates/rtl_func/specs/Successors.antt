-- Where an instruction leads: GCC Internals, "Jump Patterns", "Insns" and "Basic Blocks".
use Rattle.std.specs.Prelude.{ℕ, ◌+◌, if◌then◌else◌, List, [], ◌∷◌, ◌++◌, Option, Some, None, slice_get}
use Rattle.std.specs.Option.{option_to_list}
use Rattle.rtx_tree.specs.declared.code.Code.{Code}
use Rattle.rtx_tree.specs.declared.code.Code.TheVariants.{Set, IfThenElse}
use Rattle.rtx_tree.specs.declared.function.Kind.{Kind}
use Rattle.rtx_tree.specs.declared.function.Kind.TheVariants.{Jump}
use Rattle.rtx_tree.specs.declared.function.Insn.{Insn}
use Rattle.rtx_tree.specs.declared.tree.Rtx.{Rtx, out-Rtx}
use Rattle.rtx_tree.specs.Patterns.{is_pc, label_of, place_of}
use Rattle.rtl_func.specs.declared.flow.Flow.{Flow}
use Rattle.rtl_func.specs.declared.flow.Flow.TheVariants.{Falls, Goes, Branches, Stops}
use Rattle.rtl_func.specs.declared.flow.Successors.{Successors}

-- ---- what a pattern says

-- to a label, if it is one
abbrev pub goes_to : Option ℕ → Flow
goes_to None = Stops
goes_to (Some uid) = Goes uid

-- to the next instruction or to a label, if it is one
abbrev pub branches_to : Option ℕ → Flow
branches_to None = Stops
branches_to (Some uid) = Branches uid

-- what the pc is set to: (if_then_else TEST (label_ref UID) (pc)), or (label_ref UID)
abbrev pub source_flow_by : Code → List Rtx → Rtx → Flow
source_flow_by IfThenElse (test ∷ label ∷ other ∷ []) source =
    if is_pc other then branches_to (label_of label) else Stops
source_flow_by _ parts source = goes_to (label_of source)

abbrev pub source_flow : Rtx → Flow
source_flow source = source_flow_by (out-Rtx source).code (out-Rtx source).kids source

-- a jump is (set (pc) SOURCE); (return), and what is no jump pattern, leads nowhere
abbrev pub jump_flow_by : Code → List Rtx → Flow
jump_flow_by Set (place ∷ source ∷ []) = if is_pc place then source_flow source else Stops
jump_flow_by _ parts = Stops

abbrev pub jump_flow : Rtx → Flow
jump_flow x = jump_flow_by (out-Rtx x).code (out-Rtx x).kids

-- whatever is no jump goes on to the next place, a label and a barrier too
abbrev pub flow_by : Kind → Rtx → Flow
flow_by Jump pattern = jump_flow pattern
flow_by _ pattern = Falls

abbrev pub flow_of : Insn → Flow
flow_of i = flow_by i.kind i.pattern

-- ---- places

-- the place of the first label with a uid, where it stands
abbrev pub label_places : List Insn → ℕ → List ℕ
label_places insns uid = option_to_list (place_of uid insns)

abbrev pub flow_places : List Insn → ℕ → Flow → List ℕ
flow_places insns index Falls = (index + 1) ∷ []
flow_places insns index (Goes uid) = label_places insns uid
flow_places insns index (Branches uid) = (index + 1) ∷ label_places insns uid
flow_places insns index Stops = []

abbrev pub successors_by : List Insn → ℕ → Option Insn → List ℕ
successors_by insns index None = []
successors_by insns index (Some i) = flow_places insns index (flow_of i)

-- the places to which the instruction at an index leads; the place past the last is the exit, which
-- leads nowhere
abbrev pub successors_of : List Insn → ℕ → List ℕ
successors_of insns index = successors_by insns index (slice_get insns index)

-- the places that an answer lists
abbrev pub places_in : Successors → List ℕ
places_in s = option_to_list s.first ++ option_to_list s.second
