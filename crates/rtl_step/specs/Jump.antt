-- Where a jump leads: GCC Internals, "Side Effect Expressions" (`pc`, `return`, `if_then_else`) and
-- "Jump Patterns".
use Rattle.std.specs.Prelude.{ℕ, ◌==◌, if◌then◌else◌, List, [], ◌∷◌, Option, Some, None, option_map}
use Rattle.bits64.specs.declared.Width.TheVariants.{W64}
use Rattle.rtx_tree.specs.declared.code.Code.{Code}
use Rattle.rtx_tree.specs.declared.code.Code.TheVariants.{Set, IfThenElse, Return}
use Rattle.rtx_tree.specs.declared.memories.MemByte.{MemByte}
use Rattle.rtx_tree.specs.declared.machine.SymbolAt.{SymbolAt}
use Rattle.rtx_tree.specs.declared.tree.Rtx.{Rtx, out-Rtx}
use Rattle.rtx_tree.specs.Patterns.{is_pc, label_of}
use Rattle.rtl_step.specs.Regs.{Regs}
use Rattle.rtl_step.specs.Value.{of_two, value_of}
use Rattle.rtl_step.specs.declared.jump.Way.{Way}
use Rattle.rtl_step.specs.declared.jump.Way.TheVariants.{Falls, Goes, Leaves}

abbrev pub goes_to : Rtx → Option Way
goes_to label = option_map Goes (label_of label)

-- to the label where the test is not 0
abbrev pub chosen : ℕ → ℕ → Way
chosen test uid = if test == 0 then Falls else Goes uid

abbrev pub branch : List SymbolAt → Regs → List MemByte → Rtx → Rtx → Option Way
branch symbols regs memory test label = of_two (λ holds uid. Some (chosen holds uid)) (value_of symbols regs memory test W64) (label_of label)

-- what the pc is set to: (if_then_else TEST (label_ref UID) (pc)), or (label_ref UID)
abbrev pub way_by : Code → List Rtx → Rtx → List SymbolAt → Regs → List MemByte → Option Way
way_by IfThenElse (test ∷ label ∷ other ∷ []) source symbols regs memory =
    if is_pc other then branch symbols regs memory test label else None
way_by _ parts source symbols regs memory = goes_to source

abbrev pub way_of : List SymbolAt → Regs → List MemByte → Rtx → Option Way
way_of symbols regs memory source =
    way_by (out-Rtx source).code (out-Rtx source).kids source symbols regs memory

-- a jump is (return), or (set (pc) SOURCE)
abbrev pub jump_by : Code → List Rtx → List SymbolAt → Regs → List MemByte → Option Way
jump_by Return parts symbols regs memory = Some Leaves
jump_by Set (place ∷ source ∷ []) symbols regs memory =
    if is_pc place then way_of symbols regs memory source else None
jump_by _ parts symbols regs memory = None

abbrev pub jump_of : List SymbolAt → Regs → List MemByte → Rtx → Option Way
jump_of symbols regs memory x = jump_by (out-Rtx x).code (out-Rtx x).kids symbols regs memory
