-- Effects at once, and the locals of a function: GCC Internals, "Side Effect Expressions"
-- (`parallel`) and "Registers and Memory" (`virtual-stack-vars`).
use Rattle.std.specs.Prelude.{ℕ, ◌||◌, ◌&&◌, ◌==◌, not, ℤ, pos, ◌+ℤ◌, int_le, Bool, true, false, List, [], ◌∷◌, Option, Some, None}
use Rattle.std.specs.List.{list_all, filter_map}
use Rattle.rtx_tree.specs.declared.code.Code.{Code}
use Rattle.rtx_tree.specs.declared.code.Code.TheVariants.{Plus}
use Rattle.rtx_tree.specs.declared.tree.Rtx.{Rtx, out-Rtx}
use Rattle.rtx_tree.specs.declared.class.Class.{Class}
use Rattle.rtx_tree.specs.declared.class.Class.TheVariants as class
use Rattle.rtl_func.specs.Nodes.{nodes_of}
use Rattle.rtl_func.specs.Shapes.{class_at, is_constant}
use Rattle.rtl_func.specs.Calls.{are_distinct}
use Rattle.rtl_func.specs.Modes.{register_at}

-- ---- parallels: one holds set, use and clobber alone, and changes no register twice

abbrev pub place_register_by : Class → List Rtx → Rtx → Option ℕ
place_register_by class.Lowpart (whole ∷ []) x = register_at whole
place_register_by _ parts x = register_at x

-- the register of a place: itself, or that of which it is the low part
abbrev pub place_register : Rtx → Option ℕ
place_register x = place_register_by (class_at x) (out-Rtx x).kids x

abbrev pub changed_by : Class → List Rtx → Option ℕ
changed_by class.Setting (target ∷ parts) = place_register target
changed_by class.Clobber (target ∷ parts) = place_register target
changed_by _ parts = None

-- the register that a set or a clobber changes
abbrev pub changed_register : Rtx → Option ℕ
changed_register x = changed_by (class_at x) (out-Rtx x).kids

abbrev pub is_simple_class : Class → Bool
is_simple_class class.Setting = true
is_simple_class class.Use = true
is_simple_class class.Clobber = true
is_simple_class _ = false

-- a set, a use or a clobber
abbrev pub is_simple_effect : Rtx → Bool
is_simple_effect x = is_simple_class (class_at x)

abbrev pub holds_simple_by : Class → List Rtx → Bool
holds_simple_by class.Parallel parts = list_all is_simple_effect parts
holds_simple_by _ parts = true

-- a parallel holds set, use and clobber alone
abbrev pub holds_simple : Rtx → Bool
holds_simple x = holds_simple_by (class_at x) (out-Rtx x).kids

abbrev pub changes_once_by : Class → List Rtx → Bool
changes_once_by class.Parallel parts = are_distinct (filter_map changed_register parts)
changes_once_by _ parts = true

-- a parallel changes no register twice
abbrev pub changes_once : Rtx → Bool
changes_once x = changes_once_by (class_at x) (out-Rtx x).kids

-- each parallel of a pattern holds set, use and clobber alone
abbrev pub parallels_hold_simple : Rtx → Bool
parallels_hold_simple pattern = list_all holds_simple (nodes_of pattern)

-- each parallel of a pattern changes no register twice
abbrev pub parallels_change_once : Rtx → Bool
parallels_change_once pattern = list_all changes_once (nodes_of pattern)

abbrev pub parallels_agree : Rtx → Bool
parallels_agree pattern = parallels_hold_simple pattern && parallels_change_once pattern

-- ---- stack variables: virtual-stack-vars is changed nowhere, and a constant is added to it only from -locals to 0

abbrev pub is_stack_register : Option ℕ → Bool
is_stack_register None = false
is_stack_register (Some reg) = reg == 32

abbrev pub is_stack_vars : Rtx → Bool
is_stack_vars x = is_stack_register (register_at x)

abbrev pub is_local_offset : ℕ → ℤ → Bool
is_local_offset locals offset = int_le offset (pos 0) && int_le (pos 0) (offset +ℤ pos locals)

-- the one is virtual-stack-vars and the other a constant, then one of a local
abbrev pub is_lawful_sum : ℕ → Rtx → Rtx → Bool
is_lawful_sum locals a b =
    not (is_stack_vars a && is_constant b) || is_local_offset locals (out-Rtx b).number

abbrev pub sums_locals_by : ℕ → Code → List Rtx → Bool
sums_locals_by locals Plus (a ∷ b ∷ []) = is_lawful_sum locals a b && is_lawful_sum locals b a
sums_locals_by locals _ parts = true

abbrev pub sums_locals : ℕ → Rtx → Bool
sums_locals locals x = sums_locals_by locals (out-Rtx x).code (out-Rtx x).kids

abbrev pub has_stack_variables : ℕ → Rtx → Bool
has_stack_variables locals x = not (is_stack_register (changed_register x)) && sums_locals locals x

abbrev pub stack_variables : ℕ → Rtx → Bool
stack_variables locals pattern = list_all (has_stack_variables locals) (nodes_of pattern)
