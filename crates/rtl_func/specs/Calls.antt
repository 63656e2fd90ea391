-- Hard registers and calls: GCC Internals, "Registers and Memory", "Side Effect Expressions"
-- (`call`) and "Calls"; RISC-V ELF psABI, "Integer Calling Convention".
use Rattle.std.specs.Prelude.{ℕ, ◌||◌, ◌&&◌, ◌==◌, nat_le, not, Bool, true, false, List, [], ◌∷◌, map, Option, Some, None}
use Rattle.std.specs.List.{list_all}
use Rattle.rtx_tree.specs.declared.code.Mode.TheVariants.{DI}
use Rattle.rtx_tree.specs.declared.function.ArgUse.{ArgUse}
use Rattle.rtx_tree.specs.declared.function.Kind.{Kind}
use Rattle.rtx_tree.specs.declared.function.Kind.TheVariants.{Call}
use Rattle.rtx_tree.specs.declared.tree.Rtx.{Rtx, out-Rtx}
use Rattle.rtx_tree.specs.declared.class.Class.{Class}
use Rattle.rtx_tree.specs.declared.class.Class.TheVariants as class
use Rattle.rtl_func.specs.Nodes.{nodes_of}
use Rattle.rtl_func.specs.Paths.{has_place}
use Rattle.rtl_func.specs.Shapes.{class_at, mode_at, number_at, same_mode}
use Rattle.rtl_func.specs.Modes.{register_at}

-- a0 to a7
abbrev pub is_argument : ℕ → Bool
is_argument reg = nat_le 10 reg && nat_le reg 17

-- ---- argument registers: hard registers are a0 to a7, in the tree and among a call's uses

abbrev pub is_hard_argument : Option ℕ → Bool
is_hard_argument None = true
is_hard_argument (Some reg) = nat_le 32 reg || is_argument reg

abbrev pub has_argument : Rtx → Bool
has_argument x = is_hard_argument (register_at x)

abbrev pub use_is_argument : ArgUse → Bool
use_is_argument u = is_argument u.reg

abbrev pub argument_registers : Rtx → List ArgUse → Bool
argument_registers pattern uses =
    list_all has_argument (nodes_of pattern) && list_all use_is_argument uses

-- ---- calls: a call's target is a symbol or a register of mode DI, its result is set to a0, and its uses are different ones of
-- a0 to a7

abbrev pub is_target_class : Class → Bool
is_target_class class.Symbol = true
is_target_class class.Register = true
is_target_class _ = false

abbrev pub is_target_address : Rtx → Bool
is_target_address x = is_target_class (class_at x) && same_mode (mode_at x) DI

abbrev pub is_target_by : Class → List Rtx → Bool
is_target_by class.Memory (address ∷ []) = is_target_address address
is_target_by _ parts = false

abbrev pub is_target : Rtx → Bool
is_target x = is_target_by (class_at x) (out-Rtx x).kids

abbrev pub calls_target_by : Class → List Rtx → Bool
calls_target_by class.Call (place ∷ parts) = is_target place
calls_target_by _ parts = false

-- (call (mem TARGET) SIZE)
abbrev pub calls_target : Rtx → Bool
calls_target x = calls_target_by (class_at x) (out-Rtx x).kids

abbrev pub is_result_by : Class → ℕ → Bool
is_result_by class.Register reg = reg == 10
is_result_by _ reg = false

abbrev pub is_result : Rtx → Bool
is_result x = is_result_by (class_at x) (number_at x)

abbrev pub has_result_by : Class → List Rtx → Bool
has_result_by class.Setting (target ∷ source ∷ []) = is_result target
has_result_by _ parts = true

-- what is set to a call is a0
abbrev pub has_result : Rtx → Bool
has_result x = has_result_by (class_at x) (out-Rtx x).kids

abbrev pub has_target_by : Class → List Rtx → Rtx → Bool
has_target_by class.Setting (target ∷ source ∷ []) x = calls_target source
has_target_by _ parts x = calls_target x

-- a call, or a set of one, calls a symbol or a register of mode DI
abbrev pub has_target : Rtx → Bool
has_target x = has_target_by (class_at x) (out-Rtx x).kids x

-- no number stands twice
abbrev pub are_distinct : List ℕ → Bool
are_distinct [] = true
are_distinct (x ∷ xs) = not (has_place xs x) && are_distinct xs

abbrev pub used_registers : List ArgUse → List ℕ
used_registers uses = map (λ u. u.reg) uses

abbrev pub are_lawful_uses : List ArgUse → Bool
are_lawful_uses uses = list_all use_is_argument uses && are_distinct (used_registers uses)

-- a call's result is set to a0, and its uses are different ones of a0 to a7
abbrev pub call_result_agrees : Kind → Rtx → List ArgUse → Bool
call_result_agrees Call pattern uses = has_result pattern && are_lawful_uses uses
call_result_agrees _ pattern uses = true

-- a call's target is a symbol or a register of mode DI
abbrev pub call_target_agrees : Kind → Rtx → Bool
call_target_agrees Call pattern = has_target pattern
call_target_agrees _ pattern = true

abbrev pub calls_agree : Kind → Rtx → List ArgUse → Bool
calls_agree kind pattern uses =
    call_result_agrees kind pattern uses && call_target_agrees kind pattern
