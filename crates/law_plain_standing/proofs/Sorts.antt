-- What an operand of a plain form is, once registers have homes.
use Rattle.std.proofs.Common.{◌≡◌, ℕ, pos, Bool, true, false, List, [], ◌∷◌, Option, Some, None, refl}
use Rattle.std.specs.Prelude.{ℤ}
use Rattle.rtx_tree.specs.declared.code.Code.TheVariants as code
use Rattle.rtx_tree.specs.declared.code.Mode.{Mode}
use Rattle.rtx_tree.specs.declared.code.Mode.TheVariants.{Void, DI}
use Rattle.rtx_tree.specs.declared.tree.Rtx.{Rtx}
use Rattle.reload_operands.specs.declared.operand.Base.{Base}
use Rattle.reload_operands.specs.declared.operand.Operand.{Operand}
use Rattle.rtx_open.proofs.Expressions.{Written, node, any, none, with, rtx}
use Rattle.law_plain_known.proofs.Plainly.{Told, plainly}

-- a register; memory of a slot that is its home; a constant; a symbol; and memory that is no home, by
-- its address, and its base where a slot holds that
pub data Sort : Type 0 where
  register : Mode → ℕ → Sort
  slot : Mode → Rtx → Sort
  number : ℤ → Sort
  symbol : ℤ → List ℕ → Sort
  memory : Mode → Rtx → Option Base → Sort

abbrev pub written : Sort → Written
written (register m reg) = node code.Reg m (pos reg) [] none
written (slot m address) = node code.Mem m (pos 0) [] (with (any address) none)
written (number z) = node code.ConstInt Void z [] none
written (symbol z name) = node code.SymbolRef DI z name none
written (memory m address base) = node code.Mem m (pos 0) [] (with (any address) none)

abbrev pub tree : Sort → Rtx
tree s = rtx (written s)

abbrev pub in_slot : Sort → Bool
in_slot (slot m address) = true
in_slot _ = false

abbrev pub base : Sort → Option Base
base (memory m address b) = b
base _ = None

-- what is told of an operand of a sort that is moved in a mode
abbrev pub told : Sort → Mode → Bool → Bool → Bool → Bool → Told
told s mode input output changed other = record {
  tree = tree s;
  mode = mode;
  is_operator = false;
  is_input = input;
  is_output = output;
  in_slot = in_slot s;
  base = base s;
  changed_address = changed;
  other_memory = other;
}

abbrev pub operand : ℕ → Sort → Mode → Bool → Bool → Bool → Bool → Operand
operand k s mode input output changed other = plainly k (told s mode input output changed other)

-- ---- sorts, by what they are

-- memory
abbrev pub IsMemory : Sort → Type 0
IsMemory (slot m address) = Unit {0}
IsMemory (memory m address b) = Unit {0}
IsMemory _ = ⊥

-- none
abbrev pub IsNear : Sort → Type 0
IsNear (slot m address) = ⊥
IsNear (memory m address b) = ⊥
IsNear _ = Unit {0}

-- no register
abbrev pub IsOther : Sort → Type 0
IsOther (register m reg) = ⊥
IsOther _ = Unit {0}
