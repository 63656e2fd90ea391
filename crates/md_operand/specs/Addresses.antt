-- Addresses: GCC Internals, "Addressing Modes" and, for virtual-stack-vars, "Registers and Memory";
-- RISC-V unprivileged manual, "Load and Store Instructions".
use Rattle.std.specs.Prelude.{ℤ, pos, negsuc, int_le, Bool, true, false, not, ◌&&◌, ◌||◌, List, [], ◌∷◌}
use Rattle.std.specs.Ordering.{int_eq}
use Rattle.rtx_tree.specs.declared.code.Code.{Code}
use Rattle.rtx_tree.specs.declared.code.Code.TheVariants.{Reg, ConstInt, Plus}
use Rattle.rtx_tree.specs.declared.tree.Rtx.{Rtx, out-Rtx}
use Rattle.rtx_tree.specs.Registers.{virtual_stack_vars}
use Rattle.rtx_tree.specs.Tree.{is_reg_numbered}
pub use Rattle.rtx_tree.specs.Tree.{is_stack_vars}
use Rattle.rv_regs.specs.Registers.{stack_pointer}

-- ---- the parts of addresses

abbrev pub is_stack_pointer : Rtx → Bool
is_stack_pointer x = is_reg_numbered (out-Rtx x).code (out-Rtx x).number stack_pointer

abbrev pub is_base_at : Code → ℤ → Bool
is_base_at Reg number = not (int_eq number (pos virtual_stack_vars))
is_base_at _ number = false

-- any register, hard or pseudo, but virtual-stack-vars
abbrev pub is_base : Rtx → Bool
is_base x = is_base_at (out-Rtx x).code (out-Rtx x).number

-- an offset for which a load and a store have room: 12 bits, signed
abbrev pub is_near : ℤ → Bool
is_near offset = int_le (negsuc 2047) offset && int_le offset (pos 2047)

-- an offset for which they have none
abbrev pub is_beyond : ℤ → Bool
is_beyond offset = not (is_near offset)

-- any offset
abbrev pub is_any : ℤ → Bool
is_any offset = true

abbrev pub is_constant_at : (ℤ → Bool) → Code → ℤ → Bool
is_constant_at test ConstInt number = test number
is_constant_at test _ number = false

-- a constant that passes a test
abbrev pub is_constant : (ℤ → Bool) → Rtx → Bool
is_constant test x = is_constant_at test (out-Rtx x).code (out-Rtx x).number

abbrev pub is_sum_at : (Rtx → Bool) → (ℤ → Bool) → Code → List Rtx → Bool
is_sum_at base offset Plus (a ∷ b ∷ []) = base a && is_constant offset b
is_sum_at base offset _ kids = false

-- the sum of a base and a constant, in this order
abbrev pub is_sum : (Rtx → Bool) → (ℤ → Bool) → Rtx → Bool
is_sum base offset x = is_sum_at base offset (out-Rtx x).code (out-Rtx x).kids

-- ---- addresses

-- what a load or a store addresses by itself: a register, or the sum of one and a near offset
abbrev pub is_near_address : Rtx → Bool
is_near_address x = is_base x || is_sum is_base is_near x

-- what becomes the sum of sp and an offset once the frame has its size: virtual-stack-vars, or the
-- sum of it and any offset
abbrev pub is_frame_reference : Rtx → Bool
is_frame_reference x = is_stack_vars x || is_sum is_stack_vars is_any x

-- a place of the frame past what an offset reaches: the sum of sp and an offset below -2048 or
-- above 2047. No load and no store addresses it by itself
abbrev pub is_far_address : Rtx → Bool
is_far_address x = is_sum is_stack_pointer is_beyond x

abbrev pub is_legitimate_address : Rtx → Bool
is_legitimate_address x = is_near_address x || (is_frame_reference x || is_far_address x)
