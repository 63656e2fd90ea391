-- References to the frame, once it has a size: GCC Internals, "Registers and Memory"
-- (`virtual-stack-vars`) and "Eliminating Frame Pointer and Arg Pointer". virtual-stack-vars stands
-- for the address just past the locals, which is the frame's size above sp.
use Rattle.std.specs.Prelude.{ℕ, ℤ, pos, ◌+ℤ◌, ◌&&◌, List, [], ◌∷◌, Option, Some, None, if◌then◌else◌}
use Rattle.std.specs.Int.{cast_unsigned, int_wrap, w64}
use Rattle.std.specs.Option.{option_map_or}
use Rattle.std.specs.Ordering.{int_eq}
use Rattle.rtx_tree.specs.declared.code.Code.{Code}
use Rattle.rtx_tree.specs.declared.code.Code.TheVariants.{Plus}
use Rattle.rtx_tree.specs.declared.code.Mode.{Mode}
use Rattle.rtx_tree.specs.declared.tree.Rtx.{Rtx}
use Rattle.rtx_tree.specs.Tree.{head_of, kids_of, tree_of, node_of, reg_of, const_of}
use Rattle.rv_regs.specs.Registers.{stack_pointer}
use Rattle.md_operand.specs.Addresses.{is_stack_vars, is_constant, is_any}
use Rattle.reload_homes.specs.Rewritten.{rewritten}

-- ---- sums with sp

-- sp plus a number, or sp alone where the number is 0
abbrev pub sp_plus : Mode → ℤ → Rtx
sp_plus mode c = if int_eq c (pos 0) then reg_of mode stack_pointer else node_of Plus mode (reg_of mode stack_pointer ∷ const_of c ∷ [])

-- sp plus the number that is left of one in 64 signed bits
abbrev pub from_sp : Mode → ℤ → Rtx
from_sp mode c = sp_plus mode (int_wrap w64 c)

-- ---- references

-- the number of a constant, as it stands in 64 signed bits
abbrev pub in_bits : ℤ → ℤ
in_bits number = int_wrap w64 (pos (cast_unsigned w64 number))

abbrev pub number_added : Rtx → Rtx → Option ℤ
number_added base constant =
    if is_stack_vars base &&
    is_constant is_any constant then Some (in_bits (head_of constant).number) else None

abbrev pub offset_by : Code → Rtx → List Rtx → Option ℤ
offset_by Plus x (base ∷ constant ∷ []) = number_added base constant
offset_by _ x parts = if is_stack_vars x then Some (pos 0) else None

-- what a reference to the frame adds to virtual-stack-vars: the constant of their sum, in this
-- order, or 0 for the register alone; any other tree is none
abbrev pub frame_offset : Rtx → Option ℤ
frame_offset x = offset_by (head_of x).code x (kids_of x)

-- a reference to a frame of this size becomes sp plus the size and what it adds; any other tree has
-- its parts as they have become
abbrev pub framed_as : ℕ → Rtx → List Rtx → Rtx
framed_as size x parts = option_map_or (λ c. from_sp (head_of x).mode (pos size +ℤ c)) (frame_offset x) (tree_of (head_of x) parts)

-- a tree with its references to a frame of this size put in
abbrev pub framed : ℕ → Rtx → Rtx
framed size = rewritten (framed_as size)
