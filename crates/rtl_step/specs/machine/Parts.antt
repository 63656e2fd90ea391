-- The value of an expression by those of its parts, for the contracts of private functions alone:
-- the widths in which the parts are read, and what is made of their values.
use Rattle.std.specs.Prelude.{ℕ, List, Option, Some, None, option_map}
use Rattle.bits64.specs.declared.Width.{Width}
use Rattle.bits64.specs.declared.Width.TheVariants.{W64}
use Rattle.rtx_tree.specs.declared.code.Code.{Code}
use Rattle.rtx_tree.specs.declared.memories.MemByte.{MemByte}
use Rattle.rtx_tree.specs.declared.class.Class.{Class}
use Rattle.rtx_tree.specs.declared.class.Class.TheVariants.{Memory, Lowpart, Unary, Binary, Shift, Extension, Truncation, Comparison}
use Rattle.run_memory.specs.RunMemory.{load}
use Rattle.rtl_step.specs.Value.{Reading, unary, binary, shifted, compared, converted, first_width, count_width, of_one, of_two}

-- ---- one part

abbrev pub part_width : Class → Option Width → Width → Option Width
part_width Memory own w = Some W64
part_width Lowpart own w = Some w
part_width Unary own w = Some w
part_width Extension own w = own
part_width Truncation own w = own
part_width _ own w = None

-- the value of the part, which was read in a width of its own
abbrev pub with_part : List MemByte → Class → Code → Width → Width → ℕ → Option ℕ
with_part memory Memory code own w value = load w memory value
with_part memory Lowpart code own w value = Some value
with_part memory Unary code own w value = unary code w value
with_part memory Extension code own w value = converted code own w value
with_part memory Truncation code own w value = converted code own w value
with_part memory _ code own w value = None

abbrev pub read_one : List MemByte → Class → Code → Reading → Width → Option Width → Option ℕ
read_one memory class code a w None = None
read_one memory class code a w (Some own) = of_one (with_part memory class code own w) (a.value own)

-- ---- two parts

abbrev pub alike : Width → Width × Width
alike w = (w, w)

abbrev pub part_widths : Class → Option Width → Option Width → Width → Option (Width × Width)
part_widths Binary first second w = Some (alike w)
part_widths Shift first second w = Some (w, count_width second)
part_widths Comparison first second w = option_map alike (first_width first second)
part_widths _ first second w = None

-- the values of the parts, the first of which was read in a width
abbrev pub with_parts : Class → Code → Width → ℕ → ℕ → Option ℕ
with_parts Binary code w a b = binary code w a b
with_parts Shift code w a b = shifted code w a b
with_parts Comparison code w a b = compared code w a b
with_parts _ code w a b = None

abbrev pub read_two : Class → Code → Reading → Reading → Option (Width × Width) → Option ℕ
read_two class code a b None = None
read_two class code a b (Some ws) = of_two (with_parts class code ws.0) (a.value ws.0) (b.value ws.1)
