-- The start from which a function and its code are tried. The registers are those of the calling
-- convention (RISC-V ELF psABI, "Integer Register Convention"); which numbers they hold, and which
-- memory there is, is this project's own choice.
use Rattle.std.specs.Prelude.{ℕ, zero, suc, ◌+◌, ◌-◌, min, List, [], ◌∷◌, ◌++◌, replicate}
use Rattle.rtx_tree.specs.declared.memories.MemByte.{MemByte}
use Rattle.rtx_tree.specs.declared.machine.RangeAt.{RangeAt}
use Rattle.rtx_tree.specs.declared.machine.Start.{Start}
use Rattle.rtx_tree.specs.declared.function.Function.{Function}

-- the caller's range: 4,096 bytes
abbrev pub caller_range : RangeAt
caller_range = record { address = 65536; length = 4096 }

-- the value of sp
abbrev pub stack_top : ℕ
stack_top = 1179648

-- how many bytes of the stack there are below it
abbrev pub stack_room : ℕ
stack_room = 1048576

-- a number of bytes that are zero, from an address on
unfoldable pub zeros : ℕ → ℕ → List MemByte
zeros address zero = []
zeros address (suc count) = record { address = address; byte = 0 } ∷ zeros (address + 1) count

-- the caller's bytes, and so many below sp
abbrev pub memory_with : ℕ → List MemByte
memory_with room = zeros caller_range.address caller_range.length ++ zeros (stack_top - room) room

-- the range of the locals, just below sp, where there are any
abbrev pub locals_below : ℕ → List RangeAt
locals_below zero = []
locals_below (suc n) = record { address = stack_top - suc n; length = suc n } ∷ []

-- the start with these values of a0 to a7, for so many bytes of locals, where so many bytes of the
-- stack are there
abbrev pub start_with : List ℕ → ℕ → ℕ → Start
start_with args locals room = record {
  args = args;
  sp = stack_top;
  vars = stack_top;
  ra = 0;
  saved = replicate 12 0;
  memory = memory_with room;
  visible = caller_range ∷ locals_below locals;
}

-- where a function's code starts: with all of the stack
abbrev pub code_start : Function → List ℕ → Start
code_start f args = start_with args f.locals stack_room

-- where the function starts: of the stack it has its locals only
abbrev pub rtl_start : Function → List ℕ → Start
rtl_start f args = start_with args f.locals (min f.locals stack_room)
