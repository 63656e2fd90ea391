-- What a step of a function writes into a memory leaves a memory.
use Rattle.std.proofs.Common.{ℕ, zero, suc, ◌%◌, ◌/◌, ◌+◌, arith, List, [], ◌∷◌, Option, Some, None}
use Rattle.std.specs.Prelude.{unwrap_or, option_map}
use Rattle.bits64.specs.declared.Width.{Width}
use Rattle.bits64.specs.Words.{bytes_of}
use Rattle.rtx_tree.specs.Memories.{with_byte}
use Rattle.rtx_tree.specs.declared.memories.MemByte.{MemByte}
use Rattle.run_memory.specs.RunMemory.{load, with_number}
use Rattle.rtl_step.specs.Effect.{bytes_after, memory_after}
use Rattle.rtl_step.specs.declared.effect.Effect.{Effect}
use Rattle.rtl_step.specs.declared.effect.Effect.TheVariants.{Nothing, Sets, Unsets, Stores}
use Rattle.same_behaviour.specs.Lawful.{IsMemory}
use Rattle.law_window_lines.proofs.Memories.{memory_with}

numbered : (count address number : ℕ) (memory : List MemByte) → IsMemory memory → IsMemory (with_number memory address count number)
numbered zero address number memory is = is
numbered (suc count) address number memory is =
    numbered count (address + 1) (number / 256) (with_byte memory address (number % 256))
    (memory_with memory address (number % 256) (omega arith) is)

stored : (w : Width) (memory : List MemByte) (at value : ℕ) (o : Option ℕ) → IsMemory memory →
    IsMemory (unwrap_or (option_map (λ _. with_number memory at (bytes_of w) value) o) memory)
stored w memory at value None is = is
stored w memory at value (Some old) is = numbered (bytes_of w) at value memory is

after_one : (e : Effect) (memory : List MemByte) → IsMemory memory → IsMemory (bytes_after e memory)
after_one (Sets t k) memory is = is
after_one (Unsets t) memory is = is
after_one Nothing memory is = is
after_one (Stores w at value) memory is = stored w memory at value (load w memory at) is

pub memory_effects : (es : List Effect) (memory : List MemByte) → IsMemory memory → IsMemory (memory_after es memory)
memory_effects [] memory is = is
memory_effects (e ∷ es) memory is = memory_effects es (bytes_after e memory) (after_one e memory is)
