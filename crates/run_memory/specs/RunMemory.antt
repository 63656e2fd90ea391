-- The memory of a run: bytes by address (GCC Internals, "Registers and Memory": `mem`), read and
-- written in the order that the target has, which is little-endian (GCC Internals, "Storage
-- Layout"; RISC-V unprivileged manual, "RV32I Base Integer Instruction Set", "Load and Store
-- Instructions"). An access has to be aligned to its size, and each of its bytes has to be there.
-- Addresses are below 2 ^ 64, so an access that would pass 2 ^ 64 has bytes that are not there.
use Rattle.std.specs.Prelude.{ℕ, zero, suc, ◌+◌, ◌*◌, ◌/◌, ◌%◌, ◌==◌, ◌&&◌, nat_le, nat_lt, Bool, if◌then◌else◌, List, [], ◌∷◌, Option, Some, None, option_map, option_and_then}
use Rattle.std.specs.List.{filter, list_any}
use Rattle.bits64.specs.declared.Width.{Width}
use Rattle.bits64.specs.Words.{bytes_of}
use Rattle.rtx_tree.specs.declared.memories.MemByte.{MemByte}
use Rattle.rtx_tree.specs.declared.machine.RangeAt.{RangeAt}
use Rattle.rtx_tree.specs.Memories.{byte_at, with_byte}

-- the number of so many bytes from an address on, the lowest first, or none where one is missing
abbrev pub number_at : List MemByte → ℕ → ℕ → Option ℕ
number_at memory address zero = Some 0
number_at memory address (suc count) =
    option_and_then (λ byte. option_map (λ rest. byte + 256 * rest) (number_at memory (address + 1) count)) (byte_at memory address)

-- an address is a multiple of the access's size
abbrev pub is_aligned : Width → ℕ → Bool
is_aligned w address = address % bytes_of w == 0

-- what stands at an address in a width, or none where the access is not aligned or a byte is
-- missing
abbrev pub load : Width → List MemByte → ℕ → Option ℕ
load w memory address = if is_aligned w address then number_at memory address (bytes_of w) else None

-- memory with so many low bytes of a number from an address on, the lowest first
abbrev pub with_number : List MemByte → ℕ → ℕ → ℕ → List MemByte
with_number memory address zero number = memory
with_number memory address (suc count) number =
    with_number (with_byte memory address (number % 256)) (address + 1) count (number / 256)

-- memory with the low bits of a number at an address, or none where a load there has none
abbrev pub store : Width → List MemByte → ℕ → ℕ → Option (List MemByte)
store w memory address number =
    option_map (λ _. with_number memory address (bytes_of w) number) (load w memory address)

-- memory with bytes written one after the other; one at an address that memory does not have is
-- passed over
abbrev pub written : List MemByte → List MemByte → List MemByte
written [] memory = memory
written (w ∷ writes) memory = written writes (with_byte memory w.address w.byte)

-- an address lies in a range
abbrev pub is_in : ℕ → RangeAt → Bool
is_in address range = nat_le range.address address && nat_lt address (range.address + range.length)

-- an address lies in one of the ranges
abbrev pub is_visible : List RangeAt → ℕ → Bool
is_visible ranges address = list_any (is_in address) ranges

-- the part of memory that lies in one of the ranges
abbrev pub visible : List RangeAt → List MemByte → List MemByte
visible ranges memory = filter (λ b. is_visible ranges b.address) memory
