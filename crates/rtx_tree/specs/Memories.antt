-- Bytes of memory by address.
use Rattle.std.specs.Prelude.{◌≡◌, ◌<◌, ◌-◌, ◌==◌, ℕ, List, [], ◌∷◌, map, length, slice_get, slice_index_or, MatchOption, Option, Some, None, if◌then◌else◌}
use Rattle.std.specs.List.Sorted.{IsStrictlyIncreasing}
use Rattle.rtx_tree.specs.declared.memories.MemByte.{MemByte}

-- each address stands once, in increasing order
abbrev pub IsOrdered : List MemByte → Type 0
IsOrdered bytes = IsStrictlyIncreasing (map (λ b. b.address) bytes)

-- an address is greater than the last, and so than all
abbrev pub IsAbove : List MemByte → ℕ → Type 0
IsAbove bytes address =
    MatchOption (slice_get bytes (length bytes - 1)) (Unit {0}) (λ last. last.address < address)

-- the byte at an address, or none where memory does not have the address
abbrev pub byte_at : List MemByte → ℕ → Option ℕ
byte_at [] address = None
byte_at (b ∷ bytes) address = if b.address == address then Some b.byte else byte_at bytes address

-- one place of memory, with a new byte if it is the place at the address
abbrev pub with_byte_here : ℕ → ℕ → MemByte → MemByte
with_byte_here address byte b = record { address = b.address; byte = if b.address == address then byte else b.byte }

-- memory with a new byte at an address, or as it was where it does not have the address
abbrev pub with_byte : List MemByte → ℕ → ℕ → List MemByte
with_byte bytes address byte = map (with_byte_here address byte) bytes

-- the address at a place of the list
abbrev pub address_at : List MemByte → ℕ → ℕ
address_at bytes place = (slice_index_or bytes place (record { address = 0; byte = 0 })).address

-- the byte at an address stands at a place of the list
pub record IsPlaceOf (bytes : List MemByte) (address place : ℕ) : Type 0 where
  pub within : place < length bytes
  pub address_is : address_at bytes place ≡ address
