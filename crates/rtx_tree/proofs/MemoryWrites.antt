-- What a byte that is written changes.
use Rattle.std.proofs.Common.{◌≡◌, ◌≢◌, ℕ, List, [], ◌∷◌, refl, arith}
use Rattle.std.specs.Prelude.{Some, None, is_some}
use Rattle.std.proofs.lemmas.Bool.Decides.{nat_tests}
use Rattle.rtx_tree.specs.declared.memories.MemByte.{MemByte}
use Rattle.rtx_tree.specs.Memories.{byte_at, with_byte}

-- where memory does not have the address, nothing
pub with_byte_missing : (bytes : List MemByte) (address byte : ℕ) → byte_at bytes address ≡ None → with_byte bytes address byte ≡ bytes
with_byte_missing [] address byte none = refl
with_byte_missing (b ∷ bytes) address byte none = grind (arith, nat_tests, with_byte_missing bytes address byte)

-- the byte at the address, where memory has it
pub byte_at-with_byte_same : (bytes : List MemByte) (address byte : ℕ) → is_some (byte_at (with_byte bytes address byte) address) ≡ is_some (byte_at bytes address)
byte_at-with_byte_same [] address byte = refl
byte_at-with_byte_same (b ∷ bytes) address byte = grind (arith, nat_tests, byte_at-with_byte_same bytes address byte)

pub byte_at-with_byte : (bytes : List MemByte) (address byte old : ℕ) → byte_at bytes address ≡ Some old → byte_at (with_byte bytes address byte) address ≡ Some byte
byte_at-with_byte [] address byte old has = grind arith
byte_at-with_byte (b ∷ bytes) address byte old has = grind (arith, nat_tests, byte_at-with_byte bytes address byte old)

-- no byte at another address
pub byte_at-with_byte_other : (bytes : List MemByte) (address byte other : ℕ) → other ≢ address → byte_at (with_byte bytes address byte) other ≡ byte_at bytes other
byte_at-with_byte_other [] address byte other differ = refl
byte_at-with_byte_other (b ∷ bytes) address byte other differ = grind (arith, nat_tests, byte_at-with_byte_other bytes address byte other differ)

-- and not which addresses memory has
pub has-with_byte : (bytes : List MemByte) (address byte other : ℕ) → is_some (byte_at (with_byte bytes address byte) other) ≡ is_some (byte_at bytes other)
has-with_byte [] address byte other = refl
has-with_byte (b ∷ bytes) address byte other = grind (arith, nat_tests, has-with_byte bytes address byte other)
