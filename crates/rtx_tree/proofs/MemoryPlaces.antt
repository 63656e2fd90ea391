-- Places of bytes in memory, and what a byte written there changes.
use Rattle.std.proofs.Common.{◌≡◌, ◌≢◌, ◌<◌, ◌≤◌, ◌+◌, ℕ, zero, suc, List, [], ◌∷◌, length, get_or, set, map, sym, ap, subst, refl, ◌∙◌, inl, inr, arith}
use Rattle.std.specs.Prelude.{slice_get, Some, None, is_some, true}
use Rattle.std.proofs.lemmas.List.{length-map, get_or-map}
use Rattle.std.proofs.lemmas.Option.{get_or_from_slice_get}
use Rattle.std.proofs.lemmas.Bool.Decides.{nat_tests}
use Rattle.std.proofs.lemmas.Bool.{cases_lt}
use Rattle.std.proofs.lemmas.List.Kept.{AllPairs-from_increasing}
use Rattle.rtx_tree.specs.declared.memories.MemByte.{MemByte}
use Rattle.rtx_tree.specs.Memories.{IsOrdered, IsPlaceOf, address_at, byte_at, with_byte}

abbrev nowhere : MemByte
nowhere = record { address = 0; byte = 0 }

address_of : MemByte → ℕ
address_of b = b.address

-- in order, a later place has a greater address
pub address_less : (bytes : List MemByte) → IsOrdered bytes → (i j : ℕ) → i < j → j < length bytes → address_at bytes i < address_at bytes j
address_less bytes up i j less within =
    let f : MemByte → ℕ = λ b. b.address in
    let first = get_or-map f bytes i nowhere 0 (omega arith) in
    let second = get_or-map f bytes j nowhere 0 within in
    let both = AllPairs-from_increasing (map f bytes) up i j 0 less (omega (arith, length-map bytes f)) in
    omega arith

-- none of the addresses is this one
abbrev pub HasNone : List MemByte → ℕ → Type 0
HasNone bytes address = (k : ℕ) → k < length bytes → address_at bytes k ≢ address

-- the place has the address, and no earlier one has it
pub record IsFirst (bytes : List MemByte) (address place : ℕ) : Type 0 where
  pub is_place : IsPlaceOf bytes address place
  pub first : (k : ℕ) → k < place → address_at bytes k ≢ address
  pub last : (k : ℕ) → place < k → k < length bytes → address_at bytes k ≢ address

tail_has_none : (b : MemByte) (bytes : List MemByte) (address : ℕ) → HasNone (b ∷ bytes) address → HasNone bytes address
tail_has_none b bytes address none k less = none (suc k) (omega arith)

pub byte_at_none : (bytes : List MemByte) (address : ℕ) → HasNone bytes address → byte_at bytes address ≡ None
byte_at_none [] address none = refl
byte_at_none (b ∷ bytes) address none = grind (arith, nat_tests, none 0 (omega arith), byte_at_none bytes address (tail_has_none b bytes address none))

pub with_byte_none : (bytes : List MemByte) (address byte : ℕ) → HasNone bytes address → with_byte bytes address byte ≡ bytes
with_byte_none [] address byte none = refl
with_byte_none (b ∷ bytes) address byte none = grind (arith, nat_tests, none 0 (omega arith), with_byte_none bytes address byte (tail_has_none b bytes address none))

only_place : (bytes : List MemByte) → IsOrdered bytes → (address place : ℕ) → IsPlaceOf bytes address place → IsFirst bytes address place
only_place bytes up address place is = record {
  is_place = is;
  first = λ k less same. omega (arith, address_less bytes up k place less is.within, is.address_is);
  last = λ k less within same. omega (arith, address_less bytes up place k less within, is.address_is);
}

tail_first : (b : MemByte) (bytes : List MemByte) (address place : ℕ) → IsFirst (b ∷ bytes) address (suc place) → IsFirst bytes address place
tail_first b bytes address place is = record {
  is_place = record { within = omega (arith, is.is_place.within); address_is = is.is_place.address_is };
  first = λ k less. is.first (suc k) (omega arith);
  last = λ k less within. is.last (suc k) (omega arith) (omega arith);
}

tail_last : (b : MemByte) (bytes : List MemByte) (address : ℕ) → IsFirst (b ∷ bytes) address 0 → HasNone bytes address
tail_last b bytes address is k less = is.last (suc k) (omega arith) (omega arith)

byte_at_first : (bytes : List MemByte) (address place : ℕ) → IsFirst bytes address place → byte_at bytes address ≡ Some (get_or bytes place nowhere).byte
byte_at_first [] address place is = absurd (omega (arith, is.is_place.within))
byte_at_first (b ∷ bytes) address zero is = grind (arith, nat_tests, is.is_place.address_is)
byte_at_first (b ∷ bytes) address (suc place) is = grind (arith, nat_tests, is.first 0 (omega arith), byte_at_first bytes address place (tail_first b bytes address place is))

with_byte_first : (bytes : List MemByte) (address place byte : ℕ) → IsFirst bytes address place → with_byte bytes address byte ≡ set bytes place (record { address = address; byte = byte })
with_byte_first [] address place byte is = absurd (omega (arith, is.is_place.within))
with_byte_first (b ∷ bytes) address zero byte is = grind (arith, nat_tests, is.is_place.address_is, with_byte_none bytes address byte (tail_last b bytes address is))
with_byte_first (b ∷ bytes) address (suc place) byte is = grind (arith, nat_tests, is.first 0 (omega arith), with_byte_first bytes address place byte (tail_first b bytes address place is))

-- what a search finds
pub byte_at_place : (bytes : List MemByte) → IsOrdered bytes → (address place : ℕ) (b : MemByte) → IsPlaceOf bytes address place → slice_get bytes place ≡ Some b → byte_at bytes address ≡ Some b.byte
byte_at_place bytes up address place b is there =
    byte_at_first bytes address place (only_place bytes up address place is) ∙ ap (λ (b : MemByte). Some b.byte) (get_or_from_slice_get bytes place b nowhere there)

pub has_place : (bytes : List MemByte) → IsOrdered bytes → (address place : ℕ) → IsPlaceOf bytes address place → true ≡ is_some (byte_at bytes address)
has_place bytes up address place is = sym (ap is_some (byte_at_first bytes address place (only_place bytes up address place is)))

pub with_byte_place : (bytes : List MemByte) → IsOrdered bytes → (address place byte : ℕ) → IsPlaceOf bytes address place → set bytes place (record { address = address; byte = byte }) ≡ with_byte bytes address byte
with_byte_place bytes up address place byte is = sym (with_byte_first bytes address place byte (only_place bytes up address place is))

-- no address is between two places that follow each other
pub none_between : (bytes : List MemByte) (address low high : ℕ) → high ≤ low → ((k : ℕ) → k < low → address_at bytes k < address) → ((k : ℕ) → high ≤ k → k < length bytes → address < address_at bytes k) → byte_at bytes address ≡ None
none_between bytes address low high met below above = byte_at_none bytes address (λ k within same. elim (cases_lt k low) [
  | inl less ↦ omega (arith, below k less)
  | inr past ↦ omega (arith, above k (omega arith) within)
])

-- the addresses below one that is too small are too small, and those above one that is too great are too great
pub below_middle : (bytes : List MemByte) → IsOrdered bytes → (address middle : ℕ) → middle < length bytes → address_at bytes middle < address → (k : ℕ) → k < middle + 1 → address_at bytes k < address
below_middle bytes up address middle within less k here = elim (cases_lt k middle) [
  | inl before ↦ omega (arith, address_less bytes up k middle before within)
  | inr past ↦ let same : k ≡ middle = omega arith in subst (λ k. address_at bytes k < address) (sym same) less
]

pub above_middle : (bytes : List MemByte) → IsOrdered bytes → (address middle : ℕ) → address < address_at bytes middle → (k : ℕ) → middle ≤ k → k < length bytes → address < address_at bytes k
above_middle bytes up address middle less k here within = elim (cases_lt middle k) [
  | inl after ↦ omega (arith, address_less bytes up middle k after within)
  | inr past ↦ let same : k ≡ middle = omega arith in subst (λ k. address < address_at bytes k) (sym same) less
]

-- addresses stay
pub addresses_stay : (bytes : List MemByte) (address byte : ℕ) → map (λ (b : MemByte). b.address) (with_byte bytes address byte) ≡ map (λ (b : MemByte). b.address) bytes
addresses_stay [] address byte = refl
addresses_stay (b ∷ bytes) address byte = ap (λ xs. b.address ∷ xs) (addresses_stay bytes address byte)

pub ordered_stays : (bytes : List MemByte) (address byte : ℕ) → IsOrdered bytes → IsOrdered (with_byte bytes address byte)
ordered_stays bytes address byte up = let P : List ℕ → Type 0 = λ xs. (k : ℕ) → k + 1 < length xs → get_or xs k 0 < get_or xs (k + 1) 0 in subst P (sym (addresses_stay bytes address byte)) up
