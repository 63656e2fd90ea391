-- Two memories with the same byte at each address are one.
use Rattle.std.proofs.Common.{◌≡◌, ℕ, suc, ◌+◌, ◌^◌, ◌<◌, ◌&&◌, ◌||◌, nat_lt, nat_le, Bool, true, false, List, [], ◌∷◌, Option, Some, None, refl, sym, ◌∙◌, ap, arith, tests}
use Rattle.std.specs.Prelude.{if◌then◌else◌, is_some}
use Rattle.std.specs.List.{All}
use Rattle.rtx_tree.specs.declared.machine.RangeAt.{RangeAt}
use Rattle.rtx_tree.specs.declared.memories.MemByte.{MemByte}
use Rattle.rtx_tree.specs.Memories.{IsOrdered, byte_at}
use Rattle.run_memory.specs.RunMemory.{is_visible, visible}
use Rattle.law_states_agree.specs.same_behaviour.Lawful.{IsByte, IsMemory}
use Rattle.term_mean.specs.Meaning.{Valuation}
use Rattle.law_states_agree.specs.law_insn_terms.Needs.{First}
use Rattle.law_states_agree.specs.law_insn_terms.Shows.{ShowsMemory}
use Rattle.law_states_agree.proofs.Visible.{all_bytes, same_seen}

-- all addresses of 64 bits
abbrev everywhere : List RangeAt
everywhere = record { address = 0; length = 2 ^ 64 } ∷ []

is_seen : (address : ℕ) → address < 2 ^ 64 → is_visible everywhere address ≡ true
is_seen address less =
    let small : nat_lt address (0 + 2 ^ 64) ≡ true = grind (arith, tests, less) in
    let first : nat_le 0 address ≡ true = grind (arith, tests) in
    ap (λ b. (b && nat_lt address (0 + 2 ^ 64)) || false) first ∙ ap (λ b. b || false) small

all_seen : (bytes : List MemByte) → All IsByte bytes → visible everywhere bytes ≡ bytes
all_seen [] each = refl
all_seen (b ∷ bytes) each =
    by (is_visible everywhere b.address) (is_seen b.address (each 0 b (omega arith)).address) (all_seen bytes (λ k d less. each (suc k) d (omega (arith, less))))
  where
    by : (c : Bool) → c ≡ true → visible everywhere bytes ≡ bytes → (if c then b ∷ visible everywhere bytes else visible everywhere bytes) ≡ b ∷ bytes
    by true is rest = ap (λ l. b ∷ l) rest
    by false is rest = absurd (let no : ⊥ = cc in no)

same_memory : (xs ys : List MemByte) → IsMemory xs → IsMemory ys → ((address : ℕ) → byte_at xs address ≡ byte_at ys address) → xs ≡ ys
same_memory xs ys first second same =
    sym (all_seen xs first.bytes) ∙ same_seen everywhere xs ys first.ordered second.ordered (λ address seen. same address) ∙ all_seen ys second.bytes

-- a memory that is shown, in order
shown_memory : (v : Valuation) (f : First) (memory : List MemByte) (number : ℕ) → ShowsMemory v f memory number → IsOrdered memory → IsMemory memory
shown_memory v f memory number shows ordered =
    record { ordered = ordered; bytes = all_bytes memory ordered (λ address byte is. (shows.words address byte is, shows.small address byte is)) }

some_of : (o : Option ℕ) → is_some o ≡ true → (x : ℕ) × (o ≡ Some x)
some_of None is = absurd (let no : ⊥ = cc in no)
some_of (Some x) is = (x, refl)

none_of : (o : Option ℕ) → is_some o ≡ false → o ≡ None
none_of None is = refl
none_of (Some x) is = absurd (let no : ⊥ = cc in no)

-- Two memories that came of one: each byte of the first is that of a valuation, which the second shows.
module _ (v u : Valuation) (f g : First) (xs ys : List MemByte) (m n : ℕ) (first : ShowsMemory v f xs m) (second : ShowsMemory u g ys n) (of_one : f.memory ≡ g.memory) (numbers : m ≡ n)
    (bytes : (address byte : ℕ) → byte_at xs address ≡ Some byte → byte ≡ u.memory m address) where
  has_same : (address : ℕ) → is_some (byte_at ys address) ≡ is_some (byte_at xs address)
  has_same address = second.addresses address ∙ ap (λ l. is_some (byte_at l address)) (sym of_one) ∙ sym (first.addresses address)

  byte_by : (address : ℕ) (o : Option ℕ) → byte_at xs address ≡ o → byte_at ys address ≡ byte_at xs address
  byte_by address None is = none_of (byte_at ys address) (has_same address ∙ ap is_some is) ∙ sym is
  byte_by address (Some byte) is =
      let there = some_of (byte_at ys address) (has_same address ∙ ap is_some is) in
      let same : there.0 ≡ byte = second.bytes address there.0 there.1 ∙ ap (λ k. u.memory k address) (sym numbers) ∙ sym (bytes address byte is) in
      there.1 ∙ ap Some same ∙ sym is

  pub memories_same : IsOrdered xs → IsOrdered ys → ys ≡ xs
  memories_same ordered ordered' =
      same_memory ys xs (shown_memory u g ys n second ordered') (shown_memory v f xs m first ordered) (λ address. byte_by address (byte_at xs address) refl)
