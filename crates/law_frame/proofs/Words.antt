-- Memory with what is saved at its places.
use Rattle.std.proofs.Common.{◌≡◌, ℕ, zero, suc, ◌+◌, ◌*◌, ◌<◌, ◌≤◌, ◌^◌, inl, true, List, [], ◌∷◌, map, Option, Some, None, refl, ap, ◌∙◌, arith}
use Rattle.std.specs.Prelude.{is_some, option_map, option_and_then}
use Rattle.std.specs.List.{All, AllPairs}
use Rattle.std.proofs.lemmas.List.Elements.{All-cons, All-head, All-tail}
use Rattle.bits64.specs.declared.Width.TheVariants.{W64}
use Rattle.rtx_tree.specs.Memories.{byte_at}
use Rattle.rtx_tree.specs.declared.machine.Start.{Start}
use Rattle.rtx_tree.specs.declared.memories.MemByte.{MemByte}
use Rattle.run_memory.specs.RunMemory.{number_at, with_number, load}
use Rattle.run_memory.proofs.Laws.{load-stored, load-stored_other, has-load_stored, has-with_number}
use Rattle.assign.specs.declared.places.SavedAt.{SavedAt}
use Rattle.law_frame.specs.Keeps.{held_at_entry, with_words}
use Rattle.law_frame.proofs.Registers.{low_whole}

-- ---- numbers, by their bytes

both : Option ℕ → Option ℕ → Option ℕ
both byte rest = option_and_then (λ b. option_map (λ r. b + 256 * r) rest) byte

both_some : (byte rest : Option ℕ) → is_some byte ≡ true → is_some rest ≡ true → is_some (both byte rest) ≡ true
unfolding both
both_some None rest has has' = has
both_some (Some b) None has has' = has'
both_some (Some b) (Some r) has has' = refl

-- a number is there where its bytes are
pub number_there : (memory : List MemByte) (address count : ℕ) → ((i : ℕ) → i < count → is_some (byte_at memory (address + i)) ≡ true) →
    is_some (number_at memory address count) ≡ true
unfolding both
number_there memory address zero has = refl
number_there memory address (suc count) has =
    both_some (byte_at memory address) (number_at memory (address + 1) count)
    (ap (λ a. is_some (byte_at memory a)) (let here : address ≡ address + 0 = omega arith in here) ∙ has 0 (omega arith))
    (number_there memory (address + 1) count (λ i small.
    ap (λ a. is_some (byte_at memory a)) (let here : address + 1 + i ≡ address + suc i = omega arith in here) ∙ has (suc i) (omega (arith, small))))

-- the same bytes are the same number
pub number_same : (memory other : List MemByte) (address count : ℕ) →
    ((i : ℕ) → i < count → byte_at other (address + i) ≡ byte_at memory (address + i)) → number_at other address count ≡ number_at memory address count
unfolding both
number_same memory other address zero same = refl
number_same memory other address (suc count) same =
    let first : byte_at other address ≡ byte_at memory address =
    ap (byte_at other) (let here : address ≡ address + 0 = omega arith in here) ∙ same 0 (omega arith) ∙
    ap (byte_at memory) (let here : address + 0 ≡ address = omega arith in here) in
    let later = number_same memory other (address + 1) count (λ i small.
    ap (byte_at other) (let here : address + 1 + i ≡ address + suc i = omega arith in here) ∙ same (suc i) (omega (arith, small)) ∙
    ap (byte_at memory) (let here : address + suc i ≡ address + 1 + i = omega arith in here)) in
    ap (λ b. both b (number_at other (address + 1) count)) first ∙ ap (both (byte_at memory address)) later

-- ---- what is saved

abbrev Below : ℕ → ℕ → Type 0
Below upper lower = lower + 8 ≤ upper

abbrev pub offsets_of : List SavedAt → List ℕ
offsets_of saved = map (λ s. s.offset) saved

-- the first of some stands above the others
pub first_above : (x : ℕ) (xs : List ℕ) → AllPairs (λ upper lower. lower + 8 ≤ upper) (x ∷ xs) → All (λ lower. lower + 8 ≤ x) xs
first_above x xs pairs = λ k d inside. pairs 0 (suc k) d (omega arith) (omega (arith, inside))

pub rest_apart : (x : ℕ) (xs : List ℕ) → AllPairs (λ upper lower. lower + 8 ≤ upper) (x ∷ xs) →
    AllPairs (λ upper lower. lower + 8 ≤ upper) xs
rest_apart x xs pairs = λ i j d less inside. pairs (suc i) (suc j) d (omega (arith, less)) (omega (arith, inside))

module _ (start : Start) (base : ℕ) where
  abbrev with_word : List MemByte → SavedAt → List MemByte
  with_word memory s = with_number memory (base + s.offset) 8 (held_at_entry start s.reg)

  -- what is saved leaves the addresses of memory as they are
  pub words_there : (saved : List SavedAt) (memory : List MemByte) (a : ℕ) →
      is_some (byte_at (with_words start base saved memory) a) ≡ is_some (byte_at memory a)
  words_there [] memory a = refl
  words_there (s ∷ saved) memory a =
      words_there saved (with_word memory s) a ∙ has-with_number memory (base + s.offset) 8 (held_at_entry start s.reg) a

  -- what stands above all of it stays
  words_above : (saved : List SavedAt) (memory : List MemByte) (at : ℕ) → All (λ lower. lower + 8 ≤ at) (offsets_of saved) →
      load W64 (with_words start base saved memory) (base + at) ≡ load W64 memory (base + at)
  words_above [] memory at above = refl
  words_above (s ∷ saved) memory at above =
      let here : s.offset + 8 ≤ at = All-head (λ lower. lower + 8 ≤ at) s.offset (offsets_of saved) above in
      words_above saved (with_word memory s) at (All-tail (λ lower. lower + 8 ≤ at) s.offset (offsets_of saved) above) ∙
      load-stored_other W64 W64 memory (base + s.offset) (held_at_entry start s.reg) (base + at) (inl (omega (arith, here)))

  -- each of it is loaded again
  abbrev pub Stored : List MemByte → List SavedAt → Type 0
  Stored memory [] = Unit {0}
  Stored memory (s ∷ saved) = (load W64 memory (base + s.offset) ≡ Some (held_at_entry start s.reg)) × Stored memory saved

  abbrev There : List MemByte → List SavedAt → Type 0
  There memory saved = All (λ s. is_some (load W64 memory (base + s.offset)) ≡ true) saved

  abbrev Words : List SavedAt → Type 0
  Words saved = All (λ s. held_at_entry start s.reg < 2 ^ 64) saved

  still_there : (saved : List SavedAt) (memory : List MemByte) (s : SavedAt) → There memory saved → There (with_word memory s) saved
  still_there [] memory s there = λ k d inside. absurd (omega (arith, inside))
  still_there (x ∷ saved) memory s there = All-cons (λ s'. is_some (load W64 (with_word memory s) (base + s'.offset)) ≡ true) x saved
      (has-load_stored W64 W64 memory (base + s.offset) (held_at_entry start s.reg) (base + x.offset) ∙
      All-head (λ s. is_some (load W64 memory (base + s.offset)) ≡ true) x saved there)
      (still_there saved memory s (All-tail (λ s. is_some (load W64 memory (base + s.offset)) ≡ true) x saved there))

  pub words_stored : (saved : List SavedAt) (memory : List MemByte) → AllPairs (λ upper lower. lower + 8 ≤ upper) (offsets_of saved) →
      There memory saved → Words saved → Stored (with_words start base saved memory) saved
  words_stored [] memory apart there words = tt
  words_stored (s ∷ saved) memory apart there words = (
    words_above saved (with_word memory s) s.offset (first_above s.offset (offsets_of saved) apart) ∙
        load-stored W64 memory (base + s.offset) (held_at_entry start s.reg)
        (All-head (λ s. is_some (load W64 memory (base + s.offset)) ≡ true) s saved there) ∙
        ap Some (low_whole (held_at_entry start s.reg) (All-head (λ s. held_at_entry start s.reg < 2 ^ 64) s saved words)),
    words_stored saved (with_word memory s) (rest_apart s.offset (offsets_of saved) apart)
        (still_there saved memory s (All-tail (λ s. is_some (load W64 memory (base + s.offset)) ≡ true) s saved there))
        (All-tail (λ s. held_at_entry start s.reg < 2 ^ 64) s saved words),
  )
