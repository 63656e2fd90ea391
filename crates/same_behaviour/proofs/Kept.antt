-- A part of memory that goes by the addresses is a memory.
use Rattle.std.proofs.Common.{◌≡◌, ℕ, cond, Bool, true, false, List, [], ◌∷◌, map, refl, sym, ap, subst}
use Rattle.std.proofs.lemmas.List.Elements.{All-filter}
use Rattle.std.proofs.lemmas.List.Kept.{IsStrictlyIncreasing-filter}
use Rattle.std.specs.List.{filter}
use Rattle.std.specs.List.Sorted.{IsStrictlyIncreasing}
use Rattle.rv_line.specs.rtx_tree.declared.memories.MemByte.{MemByte}
use Rattle.same_behaviour.specs.Lawful.{IsByte, IsMemory}

module _ (test : ℕ → Bool) where
  abbrev pub kept : List MemByte → List MemByte
  kept memory = filter (λ (b : MemByte). test b.address) memory

  abbrev addresses : List MemByte → List ℕ
  addresses memory = map (λ (b : MemByte). b.address) memory

  addresses_kept : (memory : List MemByte) → addresses (kept memory) ≡ filter test (addresses memory)
  addresses_kept [] = refl
  addresses_kept (b ∷ memory) = by_test (test b.address) (addresses_kept memory)
    where
      by_test : (is : Bool) → addresses (kept memory) ≡ filter test (addresses memory) →
          addresses (cond is (b ∷ kept memory) (kept memory)) ≡ cond is (b.address ∷ filter test (addresses memory)) (filter test
          (addresses memory))
      by_test true rest = ap (λ xs. b.address ∷ xs) rest
      by_test false rest = rest

  pub memory_kept : (memory : List MemByte) → IsMemory memory → IsMemory (kept memory)
  memory_kept memory is = record {
    ordered = let P : List ℕ → Type 0 = λ xs. IsStrictlyIncreasing xs in
        subst P (sym (addresses_kept memory)) (IsStrictlyIncreasing-filter test (addresses memory) is.ordered);
    bytes = All-filter (λ (b : MemByte). test b.address) IsByte memory is.bytes;
  }
