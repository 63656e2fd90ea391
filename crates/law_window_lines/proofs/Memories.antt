-- Memory behind a reply: what one machine has, the other has too, and a caller sees the same of both.
use Rattle.std.proofs.Common.{◌≡◌, ℕ, ◌<◌, ◌^◌, ⊎_elim, if◌then◌else◌, ◌==◌, Bool, true, false, cond, List, [], ◌∷◌, Option, Some, None, refl, sym, ap, subst, ◌∙◌}
use Rattle.std.specs.Prelude.{is_some}
use Rattle.std.specs.List.{All}
use Rattle.std.proofs.lemmas.List.Elements.{All-head, All-tail, All-map, All-weaker}
use Rattle.rtx_tree.specs.Memories.{byte_at, with_byte, with_byte_here}
use Rattle.rtx_tree.specs.declared.machine.RangeAt.{RangeAt}
use Rattle.rtx_tree.specs.declared.memories.MemByte.{MemByte}
use Rattle.rtx_tree.proofs.MemoryPlaces.{ordered_stays}
use Rattle.rtx_tree.proofs.MemoryWrites.{byte_at-with_byte, byte_at-with_byte_other, byte_at-with_byte_same}
use Rattle.run_memory.specs.RunMemory.{written, visible, is_visible}
use Rattle.law_window_runs.specs.same_behaviour.Lawful.{IsByte, IsMemory}
use Rattle.law_window_runs.proofs.same_behaviour.Entry.{same_or_not}
use Rattle.law_window_runs.specs.Beside.{Within}

-- ---- it stays a memory

byte_stays : (address byte : ℕ) → byte < 2 ^ 8 → (b : MemByte) → IsByte b → IsByte (with_byte_here address byte b)
byte_stays address byte small b is = record { address = is.address; byte = chosen (b.address == address) }
  where
    chosen : (here : Bool) → (if here then byte else b.byte) < 2 ^ 8
    chosen true = small
    chosen false = is.byte

pub memory_with : (memory : List MemByte) (address byte : ℕ) → byte < 2 ^ 8 → IsMemory memory → IsMemory (with_byte memory address byte)
memory_with memory address byte small is = record {
  ordered = ordered_stays memory address byte is.ordered;
  bytes = All-map IsByte (with_byte_here address byte) memory
      (All-weaker IsByte (λ b. IsByte (with_byte_here address byte b)) (byte_stays address byte small) memory is.bytes);
}

pub memory_written : (writes memory : List MemByte) → All IsByte writes → IsMemory memory → IsMemory (written writes memory)
memory_written [] memory small is = is
memory_written (w ∷ writes) memory small is = memory_written writes (with_byte memory w.address w.byte) (All-tail IsByte w writes small)
    (memory_with memory w.address w.byte (All-head IsByte w writes small).byte is)

-- ---- what the one has, the other has

within_here : (memory other : List MemByte) (at byte b : ℕ) (old : Option ℕ) → byte_at memory at ≡ old → Within memory other →
    byte_at (with_byte memory at byte) at ≡ Some b → byte_at (with_byte other at byte) at ≡ Some b
within_here memory other at byte b None is within has =
    absurd (let both : true ≡ false = sym (ap is_some has) ∙ byte_at-with_byte_same memory at byte ∙ ap is_some is in let no : ⊥ = cc in no)
within_here memory other at byte b (Some old) is within has =
    byte_at-with_byte other at byte old (within at old is) ∙ sym (byte_at-with_byte memory at byte old is) ∙ has

within_with : (memory other : List MemByte) (at byte : ℕ) → Within memory other →
    Within (with_byte memory at byte) (with_byte other at byte)
within_with memory other at byte within address b has = ⊎_elim
    (λ (same : address ≡ at). subst
    (λ a. byte_at (with_byte memory at byte) a ≡ Some b → byte_at (with_byte other at byte) a ≡ Some b) (sym same)
    (within_here memory other at byte b (byte_at memory at) refl within) has)
    (λ differ. byte_at-with_byte_other other at byte address differ ∙
    within address b (sym (byte_at-with_byte_other memory at byte address differ) ∙ has))
    (same_or_not address at)

pub within_written : (writes memory other : List MemByte) → Within memory other → Within (written writes memory) (written writes other)
within_written [] memory other within = within
within_written (w ∷ writes) memory other within =
    within_written writes (with_byte memory w.address w.byte) (with_byte other w.address w.byte)
    (within_with memory other w.address w.byte within)

-- ---- what is seen of it

visible_with : (ranges : List RangeAt) (memory : List MemByte) (at byte : ℕ) →
    visible ranges (with_byte memory at byte) ≡ with_byte (visible ranges memory) at byte
visible_with ranges [] at byte = refl
visible_with ranges (b ∷ memory) at byte = seen (is_visible ranges b.address) (visible_with ranges memory at byte)
  where
    seen : (is : Bool) → visible ranges (with_byte memory at byte) ≡ with_byte (visible ranges memory) at byte →
        cond is (with_byte_here at byte b ∷ visible ranges (with_byte memory at byte)) (visible ranges (with_byte memory at byte)) ≡
        with_byte (cond is (b ∷ visible ranges memory) (visible ranges memory)) at byte
    seen true rest = ap (λ m. with_byte_here at byte b ∷ m) rest
    seen false rest = rest

pub visible_written : (ranges : List RangeAt) (writes memory other : List MemByte) → visible ranges other ≡ visible ranges memory →
    visible ranges (written writes other) ≡ visible ranges (written writes memory)
visible_written ranges [] memory other same = same
visible_written ranges (w ∷ writes) memory other same =
    visible_written ranges writes (with_byte memory w.address w.byte) (with_byte other w.address w.byte)
    (visible_with ranges other w.address w.byte ∙ ap (λ m. with_byte m w.address w.byte) same ∙
    sym (visible_with ranges memory w.address w.byte))
