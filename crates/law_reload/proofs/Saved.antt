-- A lawful start with what a frame saves at its places is lawful, and a function sees of it what it
-- sees of the start.
use Rattle.std.proofs.Common.{◌≡◌, ℕ, zero, suc, ◌+◌, ◌-◌, ◌<◌, ◌==◌, ◌||◌, cond, not, if◌then◌else◌, Bool, true, false, List, [], ◌∷◌, Option, Some, None, refl, sym, ap, subst, ◌∙◌, arith}
use Rattle.std.proofs.lemmas.Bool.{false≢true, eqb-true}
use Rattle.std.proofs.lemmas.List.Elements.{All-weaker}
use Rattle.std.specs.List.{filter}
use Rattle.std.specs.Prelude.{is_some, option_map, unwrap_or, ◌%◌, ◌/◌}
use Rattle.bits64.specs.declared.Width.TheVariants.{W64}
use Rattle.rtx_tree.specs.Memories.{with_byte, with_byte_here}
use Rattle.rtx_tree.specs.declared.machine.Reply.{Reply}
use Rattle.rtx_tree.specs.declared.machine.Start.{Start}
use Rattle.rtx_tree.specs.declared.machine.World.{World}
use Rattle.rtx_tree.specs.declared.memories.MemByte.{MemByte}
use Rattle.run_memory.specs.RunMemory.{load, with_number}
use Rattle.run_memory.proofs.Laws.{has-load_stored}
use Rattle.rtl_step.specs.declared.effect.Effect.TheVariants.{Stores}
use Rattle.same_behaviour.specs.Lawful.{IsMemory, IsLawful, IsLawfulReply, IsLawfulWorld, is_below_sp, seen_by_rtl}
use Rattle.assign.specs.declared.places.Layout.{Layout}
use Rattle.assign.specs.declared.places.SavedAt.{SavedAt}
use Rattle.law_reload_moves.proofs.law_window_replaced.Memory.{memory_effects}
use Rattle.law_reload_moves.specs.law_frame.Keeps.{held_at_entry, with_words, with_saved, IsLaidOut}
use Rattle.law_reload_moves.proofs.law_frame.Layouts.{in_room, no_local, word_there, HavePlaces, all_places}
use Rattle.law_reload_moves.proofs.law_frame.Words.{words_there}

-- ---- bytes that a test lets through

abbrev part : (ℕ → Bool) → List MemByte → List MemByte
part test memory = filter (λ (b : MemByte). test b.address) memory

-- a byte that does not pass may be written
part_byte : (test : ℕ → Bool) (memory : List MemByte) (address byte : ℕ) → test address ≡ false →
    part test (with_byte memory address byte) ≡ part test memory
part_byte test [] address byte out = refl
part_byte test (b ∷ memory) address byte out = by (test b.address) (b.address == address) refl refl
    (part_byte test memory address byte out)
  where
    by : (passes here : Bool) → test b.address ≡ passes → (b.address == address) ≡ here →
        part test (with_byte memory address byte) ≡ part test memory →
        cond passes (with_byte_here address byte b ∷ part test (with_byte memory address byte))
        (part test (with_byte memory address byte)) ≡
        cond passes (b ∷ part test memory) (part test memory)
    by false here is at same = same
    by true true is at same = absurd (false≢true (sym out ∙
        ap test (sym (eqb-true b.address address at)) ∙ is))
    by true false is at same =
        ap (λ (h : Bool). record { address = b.address; byte = if h then byte else b.byte } ∷ part
        test (with_byte memory address byte)) at
        ∙ ap (λ memory. b ∷ memory) same

part_number : (test : ℕ → Bool) (memory : List MemByte) (address count number : ℕ) →
    ((i : ℕ) → i < count → test (address + i) ≡ false) →
    part test (with_number memory address count number) ≡ part test memory
part_number test memory address zero number out = refl
part_number test memory address (suc count) number out =
    part_number test (with_byte memory address (number % 256)) (address + 1) count (number / 256)
    (λ i small.
    ap test (let here : address + 1 + i ≡ address + suc i = omega arith in here) ∙
    out (suc i) (omega (arith, small)))
    ∙ part_byte test memory address (number % 256) (ap test
    (let here : address ≡ address + 0 = omega arith in here) ∙ out 0 (omega arith))

-- a number is written where one can be loaded
word_memory : (memory : List MemByte) (at number : ℕ) (o : Option ℕ) → load W64 memory at ≡ o →
    is_some o ≡ true → IsMemory memory →
    IsMemory (with_number memory at 8 number)
word_memory memory at number None is there memory_is = absurd (false≢true there)
word_memory memory at number (Some old) is there memory_is =
    subst (λ o. IsMemory (unwrap_or (option_map (λ _. with_number memory at 8 number) o) memory)) is
    (memory_effects (Stores W64 at number ∷ []) memory memory_is)

-- ---- the start

module _ (start : Start) (locals : ℕ) (layout : Layout) (lawful : IsLawful layout.size locals start)
    (out : IsLaidOut locals layout) where
  abbrev base : ℕ
  base = start.sp - layout.size

  abbrev is_seen : ℕ → Bool
  is_seen address = not (is_below_sp start layout.size address) || is_below_sp start locals address

  unseen_by : (room local : Bool) → room ≡ true → local ≡ false → not room || local ≡ false
  unseen_by true local inside none = none
  unseen_by false local inside none = absurd (false≢true inside)

  -- a memory with some of what is saved
  record Stored (memory : List MemByte) : Type 0 where
    is_memory : IsMemory memory
    there : (at : ℕ) → is_some (load W64 memory at) ≡ is_some (load W64 start.memory at)
    seen : part is_seen memory ≡ part is_seen start.memory

  all_stored : (saved : List SavedAt) → HavePlaces start locals layout lawful saved →
      (memory : List MemByte) → Stored memory →
      Stored (with_words start base saved memory)
  all_stored [] have memory stored = stored
  all_stored (s ∷ saved) have memory stored =
      let at : ℕ = base + s.offset in
      let number : ℕ = held_at_entry start s.reg in
      let has : is_some (load W64 memory at) ≡ true =
      stored.there at ∙ word_there start locals layout lawful s.offset out.size_aligned
      have.0.aligned have.0.within in
      all_stored saved have.1 (with_number memory at 8 number) (record {
        is_memory = word_memory memory at number (load W64 memory at) refl has stored.is_memory;
        there = λ q. has-load_stored W64 W64 memory at number q ∙ stored.there q;
        seen = part_number is_seen memory at 8 number (λ i small.
            unseen_by (is_below_sp start layout.size (at + i)) (is_below_sp start locals (at + i))
            (in_room start locals layout lawful s.offset i have.0.within small)
            (no_local start locals layout lawful s.offset i have.0.within small))
            ∙ stored.seen;
      })

  abbrev saved_memory : List MemByte
  saved_memory = with_words start base layout.saved start.memory

  stored_all : Stored saved_memory
  stored_all = all_stored layout.saved (all_places start locals layout lawful out) start.memory
      (record { is_memory = lawful.memory; there = λ at. refl; seen = refl })

  pub saved_lawful : IsLawful layout.size locals (with_saved layout start)
  saved_lawful = record {
    words = record {
      args = lawful.words.args;
      saved = lawful.words.saved;
      sp = lawful.words.sp;
      ra = lawful.words.ra;
    };
    memory = stored_all.is_memory;
    aligned = lawful.aligned;
    holds = lawful.holds;
    above_zero = lawful.above_zero;
    present = λ address inside. words_there start base layout.saved start.memory address ∙
        lawful.present address inside;
    ranges = lawful.ranges;
    visible_is = lawful.visible_is;
    apart = lawful.apart;
  }

  -- what the function sees
  pub saved_seen : seen_by_rtl layout.size locals (with_saved layout start) ≡ seen_by_rtl
      layout.size locals start
  saved_seen = ap (λ (memory : List MemByte). record start { vars = start.sp; memory = memory })
      stored_all.seen

  reply_saved : (reply : Reply) → IsLawfulReply start reply →
      IsLawfulReply (with_saved layout start) reply
  reply_saved reply is = record { value = is.value; bytes = is.bytes; visible = is.visible }

  pub saved_world : (world : World) → IsLawfulWorld start world →
      IsLawfulWorld (with_saved layout start) world
  saved_world world is = record {
    symbols = is.symbols;
    replies = All-weaker (IsLawfulReply start) (IsLawfulReply (with_saved layout start)) reply_saved
        world.replies is.replies;
  }
