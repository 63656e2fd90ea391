-- A start of whose room below sp only the nearest bytes are there: a function with its locals among them sees of it what it sees of the
-- start, and where the start is lawful with a frame of all the room, this one is with a frame of the bytes that are there.
use Rattle.std.proofs.Common.{◌≡◌, ℕ, ◌≤◌, ◌&&◌, ◌||◌, not, arith, cond, Bool, true, false, List, [], ◌∷◌, refl, ap, ◌∙◌}
use Rattle.std.proofs.lemmas.Bool.{false≢true}
use Rattle.std.proofs.lemmas.Bool.Decides.{nat_tests}
use Rattle.std.proofs.lemmas.List.Elements.{All-weaker}
use Rattle.std.specs.List.{filter}
use Rattle.std.specs.Prelude.{if◌then◌else◌, is_some, IsSome, None}
use Rattle.rtx_tree.specs.Memories.{byte_at}
use Rattle.rtx_tree.specs.declared.machine.Reply.{Reply}
use Rattle.rtx_tree.specs.declared.machine.Start.{Start}
use Rattle.rtx_tree.specs.declared.machine.World.{World}
use Rattle.rtx_tree.specs.declared.memories.MemByte.{MemByte}
use Rattle.same_behaviour.specs.Lawful.{IsLawful, IsLawfulReply, IsLawfulWorld, is_below_sp, seen_by_rtl}
use Rattle.same_behaviour.proofs.Kept.{memory_kept}
use Rattle.law_function_kept.specs.Keeps.{IsMachineStart}
use Rattle.law_window_lines.proofs.Small.{or_true}
use Rattle.law_reload.proofs.law_homes.Entry.{kept_byte}

-- ---- a filter of a filter

-- what passes one test and then another passes both
filtered_twice : {X : Type 0} (first second both : X → Bool) (xs : List X) → ((x : X) → (first x && second x) ≡ both x) →
    filter second (filter first xs) ≡ filter both xs
filtered_twice first second both [] are = refl
filtered_twice first second both (x ∷ xs) are = by (first x) (are x) (filtered_twice first second both xs are)
  where
    by : (passes : Bool) → (passes && second x) ≡ both x → filter second (filter first xs) ≡ filter both xs →
        filter second (cond passes (x ∷ filter first xs) (filter first xs)) ≡ cond (both x) (x ∷ filter both xs) (filter both xs)
    by true is rest = ap (λ l. cond (second x) (x ∷ l) l) rest ∙ ap (λ b. cond b (x ∷ filter both xs) (filter both xs)) is
    by false is rest = rest ∙ ap (λ b. cond b (x ∷ filter both xs) (filter both xs)) is

-- of a room within a room within a room
passes_both : (widest middle inner : Bool) → (inner ≡ true → middle ≡ true) → (middle ≡ true → widest ≡ true) →
    ((not widest || middle) && (not middle || inner)) ≡ (not widest || inner)
passes_both true true inner out further = refl
passes_both true false true out further = absurd (false≢true (out refl))
passes_both true false false out further = refl
passes_both false true inner out further = absurd (false≢true (further refl))
passes_both false false inner out further = refl

module _ (frame size locals : ℕ) (start : Start) (holds : locals ≤ size) (enough : size ≤ frame) where
  below_more : (less more address : ℕ) → less ≤ more → is_below_sp start less address ≡ true → is_below_sp start more address ≡ true
  below_more less more address fits is = grind (arith, nat_tests, is, fits)

  abbrev near : Start
  near = seen_by_rtl frame size start

  abbrev is_near : ℕ → Bool
  is_near address = not (is_below_sp start frame address) || is_below_sp start size address

  -- a function sees of it what it sees of the start
  pub near_seen : seen_by_rtl size locals near ≡ seen_by_rtl frame locals start
  near_seen = ap (λ (memory : List MemByte). record start { vars = start.sp; memory = memory })
      (filtered_twice (λ (b : MemByte). is_near b.address)
      (λ b. not (is_below_sp start size b.address) || is_below_sp start locals b.address)
      (λ b. not (is_below_sp start frame b.address) || is_below_sp start locals b.address) start.memory
      (λ b. passes_both (is_below_sp start frame b.address) (is_below_sp start size b.address) (is_below_sp start locals b.address)
      (below_more locals size b.address holds) (below_more size frame b.address enough)))

  -- ---- it is lawful

  module _ (lawful : IsLawful frame locals start) where
    near_there : (address : ℕ) → is_below_sp start size address ≡ true → IsSome (byte_at near.memory address)
    near_there address inside =
        ap is_some (kept_byte is_near start.memory address)
        ∙ ap (λ b. is_some (if b then byte_at start.memory address else None))
        (ap (λ b. not (is_below_sp start frame address) || b) inside ∙ or_true (not (is_below_sp start frame address)))
        ∙ lawful.present address (below_more size frame address enough inside)

    pub near_lawful : IsLawful size locals near
    near_lawful = record {
      words = record {
        args = lawful.words.args;
        saved = lawful.words.saved;
        sp = lawful.words.sp;
        ra = lawful.words.ra;
      };
      memory = memory_kept is_near start.memory lawful.memory;
      aligned = lawful.aligned;
      holds = holds;
      above_zero = let above = lawful.above_zero in omega (arith, above, enough);
      present = near_there;
      ranges = lawful.ranges;
      visible_is = lawful.visible_is;
      apart = λ address inside. lawful.apart address (below_more size frame address enough inside);
    }

    near_reply : (reply : Reply) → IsLawfulReply start reply → IsLawfulReply near reply
    near_reply reply is = record { value = is.value; bytes = is.bytes; visible = is.visible }

    pub near_world : (world : World) → IsLawfulWorld start world → IsLawfulWorld near world
    near_world world is = record {
      symbols = is.symbols;
      replies = All-weaker (IsLawfulReply start) (IsLawfulReply near) near_reply world.replies is.replies;
    }

    -- ---- it is one of a machine

    pub near_machine : IsMachineStart near
    near_machine = record { words = near_lawful.words; vars = lawful.words.sp; memory = near_lawful.memory }
