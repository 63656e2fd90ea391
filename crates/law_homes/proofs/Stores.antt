-- Stores and loads: what a narrower load has behind a store at its place; stores that are apart; and what a caller sees of a store.
use Rattle.std.proofs.Common.{◌≡◌, ◌≢◌, ℕ, zero, suc, ◌+◌, ◌*◌, ◌/◌, ◌%◌, ◌^◌, ◌<◌, ◌≤◌, ⊎_elim, inl, inr, Bool, true, false, cond, List, [], ◌∷◌, refl, sym, ap, subst, ◌∙◌, arith}
use Rattle.std.proofs.lemmas.Bool.Decides.{nat_tests}
use Rattle.std.proofs.lemmas.Bool.{false≢true}
use Rattle.std.specs.Prelude.{Option, Some, None, is_some, option_map, option_and_then, if◌then◌else◌}
use Rattle.bits64.specs.declared.Width.{Width}
use Rattle.bits64.specs.declared.Width.TheVariants.{W8, W16, W32, W64}
use Rattle.bits64.specs.Words.{bits_of, bytes_of, low}
use Rattle.rtx_tree.specs.Memories.{byte_at, with_byte, with_byte_here}
use Rattle.rtx_tree.specs.declared.machine.RangeAt.{RangeAt}
use Rattle.rtx_tree.specs.declared.memories.MemByte.{MemByte}
use Rattle.rtx_tree.proofs.MemoryWrites.{byte_at-with_byte, byte_at-with_byte_same, byte_at-with_byte_other, has-with_byte, with_byte_missing}
use Rattle.run_memory.specs.RunMemory.{number_at, with_number, is_aligned, load, visible, is_visible}
use Rattle.run_memory.proofs.Laws.{Apart, byte_at-with_number_other, low_bytes, pow-pos, pow_step}
use Rattle.same_behaviour.proofs.Entry.{same_or_not}
use Rattle.law_window_runs.specs.Beside.{Within}

-- ---- a number's bytes, and the number without the higher ones

joined : Option ℕ → Option ℕ → Option ℕ
joined byte rest = option_and_then (λ b. option_map (λ r. b + 256 * r) rest) byte

parts_there : (byte rest : Option ℕ) → is_some (joined byte rest) ≡ true → (is_some byte ≡ true) × (is_some rest ≡ true)
unfolding joined
parts_there None rest is = absurd (false≢true is)
parts_there (Some b) None is = absurd (false≢true is)
parts_there (Some b) (Some r) is = (refl, refl)

both_there : (byte rest : Option ℕ) → is_some byte ≡ true → is_some rest ≡ true → is_some (joined byte rest) ≡ true
unfolding joined
both_there None rest first more = absurd (false≢true first)
both_there (Some b) None first more = absurd (false≢true more)
both_there (Some b) (Some r) first more = refl

value_there : (o : Option ℕ) → is_some o ≡ true → (x : ℕ) × (o ≡ Some x)
value_there None is = absurd (false≢true is)
value_there (Some x) is = (x, refl)

-- fewer bytes are there
pub fewer_there : (memory : List MemByte) (address fewer count : ℕ) → fewer ≤ count → is_some (number_at memory address count) ≡ true →
    is_some (number_at memory address fewer) ≡ true
unfolding joined
fewer_there memory address zero count few there = refl
fewer_there memory address (suc fewer) zero few there = absurd (omega (arith, few))
fewer_there memory address (suc fewer) (suc count) few there =
    let parts = parts_there (byte_at memory address) (number_at memory (address + 1) count) there in
    both_there (byte_at memory address) (number_at memory (address + 1) fewer) parts.0
    (fewer_there memory (address + 1) fewer count (omega (arith, few)) parts.1)

-- where each byte is there, the number is, and where the number is, each byte is there
pub all_there : (memory : List MemByte) (address count : ℕ) →
    ((place : ℕ) → address ≤ place → place < address + count → is_some (byte_at memory place) ≡ true) → is_some (number_at memory address count) ≡ true
unfolding joined
all_there memory address zero each = refl
all_there memory address (suc count) each =
    both_there (byte_at memory address) (number_at memory (address + 1) count) (each address (omega arith) (omega arith))
    (all_there memory (address + 1) count (λ place least most. each place (omega (arith, least)) (omega (arith, most))))

pub each_there : (memory : List MemByte) (address count : ℕ) → is_some (number_at memory address count) ≡ true →
    (place : ℕ) → address ≤ place → place < address + count → is_some (byte_at memory place) ≡ true
unfolding joined
each_there memory address zero there place least most = absurd (omega (arith, least, most))
each_there memory address (suc count) there place least most =
    let parts = parts_there (byte_at memory address) (number_at memory (address + 1) count) there in
    ⊎_elim
    (λ (same : address ≡ place). subst (λ a. is_some (byte_at memory a) ≡ true) same parts.0)
    (λ (other : address ≢ place). each_there memory (address + 1) count parts.1 place (omega (arith, least, other)) (omega (arith, most)))
    (same_or_not address place)

-- memories with the same addresses have numbers at the same places
pub there_alike : (memory other : List MemByte) → ((q : ℕ) → is_some (byte_at memory q) ≡ is_some (byte_at other q)) → (address count : ℕ) →
    is_some (number_at memory address count) ≡ true → is_some (number_at other address count) ≡ true
unfolding joined
there_alike memory other same address zero there = refl
there_alike memory other same address (suc count) there =
    let parts = parts_there (byte_at memory address) (number_at memory (address + 1) count) there in
    both_there (byte_at other address) (number_at other (address + 1) count) (sym (same address) ∙ parts.0)
    (there_alike memory other same (address + 1) count parts.1)

-- of a number that is written, fewer bytes are its low ones
pub fewer_written : (memory : List MemByte) (address fewer count number : ℕ) → fewer ≤ count → is_some (number_at memory address count) ≡ true →
    number_at (with_number memory address count number) address fewer ≡ Some (number % 256 ^ fewer)
unfolding joined
fewer_written memory address zero count number few there = let e : 0 ≡ number % 256 ^ 0 = omega arith in ap Some e
fewer_written memory address (suc fewer) zero number few there = absurd (omega (arith, few))
fewer_written memory address (suc fewer) (suc count) number few there =
    let after : List MemByte = with_byte memory address (number % 256) in
    let parts = parts_there (byte_at memory address) (number_at memory (address + 1) count) there in
    let old = value_there (byte_at memory address) parts.0 in
    let apart : Apart (address + 1) count address 1 = inr (omega arith) in
    let byte = byte_at-with_number_other after (address + 1) count (number / 256) address apart ∙ byte_at-with_byte memory address (number % 256) old.0 old.1 in
    let still = there_alike memory after (λ q. sym (has-with_byte memory address (number % 256) q)) (address + 1) count parts.1 in
    let rest = fewer_written after (address + 1) fewer count (number / 256) (omega (arith, few)) still in
    ap (λ b. joined b (number_at (with_number after (address + 1) count (number / 256)) (address + 1) fewer)) byte
    ∙ (ap (joined (Some (number % 256))) rest
    ∙ ap Some (low_bytes number (256 ^ fewer) (pow-pos fewer) ∙ ap (λ n. number % n) (pow_step fewer)))

-- ---- loads

-- no more bytes than another width
abbrev pub IsWithin : Width → Width → Type 0
IsWithin w v = bytes_of w ≤ bytes_of v

pub bytes_bits : (w : Width) → 256 ^ bytes_of w ≡ 2 ^ bits_of w
bytes_bits W8 = refl
bytes_bits W16 = refl
bytes_bits W32 = refl
bytes_bits W64 = refl

if_true : (b : Bool) (o : Option ℕ) → is_some (if b then o else None) ≡ true → (b ≡ true) × (is_some o ≡ true)
if_true true o there = (refl, there)
if_true false o there = absurd (false≢true there)

narrower_aligned : (w v : Width) (address : ℕ) → IsWithin w v → is_aligned v address ≡ true → is_aligned w address ≡ true
narrower_aligned W8 v address within aligned = grind (arith, nat_tests)
narrower_aligned W16 W8 address within aligned = absurd (omega (arith, within))
narrower_aligned W16 W16 address within aligned = aligned
narrower_aligned W16 W32 address within aligned = grind (arith, nat_tests, aligned)
narrower_aligned W16 W64 address within aligned = grind (arith, nat_tests, aligned)
narrower_aligned W32 W8 address within aligned = absurd (omega (arith, within))
narrower_aligned W32 W16 address within aligned = absurd (omega (arith, within))
narrower_aligned W32 W32 address within aligned = aligned
narrower_aligned W32 W64 address within aligned = grind (arith, nat_tests, aligned)
narrower_aligned W64 W8 address within aligned = absurd (omega (arith, within))
narrower_aligned W64 W16 address within aligned = absurd (omega (arith, within))
narrower_aligned W64 W32 address within aligned = absurd (omega (arith, within))
narrower_aligned W64 W64 address within aligned = aligned

-- a load of no more bytes has a value where the wider one has
pub narrower_there : (w v : Width) (memory : List MemByte) (address : ℕ) → IsWithin w v → is_some (load v memory address) ≡ true →
    is_some (load w memory address) ≡ true
narrower_there w v memory address within there =
    let parts = if_true (is_aligned v address) (number_at memory address (bytes_of v)) there in
    ap (λ b. is_some (if b then number_at memory address (bytes_of w) else None)) (narrower_aligned w v address within parts.0)
    ∙ fewer_there memory address (bytes_of w) (bytes_of v) within parts.1

-- each byte of a load is there
pub load_each : (w : Width) (memory : List MemByte) (address : ℕ) → is_some (load w memory address) ≡ true →
    (place : ℕ) → address ≤ place → place < address + bytes_of w → is_some (byte_at memory place) ≡ true
load_each w memory address there =
    each_there memory address (bytes_of w) (if_true (is_aligned w address) (number_at memory address (bytes_of w)) there).1

-- eight bytes that are there, from a multiple of 8 on, have room for a load in each width
eight_aligned : (address : ℕ) → address % 8 ≡ 0 → is_aligned W64 address ≡ true
eight_aligned address even = grind (arith, nat_tests, even)

pub eight_bytes : (w : Width) → bytes_of w ≤ 8
eight_bytes W8 = omega arith
eight_bytes W16 = omega arith
eight_bytes W32 = omega arith
eight_bytes W64 = omega arith

pub slot_there : (memory : List MemByte) (address : ℕ) → address % 8 ≡ 0 →
    ((place : ℕ) → address ≤ place → place < address + 8 → is_some (byte_at memory place) ≡ true) → (w : Width) →
    is_some (load w memory address) ≡ true
slot_there memory address even each w =
    narrower_there w W64 memory address (eight_bytes w)
    (ap (λ b. is_some (if b then number_at memory address 8 else None)) (eight_aligned address even) ∙ all_there memory address 8 each)

-- and behind a store it has the low bits of what was stored
pub narrower_stored : (w v : Width) (memory : List MemByte) (address number : ℕ) → IsWithin w v → is_some (load v memory address) ≡ true →
    load w (with_number memory address (bytes_of v) number) address ≡ Some (low w number)
narrower_stored w v memory address number within there =
    let parts = if_true (is_aligned v address) (number_at memory address (bytes_of v)) there in
    ap (λ b. if b then number_at (with_number memory address (bytes_of v) number) address (bytes_of w) else None)
    (narrower_aligned w v address within parts.0)
    ∙ (fewer_written memory address (bytes_of w) (bytes_of v) number within parts.1
    ∙ ap (λ n. Some (number % n)) (bytes_bits w))

-- ---- stores that are apart commute

bytes_apart : (memory : List MemByte) (a x b y : ℕ) → a ≢ b → with_byte (with_byte memory b y) a x ≡ with_byte (with_byte memory a x) b y
bytes_apart [] a x b y apart = refl
bytes_apart (e ∷ memory) a x b y apart = grind (arith, nat_tests, bytes_apart memory a x b y apart)

byte_apart : (memory : List MemByte) (a count x b y : ℕ) → Apart a count b 1 →
    with_number (with_byte memory b y) a count x ≡ with_byte (with_number memory a count x) b y
byte_apart memory a zero x b y apart = refl
byte_apart memory a (suc count) x b y apart =
    let above : Apart (a + 1) count b 1 = ⊎_elim (λ (h : a + suc count ≤ b). inl (omega arith)) (λ (h : b + 1 ≤ a). inr (omega arith)) apart in
    let differ : a ≢ b = λ same. ⊎_elim (λ (h : a + suc count ≤ b). let no : ⊥ = omega arith in no) (λ (h : b + 1 ≤ a). let no : ⊥ = omega arith in no) apart in
    ap (λ m. with_number m (a + 1) count (x / 256)) (bytes_apart memory a (x % 256) b y differ)
    ∙ byte_apart (with_byte memory a (x % 256)) (a + 1) count (x / 256) b y above

pub stores_apart : (memory : List MemByte) (a count x b length y : ℕ) → Apart a count b length →
    with_number (with_number memory b length y) a count x ≡ with_number (with_number memory a count x) b length y
stores_apart memory a count x b zero y apart = refl
stores_apart memory a count x b (suc length) y apart =
    let here : Apart a count b 1 = ⊎_elim (λ (h : a + count ≤ b). inl h) (λ (h : b + suc length ≤ a). inr (omega arith)) apart in
    let above : Apart a count (b + 1) length = ⊎_elim (λ (h : a + count ≤ b). inl (omega arith)) (λ (h : b + suc length ≤ a). inr (omega arith)) apart in
    stores_apart (with_byte memory b (y % 256)) a count x (b + 1) length (y / 256) above
    ∙ ap (λ m. with_number m (b + 1) length (y / 256)) (byte_apart memory a count x b (y % 256) here)

-- ---- what a caller sees of a store

module _ (ranges : List RangeAt) where
  byte_seen : (memory : List MemByte) (address byte : ℕ) → visible ranges (with_byte memory address byte) ≡ with_byte (visible ranges memory) address byte
  byte_seen [] address byte = refl
  byte_seen (b ∷ memory) address byte = by (is_visible ranges b.address) (byte_seen memory address byte)
    where
      by : (seen : Bool) → visible ranges (with_byte memory address byte) ≡ with_byte (visible ranges memory) address byte →
          cond seen (with_byte_here address byte b ∷ visible ranges (with_byte memory address byte)) (visible ranges (with_byte memory address byte))
          ≡ with_byte (cond seen (b ∷ visible ranges memory) (visible ranges memory)) address byte
      by true rest = ap (λ m. with_byte_here address byte b ∷ m) rest
      by false rest = rest

  -- the store is one in what is seen
  pub store_seen : (memory : List MemByte) (address count number : ℕ) →
      visible ranges (with_number memory address count number) ≡ with_number (visible ranges memory) address count number
  store_seen memory address zero number = refl
  store_seen memory address (suc count) number =
      store_seen (with_byte memory address (number % 256)) (address + 1) count (number / 256)
      ∙ ap (λ m. with_number m (address + 1) count (number / 256)) (byte_seen memory address (number % 256))

  hidden_byte : (memory : List MemByte) (address : ℕ) → is_visible ranges address ≡ false → byte_at (visible ranges memory) address ≡ None
  hidden_byte [] address hidden = refl
  hidden_byte (b ∷ memory) address hidden = by (is_visible ranges b.address) refl (hidden_byte memory address hidden)
    where
      other : is_visible ranges b.address ≡ true → b.address ≢ address
      other seen same = false≢true (sym hidden ∙ ap (is_visible ranges) (sym same) ∙ seen)

      by : (seen : Bool) → is_visible ranges b.address ≡ seen → byte_at (visible ranges memory) address ≡ None →
          byte_at (cond seen (b ∷ visible ranges memory) (visible ranges memory)) address ≡ None
      by true seen rest = let differ = other seen in grind (arith, nat_tests, differ, rest)
      by false seen rest = rest

  hidden_with : (memory : List MemByte) (address byte : ℕ) → is_visible ranges address ≡ false →
      visible ranges (with_byte memory address byte) ≡ visible ranges memory
  hidden_with memory address byte hidden =
      byte_seen memory address byte ∙ with_byte_missing (visible ranges memory) address byte (hidden_byte memory address hidden)

  -- a store where nothing is seen leaves what is seen
  pub store_hidden : (memory : List MemByte) (address count number : ℕ) →
      ((place : ℕ) → address ≤ place → place < address + count → is_visible ranges place ≡ false) →
      visible ranges (with_number memory address count number) ≡ visible ranges memory
  store_hidden memory address zero number hidden = refl
  store_hidden memory address (suc count) number hidden =
      store_hidden (with_byte memory address (number % 256)) (address + 1) count (number / 256)
      (λ place least most. hidden place (omega (arith, least)) (omega (arith, most)))
      ∙ hidden_with memory address (number % 256) (hidden address (omega arith) (omega arith))

-- ---- a memory within another

same_byte : (memory other : List MemByte) (address byte b : ℕ) (old : Option ℕ) → byte_at memory address ≡ old → Within memory other →
    byte_at (with_byte memory address byte) address ≡ Some b → byte_at (with_byte other address byte) address ≡ Some b
same_byte memory other address byte b None is within has =
    absurd (false≢true (sym (sym (ap is_some has) ∙ byte_at-with_byte_same memory address byte ∙ ap is_some is)))
same_byte memory other address byte b (Some old) is within has =
    byte_at-with_byte other address byte old (within address old is) ∙ sym (byte_at-with_byte memory address byte old is) ∙ has

byte_within : (memory other : List MemByte) (address byte : ℕ) → Within memory other → Within (with_byte memory address byte) (with_byte other address byte)
byte_within memory other address byte within place b has = ⊎_elim
    (λ (same : place ≡ address). subst (λ a. byte_at (with_byte memory address byte) a ≡ Some b → byte_at (with_byte other address byte) a ≡ Some b) (sym same)
    (same_byte memory other address byte b (byte_at memory address) refl within) has)
    (λ (differ : place ≢ address). byte_at-with_byte_other other address byte place differ ∙ within place b (sym (byte_at-with_byte_other memory address byte place differ) ∙ has))
    (same_or_not place address)

-- a store in both
pub store_within : (memory other : List MemByte) (address count number : ℕ) → Within memory other →
    Within (with_number memory address count number) (with_number other address count number)
store_within memory other address zero number within = within
store_within memory other address (suc count) number within =
    store_within (with_byte memory address (number % 256)) (with_byte other address (number % 256)) (address + 1) count (number / 256)
    (byte_within memory other address (number % 256) within)
