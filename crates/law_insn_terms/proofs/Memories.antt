-- A store: memory behind it is the valuation's next memory, and the stores so far are those that the valuation has.
use Rattle.std.proofs.Common.{◌≡◌, ℕ, zero, suc, ◌+◌, ◌*◌, ◌-◌, ◌/◌, ◌%◌, ◌^◌, ◌<◌, ◌≤◌, inl, inr, nat_lt, Bool, true, false, List, [], ◌∷◌, ◌++◌, length, Option, Some, None, refl, sym, ◌∙◌, ap, subst, arith, tests}
use Rattle.std.specs.Prelude.{is_some, if◌then◌else◌}
use Rattle.std.proofs.Math.Nat.{div-div-eq-div-mul, pow-succ'}
use Rattle.bits64.specs.declared.Width.{Width}
use Rattle.bits64.specs.declared.Width.TheVariants.{W8, W16, W32, W64}
use Rattle.bits64.specs.Words.{bytes_of}
use Rattle.rtx_tree.specs.declared.memories.MemByte.{MemByte}
use Rattle.rtx_tree.specs.Memories.{byte_at, with_byte}
use Rattle.rtx_tree.proofs.MemoryWrites.{byte_at-with_byte, has-with_byte}
use Rattle.run_memory.specs.RunMemory.{number_at, with_number}
use Rattle.run_memory.proofs.Laws.{Apart, has-with_number, byte_at-with_number_other}
use Rattle.term_tree.specs.Tree.{width_of}
use Rattle.term_mean.specs.Meaning.{Valuation, mean}
use Rattle.term_mean.specs.Stores.{Store, byte_of, written, Follow, Stored}
use Rattle.law_insn_terms.specs.Needs.{First}
use Rattle.law_insn_terms.specs.Shows.{ShowsMemory}
use Rattle.law_insn_terms.proofs.Parts.{both_bytes}

-- memory n + 1 of the valuation is memory n with the store written
abbrev pub IsNext : Valuation → ℕ → Store → Type 0
IsNext v n s = (c : ℕ) → c < 2 ^ 64 → v.memory (suc n) c ≡ written (v.memory n) (bytes_of (width_of s.1)) (mean v s.0) (mean v s.1) c

follow_more : (v : Valuation) (n : ℕ) (stores : List Store) (s : Store) → Follow v n stores → IsNext v (n + length stores) s → Follow v n (stores ++ s ∷ [])
follow_more v n [] s follows next =
    let here : n + 0 ≡ n = omega arith in
    ((λ c less. subst (λ k. v.memory (suc k) c ≡ written (v.memory k) (bytes_of (width_of s.1)) (mean v s.0) (mean v s.1) c) here (next c less)), tt)
follow_more v n (t ∷ stores) s follows next =
    let there : n + suc (length stores) ≡ suc n + length stores = omega arith in
    (follows.0, follow_more v (suc n) stores s follows.1 (subst (λ k. IsNext v k s) there next))

pub one_more : (stores : List Store) (s : Store) → length (stores ++ s ∷ []) ≡ suc (length stores)
one_more [] s = refl
one_more (t ∷ stores) s = ap suc (one_more stores s)

-- one store more
pub stored_more : (v : Valuation) (stores : List Store) (s : Store) → Stored v stores → IsNext v (length stores) s → Stored v (stores ++ s ∷ [])
stored_more v stores s stored next = follow_more v 0 stores s stored (subst (λ k. IsNext v k s) (plus (length stores)) next)
  where
    plus : (k : ℕ) → k ≡ 0 + k
    plus k = omega arith

-- ---- the bytes of a number that is written

pub byte_inside : (memory : List MemByte) (address count number i : ℕ) → i < count → is_some (byte_at memory (address + i)) ≡ true →
    byte_at (with_number memory address count number) (address + i) ≡ Some (number / 256 ^ i % 256)
byte_inside memory address zero number i less there = absurd (omega (arith, less))
byte_inside memory address (suc count) number zero less there =
    let here : address + 0 ≡ address = omega arith in
    let first = some_of (byte_at memory (address + 0)) there in
    let there' : byte_at memory address ≡ Some first.0 = ap (byte_at memory) (sym here) ∙ first.1 in
    let after : List MemByte = with_byte memory address (number % 256) in
    let apart : Apart (address + 1) count address 1 = inr (omega arith) in
    let one : number ≡ number / 256 ^ 0 = sym (div_one number) in
    ap (byte_at (with_number memory address (suc count) number)) here
    ∙ byte_at-with_number_other after (address + 1) count (number / 256) address apart
    ∙ byte_at-with_byte memory address (number % 256) first.0 there'
    ∙ ap (λ n. Some (n % 256)) one
  where
    some_of : (o : Option ℕ) → is_some o ≡ true → (x : ℕ) × (o ≡ Some x)
    some_of None is = absurd (let no : ⊥ = cc in no)
    some_of (Some x) is = (x, refl)

    div_one : (n : ℕ) → n / 256 ^ 0 ≡ n
    div_one n = omega arith
byte_inside memory address (suc count) number (suc i) less there =
    let next : address + suc i ≡ address + 1 + i = omega arith in
    let after : List MemByte = with_byte memory address (number % 256) in
    let there' : is_some (byte_at after (address + 1 + i)) ≡ true = has-with_byte memory address (number % 256) (address + 1 + i) ∙ ap (λ a. is_some (byte_at memory a)) (sym next) ∙ there in
    ap (byte_at (with_number memory address (suc count) number)) next
    ∙ byte_inside after (address + 1) count (number / 256) i (omega (arith, less)) there'
    ∙ ap (λ n. Some (n % 256)) (div-div-eq-div-mul number 256 (256 ^ i) ∙ ap (λ n. number / n) (sym (power i)))
  where
    power : (i : ℕ) → 256 ^ suc i ≡ 256 * 256 ^ i
    power i = rw pow-succ' refl

-- ---- the memory behind a store

both_some : (byte rest : Option ℕ) → is_some (both_bytes byte rest) ≡ true → (is_some byte ≡ true) × (is_some rest ≡ true)
unfolding both_bytes
both_some None rest is = absurd (let no : ⊥ = cc in no)
both_some (Some b) None is = absurd (let no : ⊥ = cc in no)
both_some (Some b) (Some r) is = (refl, refl)

-- each byte of a number that is there is there
all_there : (memory : List MemByte) (address count i : ℕ) → is_some (number_at memory address count) ≡ true → i < count → is_some (byte_at memory (address + i)) ≡ true
unfolding both_bytes
all_there memory address zero i is less = absurd (omega (arith, less))
all_there memory address (suc count) zero is less =
    let here : address ≡ address + 0 = omega arith in
    ap (λ a. is_some (byte_at memory a)) (sym here) ∙ (both_some (byte_at memory address) (number_at memory (address + 1) count) is).0
all_there memory address (suc count) (suc i) is less =
    let next : address + 1 + i ≡ address + suc i = omega arith in
    ap (λ a. is_some (byte_at memory a)) (sym next) ∙ all_there memory (address + 1) count i (both_some (byte_at memory address) (number_at memory (address + 1) count) is).1 (omega (arith, less))

some_of : (o : Option ℕ) → is_some o ≡ true → (x : ℕ) × (o ≡ Some x)
some_of None is = absurd (let no : ⊥ = cc in no)
some_of (Some x) is = (x, refl)

bytes_few : (w : Width) → (0 < bytes_of w) × (bytes_of w ≤ 8)
bytes_few W8 = (omega arith, omega arith)
bytes_few W16 = (omega arith, omega arith)
bytes_few W32 = (omega arith, omega arith)
bytes_few W64 = (omega arith, omega arith)

place_inside : (address count c : ℕ) → address ≤ c → c < address + count → count ≤ 8 → c < 2 ^ 64 → (c + (2 ^ 64 - address % 2 ^ 64)) % 2 ^ 64 ≡ c - address
place_inside address count c least most few word = omega arith

place_above : (address count c : ℕ) → c < 2 ^ 64 → address + count ≤ c → (c + (2 ^ 64 - address % 2 ^ 64)) % 2 ^ 64 ≡ c - address
place_above address count c word above = omega arith

place_below : (address c : ℕ) → c < address → address < 2 ^ 64 → (c + (2 ^ 64 - address % 2 ^ 64)) % 2 ^ 64 ≡ c + 2 ^ 64 - address
place_below address c below word = omega arith

module _ (v : Valuation) (f : First) (memory : List MemByte) (n : ℕ) (shows : ShowsMemory v f memory n) (w : Width) (address number : ℕ)
    (there : is_some (number_at memory address (bytes_of w)) ≡ true)
    (next : (c : ℕ) → c < 2 ^ 64 → v.memory (suc n) c ≡ written (v.memory n) (bytes_of w) address number c) where
  abbrev after : List MemByte
  after = with_number memory address (bytes_of w) number

  word_of : (c : ℕ) → is_some (byte_at memory c) ≡ true → c < 2 ^ 64
  word_of c is = let byte = some_of (byte_at memory c) is in shows.words c byte.0 byte.1

  -- the last byte has an address of 64 bits
  whole : address + bytes_of w ≤ 2 ^ 64
  whole =
      let few = bytes_few w in
      let last : bytes_of w - 1 < bytes_of w = omega (arith, few.0) in
      let word : address + (bytes_of w - 1) < 2 ^ 64 = word_of (address + (bytes_of w - 1)) (all_there memory address (bytes_of w) (bytes_of w - 1) there last) in
      omega (arith, word, few.0)

  kept_has : (c : ℕ) → is_some (byte_at after c) ≡ is_some (byte_at memory c)
  kept_has c = has-with_number memory address (bytes_of w) number c

  has_old : (c byte : ℕ) → byte_at after c ≡ Some byte → is_some (byte_at memory c) ≡ true
  has_old c byte is = sym (kept_has c) ∙ ap is_some is

  inside_byte : (c byte : ℕ) → byte_at after c ≡ Some byte → address ≤ c → c < address + bytes_of w → (byte ≡ v.memory (suc n) c) × (byte < 256)
  inside_byte c byte is least most =
      let few = bytes_few w in
      let i : ℕ = c - address in
      let at : address + i ≡ c = omega (arith, least) in
      let less : i < bytes_of w = omega (arith, least, most) in
      let word : c < 2 ^ 64 = word_of c (has_old c byte is) in
      let has : is_some (byte_at memory (address + i)) ≡ true = ap (λ a. is_some (byte_at memory a)) at ∙ has_old c byte is in
      let new : byte_at after c ≡ Some (number / 256 ^ i % 256) = ap (byte_at after) (sym at) ∙ byte_inside memory address (bytes_of w) number i less has in
      let same : byte ≡ number / 256 ^ i % 256 = let e : Some byte ≡ Some (number / 256 ^ i % 256) = sym is ∙ new in cc in
      let place : (c + (2 ^ 64 - address % 2 ^ 64)) % 2 ^ 64 ≡ i = place_inside address (bytes_of w) c least most few.1 word in
      let lies : nat_lt i (bytes_of w) ≡ true = grind (arith, tests, less) in (
        same
            ∙ sym (next c word
            ∙ ap (λ p. if nat_lt p (bytes_of w) then byte_of number p else v.memory n c) place
            ∙ ap (λ b. if b then byte_of number i else v.memory n c) lies),
        omega (arith, same),
      )

  outside_byte : (c byte : ℕ) → byte_at after c ≡ Some byte → Apart address (bytes_of w) c 1 →
      nat_lt ((c + (2 ^ 64 - address % 2 ^ 64)) % 2 ^ 64) (bytes_of w) ≡ false → (byte ≡ v.memory (suc n) c) × (byte < 256)
  outside_byte c byte is apart lies =
      let word : c < 2 ^ 64 = word_of c (has_old c byte is) in
      let old : byte_at memory c ≡ Some byte = sym (byte_at-with_number_other memory address (bytes_of w) number c apart) ∙ is in (
        shows.bytes c byte old
            ∙ sym (next c word ∙ ap (λ b. if b then byte_of number ((c + (2 ^ 64 - address % 2 ^ 64)) % 2 ^ 64) else v.memory n c) lies),
        shows.small c byte old,
      )

  byte_by : (c byte : ℕ) (below past : Bool) → nat_lt c address ≡ below → nat_lt c (address + bytes_of w) ≡ past → byte_at after c ≡ Some byte → (byte ≡ v.memory (suc n) c) × (byte < 256)
  byte_by c byte true past less more is =
      let lower : c < address = grind (arith, tests, less) in
      let few = bytes_few w in
      let first : address + 0 < 2 ^ 64 = word_of (address + 0) (all_there memory address (bytes_of w) 0 there few.0) in
      let place = place_below address c lower (omega (arith, first)) in
      let all = whole in
      let far : bytes_of w ≤ c + 2 ^ 64 - address = omega (arith, all, first) in
      let lies : nat_lt (c + 2 ^ 64 - address) (bytes_of w) ≡ false = grind (arith, tests, far) in
      outside_byte c byte is (inr (omega (arith, lower))) (ap (λ p. nat_lt p (bytes_of w)) place ∙ lies)
  byte_by c byte false true less more is = inside_byte c byte is (grind (arith, tests, less)) (grind (arith, tests, more))
  byte_by c byte false false less more is =
      let upper : address + bytes_of w ≤ c = grind (arith, tests, more) in
      let word : c < 2 ^ 64 = word_of c (has_old c byte is) in
      let far : bytes_of w ≤ c - address = omega (arith, upper) in
      let lies : nat_lt (c - address) (bytes_of w) ≡ false = grind (arith, tests, far) in
      outside_byte c byte is (inl upper) (ap (λ p. nat_lt p (bytes_of w)) (place_above address (bytes_of w) c word upper) ∙ lies)

  byte_is : (c byte : ℕ) → byte_at after c ≡ Some byte → (byte ≡ v.memory (suc n) c) × (byte < 256)
  byte_is c byte is = byte_by c byte (nat_lt c address) (nat_lt c (address + bytes_of w)) refl refl is

  -- the memory behind the store is shown as the next one
  pub shows_stored : ShowsMemory v f after (suc n)
  shows_stored = record {
    bytes = λ c byte is. (byte_is c byte is).0;
    small = λ c byte is. (byte_is c byte is).1;
    words = λ c byte is. word_of c (has_old c byte is);
    addresses = λ c. kept_has c ∙ shows.addresses c;
  }
