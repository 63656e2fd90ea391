-- What a load has after a store.
use Rattle.std.proofs.Common.{◌≡◌, ◌≢◌, ℕ, zero, suc, ◌+◌, ◌*◌, ◌/◌, ◌%◌, ◌^◌, ◌<◌, ◌≤◌, ◌&&◌, ◌⊎◌, ⊎_elim, inl, inr, Bool, true, false, if◌then◌else◌, List, [], ◌∷◌, refl, sym, ap, ◌∙◌, arith}
use Rattle.std.specs.Prelude.{Option, Some, None, is_some, option_map, option_and_then}
use Rattle.bits64.specs.declared.Width.{Width}
use Rattle.bits64.specs.declared.Width.TheVariants.{W8, W16, W32, W64}
use Rattle.bits64.specs.Words.{bits_of, bytes_of, low}
use mathlib.Core.Bool.{false≢true}
use Rattle.std.proofs.Math.Nat.{div-add-mod, mod-lt, mod-eq_of_lt, mul-add-mod_self_left, pow-succ'}
use Rattle.rtx_tree.specs.declared.memories.MemByte.{MemByte}
use Rattle.rtx_tree.specs.Memories.{byte_at, with_byte}
use Rattle.rtx_tree.proofs.MemoryWrites.{byte_at-with_byte, byte_at-with_byte_other, has-with_byte}
use Rattle.run_memory.specs.RunMemory.{number_at, with_number, is_aligned, load, written}

-- two accesses have no byte in common
abbrev pub Apart : ℕ → ℕ → ℕ → ℕ → Type 0
Apart address count other length = (address + count ≤ other) ⊎ (other + length ≤ address)

-- ---- which addresses memory has

pub has-with_number : (memory : List MemByte) (address count number other : ℕ) → is_some (byte_at (with_number memory address count number) other) ≡ is_some (byte_at memory other)
has-with_number memory address zero number other = refl
has-with_number memory address (suc count) number other =
    has-with_number (with_byte memory address (number % 256)) (address + 1) count (number / 256) other ∙ has-with_byte memory address (number % 256) other

pub has-written : (writes memory : List MemByte) (other : ℕ) → is_some (byte_at (written writes memory) other) ≡ is_some (byte_at memory other)
has-written [] memory other = refl
has-written (w ∷ writes) memory other = has-written writes (with_byte memory w.address w.byte) other ∙ has-with_byte memory w.address w.byte other

-- ---- a number after another is written elsewhere

pub byte_at-with_number_other : (memory : List MemByte) (address count number other : ℕ) → Apart address count other 1 → byte_at (with_number memory address count number) other ≡ byte_at memory other
byte_at-with_number_other memory address zero number other apart = refl
byte_at-with_number_other memory address (suc count) number other apart =
    let below : (address + 1 + count ≤ other) ⊎ (other + 1 ≤ address + 1) = ⊎_elim (λ (h : address + suc count ≤ other). inl (omega arith)) (λ (h : other + 1 ≤ address). inr (omega arith)) apart in
    let differ : other ≢ address = λ same. ⊎_elim (λ (h : address + suc count ≤ other). let no : ⊥ = omega arith in no) (λ (h : other + 1 ≤ address). let no : ⊥ = omega arith in no) apart in
    byte_at-with_number_other (with_byte memory address (number % 256)) (address + 1) count (number / 256) other below ∙ byte_at-with_byte_other memory address (number % 256) other differ

both_bytes : Option ℕ → Option ℕ → Option ℕ
both_bytes byte rest = option_and_then (λ b. option_map (λ r. b + 256 * r) rest) byte

pub number_at-with_number_other : (memory : List MemByte) (address count number other length : ℕ) → Apart address count other length → number_at (with_number memory address count number) other length ≡ number_at memory other length
unfolding both_bytes
number_at-with_number_other memory address count number other zero apart = refl
number_at-with_number_other memory address count number other (suc length) apart =
    let here : Apart address count other 1 = ⊎_elim (λ (h : address + count ≤ other). inl h) (λ (h : other + suc length ≤ address). inr (omega arith)) apart in
    let above : Apart address count (other + 1) length = ⊎_elim (λ (h : address + count ≤ other). inl (omega arith)) (λ (h : other + suc length ≤ address). inr (omega arith)) apart in
    ap (λ b. both_bytes b (number_at (with_number memory address count number) (other + 1) length)) (byte_at-with_number_other memory address count number other here)
    ∙ ap (both_bytes (byte_at memory other)) (number_at-with_number_other memory address count number (other + 1) length above)

-- a load elsewhere has what it had
pub load-stored_other : (w v : Width) (memory : List MemByte) (address number other : ℕ) → Apart address (bytes_of w) other (bytes_of v) → load v (with_number memory address (bytes_of w) number) other ≡ load v memory other
load-stored_other w v memory address number other apart =
    ap (λ (o : Option ℕ). if is_aligned v other then o else None) (number_at-with_number_other memory address (bytes_of w) number other (bytes_of v) apart)

-- ---- a number after it is written

both_has : (byte rest : Option ℕ) → is_some (both_bytes byte rest) ≡ (is_some byte && is_some rest)
unfolding both_bytes
both_has None rest = refl
both_has (Some b) None = refl
both_has (Some b) (Some r) = refl

-- memories with the same addresses have numbers in the same places
pub has-number : (memory other : List MemByte) → ((q : ℕ) → is_some (byte_at memory q) ≡ is_some (byte_at other q)) → (address count : ℕ) → is_some (number_at memory address count) ≡ is_some (number_at other address count)
unfolding both_bytes
has-number memory other same address zero = refl
has-number memory other same address (suc count) =
    both_has (byte_at memory address) (number_at memory (address + 1) count)
    ∙ (ap (λ b. b && is_some (number_at memory (address + 1) count)) (same address)
    ∙ (ap (λ b. is_some (byte_at other address) && b) (has-number memory other same (address + 1) count)
    ∙ sym (both_has (byte_at other address) (number_at other (address + 1) count))))

pub has-load_stored : (w v : Width) (memory : List MemByte) (address number other : ℕ) → is_some (load v (with_number memory address (bytes_of w) number) other) ≡ is_some (load v memory other)
has-load_stored w v memory address number other = by (is_aligned v other)
  where
    by : (b : Bool) → is_some (if b then number_at (with_number memory address (bytes_of w) number) other (bytes_of v) else None) ≡ is_some (if b then number_at memory other (bytes_of v) else None)
    by true = has-number _ memory (has-with_number memory address (bytes_of w) number) other (bytes_of v)
    by false = refl

pub has-load_written : (w : Width) (writes memory : List MemByte) (address : ℕ) → is_some (load w (written writes memory) address) ≡ is_some (load w memory address)
has-load_written w writes memory address = by (is_aligned w address)
  where
    by : (b : Bool) → is_some (if b then number_at (written writes memory) address (bytes_of w) else None) ≡ is_some (if b then number_at memory address (bytes_of w) else None)
    by true = has-number _ memory (has-written writes memory) address (bytes_of w)
    by false = refl

-- the low bytes of a number are its lowest and those above
pub pow_step : (count : ℕ) → 256 * 256 ^ count ≡ 256 ^ suc count
pow_step count = rw pow-succ' refl

pub pow-pos : (count : ℕ) → 0 < 256 ^ count
pow-pos zero = omega arith
pow-pos (suc count) = rw pow-succ' (omega (arith, pow-pos count))

pub low_bytes : (number above : ℕ) → 0 < above → number % 256 + 256 * (number / 256 % above) ≡ number % (256 * above)
low_bytes number above some =
    let rest : ℕ = number % 256 + 256 * (number / 256 % above) in
    let quotient : ℕ = number / 256 / above in
    let high : above * quotient + number / 256 % above ≡ number / 256 = div-add-mod (number / 256) above in
    let whole : 256 * above * quotient + rest ≡ number = omega arith in
    let small : number / 256 % above < above = mod-lt (number / 256) some in
    let less : rest < 256 * above = omega arith in
    sym (mod-eq_of_lt less) ∙ (sym (mul-add-mod_self_left (256 * above) quotient rest) ∙ ap (λ n. n % (256 * above)) whole)

some_of : (o : Option ℕ) → is_some o ≡ true → (x : ℕ) × (o ≡ Some x)
some_of None is = absurd (false≢true is)
some_of (Some x) is = (x, refl)

both_parts : (byte rest : Option ℕ) → is_some (both_bytes byte rest) ≡ true → (is_some byte ≡ true) × (is_some rest ≡ true)
unfolding both_bytes
both_parts None rest is = absurd (false≢true is)
both_parts (Some b) None is = absurd (false≢true is)
both_parts (Some b) (Some r) is = (refl, refl)

pub number_at-with_number : (memory : List MemByte) (address count number : ℕ) → is_some (number_at memory address count) ≡ true → number_at (with_number memory address count number) address count ≡ Some (number % 256 ^ count)
unfolding both_bytes
number_at-with_number memory address zero number has = let e : 0 ≡ number % 256 ^ 0 = omega arith in ap Some e
number_at-with_number memory address (suc count) number has =
    let after : List MemByte = with_byte memory address (number % 256) in
    let parts = both_parts (byte_at memory address) (number_at memory (address + 1) count) has in
    let old = some_of (byte_at memory address) parts.0 in
    let apart : Apart (address + 1) count address 1 = inr (omega arith) in
    let byte = byte_at-with_number_other after (address + 1) count (number / 256) address apart ∙ byte_at-with_byte memory address (number % 256) old.0 old.1 in
    let there = has-number after memory (has-with_byte memory address (number % 256)) (address + 1) count ∙ parts.1 in
    let rest = number_at-with_number after (address + 1) count (number / 256) there in
    ap (λ b. both_bytes b (number_at (with_number after (address + 1) count (number / 256)) (address + 1) count)) byte
    ∙ (ap (both_bytes (Some (number % 256))) rest
    ∙ ap Some (low_bytes number (256 ^ count) (pow-pos count) ∙ ap (λ n. number % n) (pow_step count)))

-- a load has the low bits of what was stored there
pub load-stored : (w : Width) (memory : List MemByte) (address number : ℕ) → is_some (load w memory address) ≡ true → load w (with_number memory address (bytes_of w) number) address ≡ Some (low w number)
load-stored w memory address number has = by (is_aligned w address) has ∙ ap (λ n. Some (number % n)) (bytes_bits w)
  where
    by : (b : Bool) → is_some (if b then number_at memory address (bytes_of w) else None) ≡ true → (if b then number_at (with_number memory address (bytes_of w) number) address (bytes_of w) else None) ≡ Some (number % 256 ^ bytes_of w)
    by true has = number_at-with_number memory address (bytes_of w) number has
    by false has = absurd (false≢true has)

    bytes_bits : (w : Width) → 256 ^ bytes_of w ≡ 2 ^ bits_of w
    bytes_bits W8 = refl
    bytes_bits W16 = refl
    bytes_bits W32 = refl
    bytes_bits W64 = refl
