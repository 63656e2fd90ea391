-- What li, la and call do, word by word.
use Rattle.std.proofs.Common.{◌≡◌, ℕ, zero, suc, ℤ, pos, negsuc, ◌+◌, ◌-◌, ◌*◌, ◌/◌, ◌%◌, ◌^◌, ◌<◌, ◌≤◌, ◌==◌, nat_lt, Bool, true, false, if◌then◌else◌, List, [], ◌∷◌, ◌++◌, length, Option, Some, None, option_map, is_some, ◌⊎◌, inl, inr, refl, sym, ◌∙◌, ap, subst, arith}
use Rattle.std.specs.Prelude.{◌-ℤ◌, option_and_then, slice_get, slice_set}
use Rattle.std.specs.Int.{cast_unsigned, w64}
use Rattle.std.specs.Fmt.{signed_decimal}
use Rattle.std.specs.Cmp.{unsigned_Decides}
use Rattle.std.proofs.lemmas.Int.{ints}
use Rattle.std.proofs.lemmas.Bool.Decides.{nat_tests}
use Rattle.bits64.specs.Words.{sign_extended}
use Rattle.bits64.specs.declared.Width.{Width}
use Rattle.bits64.specs.declared.Width.TheVariants.{W32, W64}
use Rattle.rtx_tree.specs.declared.machine.World.{World}
use Rattle.text_words.specs.Words.{fits_i64}
use Rattle.rv_text.specs.Table.{row_of}
use Rattle.rv_text.specs.Lines.{is_within, register_text, number_text, same_line, filled, bare, has_all}
use Rattle.rv_text.specs.declared.line.Line.{Line}
use Rattle.bits64.specs.declared.operator.Operator.{Operator}
use Rattle.bits64.specs.declared.operator.Operator.TheVariants.{Add, Shl}
use Rattle.rv_text.specs.declared.mnemonic.Mnemonic.TheVariants as mnemonic
use Rattle.rv_text.proofs.Numbers.{and_true}
use Rattle.rv_text.proofs.Registers.{is_some_register}
use Rattle.rv_line.specs.Step.{register, with_register, computed, of_both, set_rd, place_of, call_end, register_call_end}
use Rattle.rv_line.specs.declared.state.RvState.{RvState}
use Rattle.rv_line.specs.declared.state.LineEnd.{LineEnd}
use Rattle.rv_line.specs.declared.state.LineEnd.TheVariants.{Next, Called}
use Rattle.rv_word.specs.Word.{signed_from}
use Rattle.rv_word.specs.Spelling.{base_of}
use Rattle.rv_word.specs.Step.{step_word, line_of}
use Rattle.rv_word.specs.Sequence.{upper, lower, added, fits, near_words, shifted, li_words, far_words, behind, straight, SequencesDo}
use Rattle.rv_word.specs.declared.base.Base.{Base}
use Rattle.rv_word.specs.declared.base.BaseOp.{BaseOp}
use Rattle.rv_word.specs.declared.base.BaseOp.TheVariants as base

-- ---- a register that is written twice

set_there : (regs : List (Option ℕ)) (t : ℕ) (value : Option ℕ) → t < length regs → slice_get (slice_set regs t value) t ≡ Some value
set_there [] t value within = absurd (omega (arith, within))
set_there (x ∷ regs) zero value within = refl
set_there (x ∷ regs) (suc t) value within = set_there regs t value (omega (arith, within))

set_twice : (regs : List (Option ℕ)) (t : ℕ) (a b : Option ℕ) → slice_set (slice_set regs t a) t b ≡ slice_set regs t b
set_twice [] t a b = refl
set_twice (x ∷ regs) zero a b = refl
set_twice (x ∷ regs) (suc t) a b = ap (λ rest. x ∷ rest) (set_twice regs t a b)

-- what a register reads as after it was written
abbrev held : ℕ → ℕ → ℕ
held zero value = 0
held (suc r) value = value

not_zero : (r : ℕ) → (suc r == 0) ≡ false
not_zero r = grind (arith, nat_tests)

written : (regs : List (Option ℕ)) (r value : ℕ) → with_register regs (suc r) value ≡ slice_set regs (suc r) (Some value)
written regs r value = ap (λ b. if b then regs else slice_set regs (suc r) (Some value)) (not_zero r)

read : (regs : List (Option ℕ)) (r : ℕ) → register regs (suc r) ≡ option_and_then (λ value. value) (slice_get regs (suc r))
read regs r = ap (λ b. if b then Some 0 else option_and_then (λ value. value) (slice_get regs (suc r))) (not_zero r)

reads : (regs : List (Option ℕ)) (rd value : ℕ) → rd < length regs → register (with_register regs rd value) rd ≡ Some (held rd value)
reads regs zero value within = refl
reads regs (suc r) value within =
    read (with_register regs (suc r) value) r ∙ (ap (λ x. option_and_then (λ (v : Option ℕ). v) (slice_get x (suc r))) (written regs r value)
    ∙ ap (λ o. option_and_then (λ (v : Option ℕ). v) o) (set_there regs (suc r) (Some value) within))

writes : (regs : List (Option ℕ)) (rd a b : ℕ) → with_register (with_register regs rd a) rd b ≡ with_register regs rd b
writes regs zero a b = refl
writes regs (suc r) a b =
    written (with_register regs (suc r) a) r b ∙ (ap (λ x. slice_set x (suc r) (Some b)) (written regs r a) ∙ (set_twice regs (suc r) (Some a) (Some b) ∙ sym (written regs r b)))

-- what is written into zero doesn't count
same_write : (regs : List (Option ℕ)) (rd a b : ℕ) → ((r : ℕ) → rd ≡ suc r → a ≡ b) → with_register regs rd a ≡ with_register regs rd b
same_write regs zero a b is = refl
same_write regs (suc r) a b is = ap (with_register regs (suc r)) (is r refl)

abbrev put : RvState → ℕ → ℕ → RvState
put state rd value = record state { regs = with_register state.regs rd value }

module _ (state : RvState) (rd : ℕ) (within : rd < length state.regs) where
  -- an operator on the register that was written, and a number
  again : (o : Operator) (w : Width) (line : Line) (value k : ℕ) → line.rd ≡ rd →
      set_rd (put state rd value) line (of_both (computed o w) (register (with_register state.regs rd value) rd) (Some k)) ≡ (Next, put state rd (computed o w (held rd value) k))
  again o w line value k is =
      ap (λ v. set_rd (put state rd value) line (of_both (computed o w) v (Some k))) (reads state.regs rd value within)
      ∙ (ap (λ d. (Next, record state { regs = with_register (with_register state.regs rd value) d (computed o w (held rd value) k) })) is
      ∙ ap (λ regs. (Next, record state { regs = regs })) (writes state.regs rd value (computed o w (held rd value) k)))

-- ---- words behind words

module _ (world : World) where
  then_next : (b : Base) (bs : List Base) (state next : RvState) → step_word world b state ≡ (Next, next) → straight world (b ∷ bs) state ≡ straight world bs next
  then_next b bs state next is = ap (λ (done : LineEnd × RvState). behind done.0 done.1 (straight world bs)) is

  append_next : (front back : List Base) (state next : RvState) → straight world front state ≡ (Next, next) → straight world (front ++ back) state ≡ straight world back next
  append_next front back state next is = appended front back state ∙ ap (λ (done : LineEnd × RvState). behind done.0 done.1 (straight world back)) is
    where
      over : (e : LineEnd) (s : RvState) (f g k : RvState → LineEnd × RvState) → ((t : RvState) → f t ≡ behind (g t).0 (g t).1 k) → behind e s f ≡ behind (behind e s g).0 (behind e s g).1 k
      over Next s f g k is = is s
      over LineEnd.Jumped s f g k is = refl
      over (Called t) s f g k is = refl
      over LineEnd.Returned s f g k is = refl
      over LineEnd.Stuck s f g k is = refl

      appended : (front back : List Base) (state : RvState) → straight world (front ++ back) state ≡ behind (straight world front state).0 (straight world front state).1 (straight world back)
      appended [] back state = refl
      appended (b ∷ front) back state = over (step_word world b state).0 (step_word world b state).1 (straight world (front ++ back)) (straight world front) (straight world back) (λ t. appended front back t)

-- ---- numbers

extended32 : (n : ℕ) → sign_extended W32 n ≡ n / 2 ^ 31 % 2 * (2 ^ 32 - 1) * 2 ^ 32 + n % 2 ^ 32
extended32 n = grind arith

extended64 : (n : ℕ) → sign_extended W64 n ≡ n % 2 ^ 64
extended64 n = grind arith

sum64 : (a b : ℕ) → computed Add W64 a b ≡ (a + b) % 2 ^ 64
sum64 a b = extended64 ((a + b) % 2 ^ 64) ∙ (omega arith)

sum32 : (a b : ℕ) → computed Add W32 a b ≡ (a + b) / 2 ^ 31 % 2 * (2 ^ 32 - 1) * 2 ^ 32 + (a + b) % 2 ^ 32
sum32 a b = extended32 ((a + b) % 2 ^ 32) ∙ (omega arith)

shift64 : (a : ℕ) → computed Shl W64 a 12 ≡ (a * 4096) % 2 ^ 64
shift64 a = extended64 ((a * 2 ^ (12 % 64)) % 2 ^ 64) ∙ (omega arith)

shift32 : (a : ℕ) → a < 2 ^ 20 → computed Shl W32 a 12 ≡ a / 2 ^ 19 % 2 * (2 ^ 32 - 1) * 2 ^ 32 + a * 4096
shift32 a less = extended32 ((a * 2 ^ (12 % 32)) % 2 ^ 32) ∙ (omega arith)

-- the lower part in 64 bits
abbrev low_bits : ℕ → ℕ
low_bits n = cast_unsigned w64 (lower n)

low_bits_are : (n : ℕ) → low_bits n ≡ (if nat_lt (n % 4096) 2048 then n % 4096 else 2 ^ 64 - 4096 + n % 4096)
low_bits_are n = by (nat_lt (n % 4096) 2048) refl
  where
    by : (t : Bool) → nat_lt (n % 4096) 2048 ≡ t → cast_unsigned w64 (if t then pos (n % 4096) else pos (n % 4096) -ℤ pos (2 * 2048)) ≡ (if t then n % 4096 else 2 ^ 64 - 4096 + n % 4096)
    by true e = refl
    by false e =
        let z : pos (n % 4096) -ℤ pos (2 * 2048) ≡ negsuc (4096 - n % 4096 - 1) = omega (arith, ints) in
        ap (cast_unsigned w64) z ∙ (omega arith)

-- what a fact of either half says
by_low : {P : Type 0} (n : ℕ) → (n % 4096 < 2048 → low_bits n ≡ n % 4096 → P) → (2048 ≤ n % 4096 → low_bits n ≡ 2 ^ 64 - 4096 + n % 4096 → P) → P
by_low {P} n one other = by (nat_lt (n % 4096) 2048) refl
  where
    by : (t : Bool) → nat_lt (n % 4096) 2048 ≡ t → P
    by true e = one (grind (arith, nat_tests)) (low_bits_are n ∙ ap (λ t. if t then n % 4096 else 2 ^ 64 - 4096 + n % 4096) e)
    by false e = other (grind (arith, nat_tests)) (low_bits_are n ∙ ap (λ t. if t then n % 4096 else 2 ^ 64 - 4096 + n % 4096) e)

joined64 : (n v : ℕ) → n < 2 ^ 64 → v ≡ (upper n * 4096) % 2 ^ 64 → computed Add W64 v (low_bits n) ≡ n
joined64 n v fits is = by_low n (λ half low. sum64 v (low_bits n) ∙ (omega arith)) (λ half low. sum64 v (low_bits n) ∙ (omega arith))

abbrev pub Lies : ℕ → ℤ → Type 0
Lies half (pos n) = n < half
Lies half (negsuc n) = n < half

lies : (half : ℕ) (c : ℤ) → fits half c ≡ true → Lies half c
lies half (pos n) is = grind (arith, nat_tests)
lies half (negsuc n) is = grind (arith, nat_tests)

cast_fits : (half : ℕ) (c : ℤ) → half ≤ 2 ^ 63 → Lies half c → cast_unsigned w64 c < 2 ^ 64
cast_fits half (pos n) bound within = omega arith
cast_fits half (negsuc n) bound within = omega arith

signed_split : (half m : ℕ) → m < 2 * half → signed_from half m ≡ (if nat_lt m half then pos m else negsuc (2 * half - m - 1))
signed_split half m less = by (nat_lt m half) refl
  where
    by : (t : Bool) → nat_lt m half ≡ t → (if t then pos m else pos m -ℤ pos (2 * half)) ≡ (if t then pos m else negsuc (2 * half - m - 1))
    by true e = refl
    by false e = let over : half ≤ m = grind (arith, nat_tests) in omega (arith, ints)

-- ---- a number of 32 bits

abbrev wide : ℕ → ℕ
wide n = n / 2 ^ 31 % 2 * (2 ^ 32 - 1) * 2 ^ 32 + n % 2 ^ 32

wide_is : (c : ℤ) → Lies (2 ^ 31) c → wide (cast_unsigned w64 c) ≡ cast_unsigned w64 c
wide_is (pos n) within = omega arith
wide_is (negsuc n) within = omega arith

abbrev upper20 : ℕ → ℕ
upper20 n = upper n % 2 ^ 20

upper_value : (n : ℕ) → computed Shl W32 (upper20 n) 12 ≡ upper20 n / 2 ^ 19 % 2 * (2 ^ 32 - 1) * 2 ^ 32 + upper20 n * 4096
upper_value n = shift32 (upper20 n) (omega arith)

exact32 : (n v : ℕ) → v ≡ upper20 n / 2 ^ 19 % 2 * (2 ^ 32 - 1) * 2 ^ 32 + upper20 n * 4096 → n % 4096 ≡ 0 → v ≡ wide n
exact32 n v is none = omega arith

joined32 : (n v : ℕ) → v ≡ upper20 n / 2 ^ 19 % 2 * (2 ^ 32 - 1) * 2 ^ 32 + upper20 n * 4096 → computed Add W32 v (low_bits n) ≡ wide n
joined32 n v is = by_low n (λ half low. sum32 v (low_bits n) ∙ (omega arith)) (λ half low. sum32 v (low_bits n) ∙ (omega arith))

-- ---- cuts

bits52 : (m : ℕ) → m < 2 ^ 52 → cast_unsigned w64 (signed_from (2 ^ 51) m) % 2 ^ 52 ≡ m
bits52 m less = ap (λ z. cast_unsigned w64 z % 2 ^ 52) (signed_split (2 ^ 51) m less) ∙ by (nat_lt m (2 ^ 51)) refl
  where
    by : (t : Bool) → nat_lt m (2 ^ 51) ≡ t → cast_unsigned w64 (if t then pos m else negsuc (2 * 2 ^ 51 - m - 1)) % 2 ^ 52 ≡ m
    by true e = omega arith
    by false e = let over : 2 ^ 51 ≤ m = grind (arith, nat_tests) in omega arith

-- what is left after a cut, shifted back
cut_back : (n m : ℕ) → m % 2 ^ 52 ≡ upper n % 2 ^ 52 → computed Shl W64 m 12 ≡ (upper n * 4096) % 2 ^ 64
cut_back n m is = shift64 m ∙ (omega arith)

abbrev rest : ℤ → ℕ
rest c = upper (cast_unsigned w64 c) % 2 ^ 52

signed_lies : (half m : ℕ) → m < 2 * half → (t : Bool) → nat_lt m half ≡ t → Lies half (if t then pos m else negsuc (2 * half - m - 1))
signed_lies half m less true e = grind (arith, nat_tests)
signed_lies half m less false e = let over : half ≤ m = grind (arith, nat_tests) in omega arith

pub once : (c : ℤ) → Lies (2 ^ 51) (shifted c)
once c =
    let less : rest c < 2 * 2 ^ 51 = omega arith in
    subst (Lies (2 ^ 51)) (sym (signed_split (2 ^ 51) (rest c) less)) (signed_lies (2 ^ 51) (rest c) less (nat_lt (rest c) (2 ^ 51)) refl)

near_either : (h m : ℕ) → m < 2 ^ 52 → h ≤ 2 ^ 50 → (m < h) ⊎ (2 ^ 52 ≤ m + h) → (t : Bool) → nat_lt m (2 ^ 51) ≡ t → Lies h (if t then pos m else negsuc (2 * 2 ^ 51 - m - 1))
near_either h m less bound (inl small) true e = small
near_either h m less bound (inr large) true e = let under : m < 2 ^ 51 = grind (arith, nat_tests) in absurd (omega arith)
near_either h m less bound (inl small) false e = let over : 2 ^ 51 ≤ m = grind (arith, nat_tests) in absurd (omega arith)
near_either h m less bound (inr large) false e = let over : 2 ^ 51 ≤ m = grind (arith, nat_tests) in omega arith

smaller : (h : ℕ) (c : ℤ) → h ≤ 2 ^ 50 → (rest c < h) ⊎ (2 ^ 52 ≤ rest c + h) → Lies h (shifted c)
smaller h c bound either =
    let less : rest c < 2 * 2 ^ 51 = omega arith in
    subst (Lies h) (sym (signed_split (2 ^ 51) (rest c) less)) (near_either h (rest c) less bound either (nat_lt (rest c) (2 ^ 51)) refl)

twice : (c : ℤ) → Lies (2 ^ 51) c → Lies (2 ^ 40) (shifted c)
twice (pos n) within = smaller (2 ^ 40) (pos n) (omega arith) (inl (omega arith))
twice (negsuc n) within = smaller (2 ^ 40) (negsuc n) (omega arith) (by (nat_lt n 2048) refl)
  where
    by : (t : Bool) → nat_lt n 2048 ≡ t → (rest (negsuc n) < 2 ^ 40) ⊎ (2 ^ 52 ≤ rest (negsuc n) + 2 ^ 40)
    by true e = let less : n < 2048 = grind (arith, nat_tests) in inl (omega arith)
    by false e = let more : 2048 ≤ n = grind (arith, nat_tests) in inr (omega arith)

thrice : (c : ℤ) → Lies (2 ^ 40) c → Lies (2 ^ 31) (shifted c)
thrice (pos n) within = smaller (2 ^ 31) (pos n) (omega arith) (inl (omega arith))
thrice (negsuc n) within = smaller (2 ^ 31) (negsuc n) (omega arith) (by (nat_lt n 2048) refl)
  where
    by : (t : Bool) → nat_lt n 2048 ≡ t → (rest (negsuc n) < 2 ^ 31) ⊎ (2 ^ 52 ≤ rest (negsuc n) + 2 ^ 31)
    by true e = let less : n < 2048 = grind (arith, nat_tests) in inl (omega arith)
    by false e = let more : 2048 ≤ n = grind (arith, nat_tests) in inr (omega arith)

-- ---- the words

module _ (world : World) (state : RvState) (rd : ℕ) (within : rd < length state.regs) where
  abbrev Acts : BaseOp → Width → Type 0
  Acts op w = (s : RvState) (imm : ℤ) → step_word world (base_of op rd rd 0 imm) s ≡ set_rd s (line_of (base_of op rd rd 0 imm)) (of_both (computed Add w) (register s.regs rd) (Some (cast_unsigned w64 imm)))

  -- the register holds a number, where a zero can't
  put_same : (a b : ℕ) → ((r : ℕ) → rd ≡ suc r → a ≡ b) → ◌≡◌ {A = LineEnd × RvState} (Next, put state rd a) (Next, put state rd b)
  put_same a b is = ap (λ regs. (Next, record state { regs = regs })) (same_write state.regs rd a b is)

  added_does : (op : BaseOp) (w : Width) (n v goal : ℕ) → Acts op w → (n % 4096 ≡ 0 → v ≡ goal) → computed Add w v (low_bits n) ≡ goal → straight world (added op rd n) (put state rd v) ≡ (Next, put state rd goal)
  added_does op w n v goal acts exact sum = by (n % 4096 == 0) refl
    where
      by : (t : Bool) → (n % 4096 == 0) ≡ t → straight world (if t then [] else base_of op rd rd 0 (lower n) ∷ []) (put state rd v) ≡ (Next, put state rd goal)
      by true e = ap (λ x. (Next, put state rd x)) (exact ((unsigned_Decides (n % 4096) 0).0 e))
      by false e =
          then_next world (base_of op rd rd 0 (lower n)) [] (put state rd v) (put state rd (computed Add w (held rd v) (low_bits n)))
          (acts (put state rd v) (lower n) ∙ again state rd within Add w (line_of (base_of op rd rd 0 (lower n))) v (low_bits n) refl)
          ∙ put_same (computed Add w (held rd v) (low_bits n)) goal (λ r is. ap (λ q. computed Add w (held q v) (low_bits n)) is ∙ sum)

  near_does : (c : ℤ) → Lies (2 ^ 31) c → straight world (near_words rd c) state ≡ (Next, put state rd (cast_unsigned w64 c))
  near_does c in32 = by (fits (2 ^ 11) c)
    where
      n : ℕ
      n = cast_unsigned w64 c

      by : (t : Bool) → straight world (if t then base_of base.Addi rd 0 0 c ∷ [] else base_of base.Lui rd 0 0 (pos (upper20 (cast_unsigned w64 c))) ∷ added base.Addiw rd (cast_unsigned w64 c)) state ≡ (Next, put state rd (cast_unsigned w64 c))
      by true =
          let whole = cast_fits (2 ^ 31) c (omega arith) in32 in
          ap (λ x. (Next, put state rd x)) (sum64 0 (cast_unsigned w64 c) ∙ (omega arith))
      by false =
          let v = computed Shl W32 (upper20 (cast_unsigned w64 c)) 12 in
          added_does base.Addiw W32 (cast_unsigned w64 c) v (cast_unsigned w64 c) (λ s imm. refl)
          (λ none. exact32 (cast_unsigned w64 c) v (upper_value (cast_unsigned w64 c)) none ∙ wide_is c in32)
          (joined32 (cast_unsigned w64 c) v (upper_value (cast_unsigned w64 c)) ∙ wide_is c in32)

  cut_does : (cuts : ℕ) (c : ℤ) → cast_unsigned w64 c < 2 ^ 64 → straight world (li_words cuts rd (shifted c)) state ≡ (Next, put state rd (cast_unsigned w64 (shifted c))) →
      straight world (li_words cuts rd (shifted c) ++ base_of base.Slli rd rd 0 (pos 12) ∷ added base.Addi rd (cast_unsigned w64 c)) state ≡ (Next, put state rd (cast_unsigned w64 c))
  cut_does cuts c whole deeper =
      let n = cast_unsigned w64 c in
      let m = cast_unsigned w64 (shifted c) in
      let v = (upper n * 4096) % 2 ^ 64 in
      let slli = base_of base.Slli rd rd 0 (pos 12) in
      append_next world (li_words cuts rd (shifted c)) (slli ∷ added base.Addi rd n) state (put state rd m) deeper
      ∙ (then_next world slli (added base.Addi rd n) (put state rd m) (put state rd v)
      (again state rd within Shl W64 (line_of slli) m 12 refl
      ∙ put_same (computed Shl W64 (held rd m) 12) v (λ r is. ap (λ q. computed Shl W64 (held q m) 12) is ∙ cut_back n m (bits52 (rest c) (omega arith))))
      ∙ added_does base.Addi W64 n v n (λ s imm. refl) (λ none. omega arith) (joined64 n v whole refl))

  abbrev bound : ℕ → ℕ
  bound zero = 2 ^ 31
  bound (suc zero) = 2 ^ 40
  bound (suc (suc zero)) = 2 ^ 51
  bound (suc (suc (suc cuts))) = 2 ^ 63

  bounded : (cuts : ℕ) → bound cuts ≤ 2 ^ 63
  bounded zero = omega arith
  bounded (suc zero) = omega arith
  bounded (suc (suc zero)) = omega arith
  bounded (suc (suc (suc cuts))) = omega arith

  either_way : (cuts : ℕ) (c : ℤ) → Lies (bound (suc cuts)) c → straight world (li_words cuts rd (shifted c)) state ≡ (Next, put state rd (cast_unsigned w64 (shifted c))) → straight world (li_words (suc cuts) rd c) state ≡ (Next, put state rd (cast_unsigned w64 c))
  either_way cuts c lies_there deeper = by (fits (2 ^ 31) c) refl
    where
      by : (t : Bool) → fits (2 ^ 31) c ≡ t → straight world (if t then near_words rd c else li_words cuts rd (shifted c) ++ base_of base.Slli rd rd 0 (pos 12) ∷ added base.Addi rd (cast_unsigned w64 c)) state ≡ (Next, put state rd (cast_unsigned w64 c))
      by true e = near_does c (lies (2 ^ 31) c e)
      by false e = cut_does cuts c (cast_fits (bound (suc cuts)) c (bounded (suc cuts)) lies_there) deeper

  li_does : (c : ℤ) → Lies (2 ^ 63) c → straight world (li_words 3 rd c) state ≡ (Next, put state rd (cast_unsigned w64 c))
  li_does c in64 =
      let one = shifted c in
      let two = shifted one in
      let three = shifted two in
      either_way 2 c in64 (either_way 1 one (once c) (either_way 0 two (twice one (once c)) (near_does three (thrice two (twice one (once c))))))

-- ---- addresses

module _ (address : ℕ) (low : address + 2048 < 2 ^ 31) where
  upper_is : computed Shl W32 (upper address) 12 ≡ 4096 * upper address
  upper_is = shift32 (upper address) (omega arith) ∙ (omega arith)

  whole_is : (4096 * upper address + low_bits address) % 2 ^ 64 ≡ address
  whole_is = by_low address (λ half bits. omega arith) (λ half bits. omega arith)

  module _ (world : World) (state : RvState) (rd : ℕ) (within : rd < length state.regs) where
    abbrev lui : Base
    lui = base_of base.Lui rd 0 0 (pos (upper address))

    lui_does : step_word world lui state ≡ (Next, put state rd (4096 * upper address))
    lui_does = ap (λ v. (Next, put state rd v)) upper_is

    la_does : straight world (far_words base.Addi rd address) state ≡ (Next, put state rd address)
    la_does =
        let addi = base_of base.Addi rd rd 0 (lower address) in
        let v = 4096 * upper address in
        then_next world lui (addi ∷ []) state (put state rd v) lui_does
        ∙ (then_next world addi [] (put state rd v) (put state rd (computed Add W64 (held rd v) (low_bits address))) (again state rd within Add W64 (line_of addi) v (low_bits address) refl)
        ∙ put_same world state rd within (computed Add W64 (held rd v) (low_bits address)) address (λ r is. ap (λ q. computed Add W64 (held q v) (low_bits address)) is ∙ (sum64 v (low_bits address) ∙ whole_is)))

  call_does : (world : World) (state : RvState) → 1 < length state.regs → address % 4 ≡ 0 → straight world (far_words base.Jalr 1 address) state ≡ (Called address, put state 1 (4096 * upper address))
  call_does world state within aligned =
      let v = 4096 * upper address in
      let S = put state 1 v in
      let jalr = base_of base.Jalr 1 1 0 (lower address) in
      let target : place_of S (line_of jalr) ≡ Some address = ap (option_map (λ b. (b + low_bits address) % 2 ^ 64)) (reads state.regs 1 v within) ∙ ap Some whole_is in
      let P : LineEnd × RvState → LineEnd × RvState = λ done. behind done.0 done.1 (straight world []) in
      then_next world (lui world state 1 within) (jalr ∷ []) state S (lui_does world state 1 within)
      ∙ (ap (λ t. P (register_call_end t, S)) target
      ∙ ap (λ t. P ((if t then Called address else LineEnd.Stuck), S)) ((unsigned_Decides (address % 4) 0).1 aligned))

-- ---- lines

rd_of : (line : Line) → is_some (register_text line.rd) ≡ true → line.rd < 32
rd_of line is = grind (arith, nat_tests, is_some_register line.rd)

in64 : (c : ℤ) → fits_i64 c ≡ true → Lies (2 ^ 63) c
in64 (pos n) is = grind (arith, nat_tests)
in64 (negsuc n) is = grind (arith, nat_tests)

some_number : (least most c : ℤ) → is_some (number_text least most c) ≡ true → fits_i64 c ≡ true
some_number least most c is = by (is_within least most c) refl is
  where
    by : (t : Bool) → is_within least most c ≡ t → is_some (if t then Some (signed_decimal c) else None) ≡ true → fits_i64 c ≡ true
    by true e some = (and_true (fits_i64 c) _ e).0
    by false e some = cc

pub sequences_do : SequencesDo
sequences_do = record {
  li = λ world line state of_row long.
      let all = and_true (has_all (row_of mnemonic.Li).operands line) (same_line (filled (row_of mnemonic.Li).operands line (bare line.name)) line) of_row in
      let first = and_true (is_some (register_text line.rd)) _ all.0 in
      let second = and_true (is_some (number_text (negsuc 9223372036854775807) (pos 9223372036854775807) line.imm)) true first.1 in
      let fits_64 = in64 line.imm (some_number (negsuc 9223372036854775807) (pos 9223372036854775807) line.imm second.0) in
      let rd = rd_of line first.0 in
      let n = cast_unsigned w64 line.imm in
      let whole = cast_fits (2 ^ 63) line.imm (omega arith) fits_64 in
      li_does world state line.rd (omega arith) line.imm fits_64 ∙ ap (λ v. (Next, put state line.rd v)) (sym (sum64 n 0 ∙ (omega arith)));
  la = λ world line state address of_row long there low.
      let all = and_true (has_all (row_of mnemonic.La).operands line) (same_line (filled (row_of mnemonic.La).operands line (bare line.name)) line) of_row in
      let first = and_true (is_some (register_text line.rd)) _ all.0 in
      let rd = rd_of line first.0 in
      la_does address low world state line.rd (omega arith) ∙ ap (λ o. set_rd state line o) (sym there);
  call = λ world line state address long there low aligned.
      call_does address low world state (omega arith) aligned ∙ ap (λ o. (call_end o, put state 1 (4096 * upper address))) (sym there);
}
