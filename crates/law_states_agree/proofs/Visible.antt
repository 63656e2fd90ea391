-- Memories in order. Each byte is the one at its address; and where the bytes of two are the same wherever the caller sees them, the
-- caller sees the same of both.
use Rattle.std.proofs.Common.{◌≡◌, ◌≢◌, ◌≤◌, ℕ, zero, suc, ◌+◌, ◌^◌, ◌<◌, ◌==◌, Bool, true, false, List, [], ◌∷◌, map, length, Option, Some, None, refl, sym, ◌∙◌, ap, subst, arith}
use Rattle.std.proofs.lemmas.Bool.Decides.{nat_tests}
use Rattle.std.proofs.lemmas.List.Kept.{IsStrictlyIncreasing-filter}
use Rattle.std.specs.Prelude.{if◌then◌else◌, is_some, nat_lt, slice_index}
use Rattle.std.specs.List.{All, filter}
use Rattle.std.specs.List.Sorted.{IsStrictlyIncreasing}
use Rattle.rtx_tree.specs.declared.machine.RangeAt.{RangeAt}
use Rattle.rtx_tree.specs.declared.memories.MemByte.{MemByte}
use Rattle.rtx_tree.specs.Memories.{IsOrdered, byte_at}
use Rattle.run_memory.specs.RunMemory.{is_visible, visible}
use Rattle.same_behaviour.specs.Lawful.{IsByte}
use Rattle.law_states_agree.proofs.Calls.{other_reg}

-- ---- in order, from an address on

abbrev Rising : ℕ → List MemByte → Type 0
Rising least [] = Unit {0}
Rising least (b ∷ bytes) = (least ≤ b.address) × Rising (b.address + 1) bytes

ordered_tail : (b : MemByte) (bytes : List MemByte) → IsOrdered (b ∷ bytes) → IsOrdered bytes
ordered_tail b bytes ordered = λ k within.
    let next : suc k + 1 ≡ suc (k + 1) = omega arith in
    subst (λ n. slice_index (map (λ (b : MemByte). b.address) bytes) k < slice_index (map (λ (b : MemByte). b.address) (b ∷ bytes)) n) next (ordered (suc k) (omega (arith, within)))

rising_from : (least : ℕ) (bytes : List MemByte) → IsOrdered bytes → ((b : MemByte) (rest : List MemByte) → bytes ≡ b ∷ rest → least ≤ b.address) → Rising least bytes
rising_from least [] ordered first = tt
rising_from least (b ∷ []) ordered first = (first b [] refl, tt)
rising_from least (b ∷ c ∷ bytes) ordered first =
    let less : b.address < c.address = ordered 0 (omega arith) in (
      first b (c ∷ bytes) refl,
      rising_from (b.address + 1) (c ∷ bytes) (ordered_tail b (c ∷ bytes) ordered)
          (λ d rest same. let e : c ≡ d = cc in subst (λ x. b.address + 1 ≤ x.address) e (omega (arith, less))),
    )

rising : (bytes : List MemByte) → IsOrdered bytes → Rising 0 bytes
rising bytes ordered = rising_from 0 bytes ordered (λ b rest same. omega arith)

same_address : (a : ℕ) → (a == a) ≡ true
same_address a = grind (arith, nat_tests)

below_none : (least address : ℕ) (bytes : List MemByte) → Rising least bytes → address < least → byte_at bytes address ≡ None
below_none least address [] up less = refl
below_none least address (b ∷ bytes) up less =
    let at_least : least ≤ b.address = up.0 in
    let differ : b.address ≢ address = λ same. absurd (omega (arith, same, less, at_least)) in
    ap (λ c. if c then Some b.byte else byte_at bytes address) (other_reg b.address address differ) ∙ below_none (b.address + 1) address bytes up.1 (omega (arith, less, at_least))

first_at : (b : MemByte) (bytes : List MemByte) → byte_at (b ∷ bytes) b.address ≡ Some b.byte
first_at b bytes = ap (λ c. if c then Some b.byte else byte_at bytes b.address) (same_address b.address)

-- ---- each byte is the one at its address

abbrev Each : List MemByte → Type 0
Each bytes = (address byte : ℕ) → byte_at bytes address ≡ Some byte → (address < 2 ^ 64) × (byte < 2 ^ 8)

rest_each : (least : ℕ) (b : MemByte) (bytes : List MemByte) → Rising least (b ∷ bytes) → Each (b ∷ bytes) → Each bytes
rest_each least b bytes up each address byte is = by (b.address == address) refl
  where
    by : (c : Bool) → (b.address == address) ≡ c → (address < 2 ^ 64) × (byte < 2 ^ 8)
    by true here =
        let same : b.address ≡ address = grind (arith, nat_tests, here) in
        let none : byte_at bytes address ≡ None = below_none (b.address + 1) address bytes up.1 (omega (arith, same)) in
        absurd (let no : Some byte ≡ None = sym is ∙ none in let no' : ⊥ = cc in no')
    by false there = each address byte (ap (λ c. if c then Some b.byte else byte_at bytes address) there ∙ is)

all_rising : (least : ℕ) (bytes : List MemByte) → Rising least bytes → Each bytes → All IsByte bytes
all_rising least [] up each = λ k d less. absurd (omega (arith, less))
all_rising least (b ∷ bytes) up each =
    let here = each b.address b.byte (first_at b bytes) in
    let rest : All IsByte bytes = all_rising (b.address + 1) bytes up.1 (rest_each least b bytes up each) in
    all_more b bytes (record { address = here.0; byte = here.1 }) rest
  where
    all_more : (b : MemByte) (bytes : List MemByte) → IsByte b → All IsByte bytes → All IsByte (b ∷ bytes)
    all_more b bytes first rest zero d less = first
    all_more b bytes first rest (suc k) d less = rest k d (omega (arith, less))

pub all_bytes : (bytes : List MemByte) → IsOrdered bytes → ((address byte : ℕ) → byte_at bytes address ≡ Some byte → (address < 2 ^ 64) × (byte < 2 ^ 8)) → All IsByte bytes
all_bytes bytes ordered each = all_rising 0 bytes (rising bytes ordered) each

-- ---- the same bytes, the same list

module _ (xs ys : List MemByte) (x y : MemByte) where
  heads_order : (least : ℕ) → Rising least (y ∷ ys) → byte_at (x ∷ xs) x.address ≡ byte_at (y ∷ ys) x.address → x.address < y.address → ⊥
  heads_order least up same less =
      let none : byte_at (y ∷ ys) x.address ≡ None = below_none y.address x.address (y ∷ ys) (omega arith, up.1) less in
      let no : Some x.byte ≡ None = sym (first_at x xs) ∙ same ∙ none in
      absurd (let no' : ⊥ = cc in no')

  tail_same : (least : ℕ) → Rising least (x ∷ xs) → Rising least (y ∷ ys) → x.address ≡ y.address → ((address : ℕ) → byte_at (x ∷ xs) address ≡ byte_at (y ∷ ys) address) →
      (address : ℕ) (b : Bool) → nat_lt address (x.address + 1) ≡ b → byte_at xs address ≡ byte_at ys address
  tail_same least first second heads same address true less =
      let low : address < x.address + 1 = grind (arith, nat_tests, less) in
      below_none (x.address + 1) address xs first.1 low ∙ sym (below_none (y.address + 1) address ys second.1 (omega (arith, low, heads)))
  tail_same least first second heads same address false more =
      let high : x.address < address = grind (arith, nat_tests, more) in
      let one : x.address ≢ address = λ e. absurd (omega (arith, e, high)) in
      let two : y.address ≢ address = λ e. absurd (omega (arith, e, high, heads)) in
      sym (ap (λ c. if c then Some x.byte else byte_at xs address) (other_reg x.address address one)) ∙ same address ∙ ap (λ c. if c then Some y.byte else byte_at ys address) (other_reg y.address address two)

same_bytes : (least : ℕ) (xs ys : List MemByte) → Rising least xs → Rising least ys → ((address : ℕ) → byte_at xs address ≡ byte_at ys address) → xs ≡ ys
same_bytes least [] [] first second same = refl
same_bytes least [] (y ∷ ys) first second same = absurd (let no : ◌≡◌ {A = Option ℕ} None (Some y.byte) = same y.address ∙ first_at y ys in let no' : ⊥ = cc in no')
same_bytes least (x ∷ xs) [] first second same = absurd (let no : ◌≡◌ {A = Option ℕ} None (Some x.byte) = sym (same x.address) ∙ first_at x xs in let no' : ⊥ = cc in no')
same_bytes least (x ∷ xs) (y ∷ ys) first second same = by (nat_lt x.address y.address) (nat_lt y.address x.address) refl refl
    (λ heads. same_bytes (x.address + 1) xs ys first.1 (subst (λ a. Rising (a + 1) ys) (sym heads) second.1)
    (λ address. tail_same xs ys x y least first second heads same address (nat_lt address (x.address + 1)) refl))
  where
    by : (less more : Bool) → nat_lt x.address y.address ≡ less → nat_lt y.address x.address ≡ more → (x.address ≡ y.address → xs ≡ ys) → x ∷ xs ≡ y ∷ ys
    by true more l m rest = absurd (heads_order xs ys x y least second (same x.address) (grind (arith, nat_tests, l)))
    by false true l m rest = absurd (heads_order ys xs y x least first (sym (same y.address)) (grind (arith, nat_tests, m)))
    by false false l m rest =
        let heads : x.address ≡ y.address = grind (arith, nat_tests, l, m) in
        let bytes : Some x.byte ≡ Some y.byte = sym (first_at x xs) ∙ same x.address ∙ ap (byte_at (y ∷ ys)) heads ∙ first_at y ys in
        let byte_same : x.byte ≡ y.byte = cc in
        let here : x ≡ y = ap (λ a. record { address = a; byte = x.byte }) heads ∙ ap (λ n. record { address = y.address; byte = n }) byte_same in
        ap (λ b. b ∷ xs) here ∙ ap (λ l. y ∷ l) (rest heads)

-- ---- what is seen

module _ (ranges : List RangeAt) where
  seen_by : (b : MemByte) (bytes : List MemByte) (address : ℕ) (kept here : Bool) → is_visible ranges b.address ≡ kept → (b.address == address) ≡ here →
      byte_at (visible ranges bytes) address ≡ (if is_visible ranges address then byte_at bytes address else None) →
      byte_at (if kept then b ∷ visible ranges bytes else visible ranges bytes) address ≡ (if is_visible ranges address then (if here then Some b.byte else byte_at bytes address) else None)
  seen_by b bytes address true true keeps is rest =
      ap (λ c. if c then Some b.byte else byte_at (visible ranges bytes) address) is
      ∙ sym (ap (λ c. if c then Some b.byte else None) (ap (is_visible ranges) (sym (same_number b.address address is)) ∙ keeps))
    where
      same_number : (a b : ℕ) → (a == b) ≡ true → a ≡ b
      same_number a b is = grind (arith, nat_tests, is)
  seen_by b bytes address true false keeps is rest = ap (λ c. if c then Some b.byte else byte_at (visible ranges bytes) address) is ∙ rest
  seen_by b bytes address false true keeps is rest =
      let hidden : is_visible ranges address ≡ false = ap (is_visible ranges) (sym (same_number b.address address is)) ∙ keeps in
      rest ∙ ap (λ c. if c then byte_at bytes address else None) hidden ∙ sym (ap (λ c. if c then Some b.byte else None) hidden)
    where
      same_number : (a b : ℕ) → (a == b) ≡ true → a ≡ b
      same_number a b is = grind (arith, nat_tests, is)
  seen_by b bytes address false false keeps is rest = rest

  none_by : (c : Bool) → ◌≡◌ {A = Option ℕ} None (if c then None else None)
  none_by true = refl
  none_by false = refl

  -- a byte is seen where its address is
  pub byte_seen : (bytes : List MemByte) (address : ℕ) → byte_at (visible ranges bytes) address ≡ (if is_visible ranges address then byte_at bytes address else None)
  byte_seen [] address = none_by (is_visible ranges address)
  byte_seen (b ∷ bytes) address = seen_by b bytes address (is_visible ranges b.address) (b.address == address) refl refl (byte_seen bytes address)

  addresses_kept : (bytes : List MemByte) → map (λ (b : MemByte). b.address) (visible ranges bytes) ≡ filter (is_visible ranges) (map (λ (b : MemByte). b.address) bytes)
  addresses_kept [] = refl
  addresses_kept (b ∷ bytes) = by (is_visible ranges b.address) (addresses_kept bytes)
    where
      by : (c : Bool) → map (λ (b : MemByte). b.address) (visible ranges bytes) ≡ filter (is_visible ranges) (map (λ (b : MemByte). b.address) bytes) →
          map (λ (b : MemByte). b.address) (if c then b ∷ visible ranges bytes else visible ranges bytes) ≡ (if c then b.address ∷ filter (is_visible ranges) (map (λ (b : MemByte). b.address) bytes) else filter (is_visible ranges) (map (λ (b : MemByte). b.address) bytes))
      by true rest = ap (λ l. b.address ∷ l) rest
      by false rest = rest

  seen_ordered : (bytes : List MemByte) → IsOrdered bytes → IsOrdered (visible ranges bytes)
  seen_ordered bytes ordered = subst IsStrictlyIncreasing (sym (addresses_kept bytes)) (IsStrictlyIncreasing-filter (is_visible ranges) (map (λ (b : MemByte). b.address) bytes) ordered)

  same_by : (c : Bool) (a b : Option ℕ) → (c ≡ true → a ≡ b) → (if c then a else None) ≡ (if c then b else None)
  same_by true a b same = same refl
  same_by false a b same = refl

  pub same_seen : (xs ys : List MemByte) → IsOrdered xs → IsOrdered ys → ((address : ℕ) → is_visible ranges address ≡ true → byte_at xs address ≡ byte_at ys address) → visible ranges xs ≡ visible ranges ys
  same_seen xs ys first second same =
      same_bytes 0 (visible ranges xs) (visible ranges ys) (rising (visible ranges xs) (seen_ordered xs first)) (rising (visible ranges ys) (seen_ordered ys second))
      (λ address. byte_seen xs address ∙ same_by (is_visible ranges address) (byte_at xs address) (byte_at ys address) (same address) ∙ sym (byte_seen ys address))

  -- where two memories show the same, their bytes are the same
  pub seen_same : (xs ys : List MemByte) → visible ranges xs ≡ visible ranges ys → (address : ℕ) → is_visible ranges address ≡ true → byte_at xs address ≡ byte_at ys address
  seen_same xs ys same address seen =
      sym (byte_seen xs address ∙ ap (λ c. if c then byte_at xs address else None) seen)
      ∙ ap (λ l. byte_at l address) same
      ∙ (byte_seen ys address ∙ ap (λ c. if c then byte_at ys address else None) seen)
