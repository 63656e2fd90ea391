-- Homes: which registers they are, where slots stand, and that registers which conflict have different homes.
use Rattle.std.proofs.Common.{◌≡◌, ◌≢◌, ℕ, zero, suc, ◌+◌, ◌%◌, ◌<◌, ◌≤◌, ◌==◌, ◌||◌, ◌⊎◌, inl, inr, ⊎_elim, Bool, true, false, cond, List, [], ◌∷◌, ◌++◌, map, length, get_or, Option, Some, None, refl, sym, ap, subst, ◌∙◌, arith, eq-eqb}
use Rattle.std.proofs.lemmas.Bool.{false≢true, and_parts, eqb-true, leb-true}
use Rattle.std.proofs.lemmas.Option.{same_Some, none-some}
use Rattle.std.specs.List.{find, list_all}
use Rattle.std.specs.Option.{option_map_or}
use Rattle.std.specs.Prelude.{slice_get, nat_le, option_map, unwrap_or, All}
use Rattle.rtx_tree.specs.RegSet.{has_reg}
use Rattle.rtx_tree.specs.Registers.{pseudo}
use Rattle.rtx_tree.specs.declared.function.Function.{Function}
use Rattle.rv_regs.specs.Registers.{allocation_order}
use Rattle.reg_conflicts.specs.Conflicts.{Conflict}
use Rattle.same_behaviour.proofs.Entry.{same_or_not}
use Rattle.run_memory.proofs.Laws.{Apart}
use Rattle.assign.specs.Frame.{offsets, slot_by, slots_of, IsFrame}
use Rattle.assign.specs.Homes.{register, pseudos, AreHomes}
use Rattle.assign.specs.declared.home.Home.{Home}
use Rattle.assign.specs.declared.home.Home.TheVariants.{Hard, Slot}
use Rattle.assign.specs.declared.home.HomeOf.{HomeOf}
use Rattle.assign.specs.declared.places.Layout.{Layout}
use Rattle.assign.specs.declared.places.SavedAt.{SavedAt}
use Rattle.assign.specs.declared.places.SlotAt.{SlotAt}
use Rattle.reload_homes.specs.Homes.{home_of, slot_offset}
use Rattle.law_homes.specs.Tame.{may_be_home}

-- ---- the first that is listed

abbrev Listed : {A : Type 0} → (A → ℕ) → List A → ℕ → Option A → Type 0
Listed {A} key xs n o = (k : ℕ) × (x : A) × (slice_get xs k ≡ Some x) × (key x ≡ n) × (o ≡ Some x)

-- of items by number, the first with a number, or none
listed : {A : Type 0} (key : A → ℕ) (xs : List A) (n : ℕ) →
    Listed key xs n (find (λ x. key x == n) xs) ⊎ (find (λ x. key x == n) xs ≡ None)
listed {A = A} key [] n = inr refl
listed {A = A} key (x ∷ xs) n = by (key x == n) refl (listed key xs n)
  where
    by : (b : Bool) → (key x == n) ≡ b → Listed key xs n (find (λ x. key x == n) xs) ⊎ (find (λ x. key x == n) xs ≡ None) → Listed key (x ∷ xs) n (cond b (Some x) (find (λ x. key x == n) xs)) ⊎ (cond b (Some x) (find (λ x. key x == n) xs) ≡ None)
    by true is rest = inl (0, x, refl, eqb-true (key x) n is, refl)
    by false is (inl found) = inl (suc found.0, found.1, found.2, found.3, found.4)
    by false is (inr none) = inr none

-- ---- homes

-- the home of a register that is listed is the one that is listed; any other lives in itself
pub home_is : (homes : List HomeOf) (reg : ℕ) →
    ((k : ℕ) × (x : HomeOf) × (slice_get homes k ≡ Some x) × (register x ≡ reg) × (home_of homes reg ≡ x.home)) ⊎ (home_of homes reg ≡ Hard reg)
home_is homes reg = elim (listed register homes reg) [
  | inl found ↦ inl (found.0, found.1, found.2, found.3, ap (λ o. unwrap_or (option_map (λ (x : HomeOf). x.home) o) (Hard reg)) found.4)
  | inr none ↦ inr (ap (λ o. unwrap_or (option_map (λ (x : HomeOf). x.home) o) (Hard reg)) none)
]

pub same_hard : (a b : ℕ) → Hard a ≡ Hard b → a ≡ b
same_hard a b is = cc

no_slot : (a : ℕ) → Hard a ≡ Slot → ⊥
no_slot a is = cc

-- ---- registers that may be homes

one_of : (test : ℕ → Bool) (xs : List ℕ) (i n : ℕ) → list_all test xs ≡ true → slice_get xs i ≡ Some n → test n ≡ true
one_of test [] i n all at = absurd (none-some n at)
one_of test (x ∷ xs) zero n all at = subst (λ n. test n ≡ true) (same_Some x n at) (and_parts (test x) (list_all test xs) all).0
one_of test (x ∷ xs) (suc i) n all at = one_of test xs i n (and_parts (test x) (list_all test xs) all).1 at

module _ (f : Function) (homes : List HomeOf) (are : AreHomes f homes) where
  -- a hard home that is listed is a register of the order
  pub order_home : (k hard : ℕ) (x : HomeOf) → slice_get homes k ≡ Some x → x.home ≡ Hard hard → (5 ≤ hard) × (hard ≤ 27)
  order_home k hard x at is =
      let first = are.first k x hard at is in
      let both = and_parts (nat_le 5 hard) (nat_le hard 27) (one_of may_be_home allocation_order first.0 hard refl first.1) in
      (leb-true 5 hard both.0, leb-true hard 27 both.1)

  -- a hard home is a register of the order, or the register itself
  pub hard_home : (reg hard : ℕ) → home_of homes reg ≡ Hard hard → ((5 ≤ hard) × (hard ≤ 27)) ⊎ (hard ≡ reg)
  hard_home reg hard is = elim (home_is homes reg) [
    | inl (k, x, at, same, home) ↦ inl (order_home k hard x at (sym home ∙ is))
    | inr itself ↦ inr (sym (same_hard reg hard (sym itself ∙ is)))
  ]

  -- a register below the pseudos lives in itself
  pub below_itself : (reg : ℕ) → reg < 64 → home_of homes reg ≡ Hard reg
  below_itself reg below = elim (home_is homes reg) [
    | inl (k, x, at, same, home) ↦ absurd (let number : pseudo x.pseudo ≡ reg = same in let no : ⊥ = omega (arith, number, below) in no)
    | inr itself ↦ itself
  ]

  turned : (x y : ℕ) → Conflict f x y → Conflict f y x
  turned x y (inl first) = inr first
  turned x y (inr second) = inl second

  both_listed : (j k : ℕ) (x y : HomeOf) (hard : ℕ) → slice_get homes j ≡ Some x → slice_get homes k ≡ Some y → register x ≢ register y →
      x.home ≡ Hard hard → y.home ≡ Hard hard → Conflict f (register x) (register y) → ⊥
  both_listed j k x y hard at_j at_k differ is_x is_y conflict = ⊎_elim
      (λ (same : j ≡ k). differ (ap register (same_Some x y (sym at_j ∙ (ap (slice_get homes) same ∙ at_k)))))
      (λ (other : j ≢ k). ⊎_elim
      (λ (less : j < k). are.valid.shared j k x y hard less at_j at_k is_x is_y (turned (register x) (register y) conflict))
      (λ (more : k < j). are.valid.shared k j y x hard more at_k at_j is_y is_x conflict)
      (apart j k other))
      (same_or_not j k)
    where
      apart : (j k : ℕ) → j ≢ k → (j < k) ⊎ (k < j)
      apart zero zero other = absurd (other refl)
      apart zero (suc k) other = inl (omega arith)
      apart (suc j) zero other = inr (omega arith)
      apart (suc j) (suc k) other = ⊎_elim (λ (less : j < k). inl (omega arith)) (λ (more : k < j). inr (omega arith)) (apart j k (λ same. other (ap suc same)))

  -- two registers of which one is live where the other is defined do not share a hard home
  pub homes_apart : (a b hard : ℕ) → a ≢ b → Conflict f a b → home_of homes a ≡ Hard hard → home_of homes b ≡ Hard hard → ⊥
  homes_apart a b hard differ conflict is_a is_b = elim (home_is homes a) [
    | inl (j, x, at_j, same_x, home_x) ↦ elim (home_is homes b) [
      | inl (k, y, at_k, same_y, home_y) ↦ both_listed j k x y hard at_j at_k (λ same. differ (sym same_x ∙ (same ∙ same_y)))
          (sym home_x ∙ is_a) (sym home_y ∙ is_b) (subst (λ r. Conflict f r (register y)) (sym same_x) (subst (Conflict f a) (sym same_y) conflict))
      | inr itself ↦ are.valid.own j x hard at_j (sym home_x ∙ is_a)
          (subst (λ r. Conflict f r hard) (sym same_x) (subst (Conflict f a) (same_hard b hard (sym itself ∙ is_b)) conflict))
    ]
    | inr itself ↦ elim (home_is homes b) [
      | inl (k, y, at_k, same_y, home_y) ↦ are.valid.own k y hard at_k (sym home_y ∙ is_b)
          (subst (λ r. Conflict f r hard) (sym same_y) (subst (Conflict f b) (same_hard a hard (sym itself ∙ is_a)) (turned a b conflict)))
      | inr other ↦ differ (same_hard a hard (sym itself ∙ is_a) ∙ sym (same_hard b hard (sym other ∙ is_b)))
    ]
  ]

-- ---- slots

has_slot : (homes : List HomeOf) (k : ℕ) (x : HomeOf) → slice_get homes k ≡ Some x → x.home ≡ Slot →
    (i : ℕ) × (slice_get (slots_of homes) i ≡ Some x.pseudo)
has_slot [] k x at is = absurd (none-some x at)
has_slot (y ∷ homes) zero x at is = (0, ap (λ o. slice_get (slot_by o y.pseudo ++ slots_of homes) 0) (ap (λ (h : HomeOf). h.home) (same_Some y x at) ∙ is) ∙ ap (λ (h : HomeOf). Some h.pseudo) (same_Some y x at))
has_slot (y ∷ homes) (suc k) x at is = by y.home (has_slot homes k x at is)
  where
    by : (home : Home) → (i : ℕ) × (slice_get (slots_of homes) i ≡ Some x.pseudo) → (i : ℕ) × (slice_get (slot_by home y.pseudo ++ slots_of homes) i ≡ Some x.pseudo)
    by (Hard hard) (i, at) = (i, at)
    by Slot (i, at) = (suc i, at)

-- an item that is mapped to another stands where that stands
mapped_at : {A B : Type 0} (g : A → B) (xs : List A) (i : ℕ) (y : B) → slice_get (map g xs) i ≡ Some y → (x : A) × (slice_get xs i ≡ Some x) × (g x ≡ y)
mapped_at g [] i y at = absurd (none-some y at)
mapped_at g (x ∷ xs) zero y at = (x, refl, same_Some (g x) y at)
mapped_at g (x ∷ xs) (suc i) y at = mapped_at g xs i y at

-- something has the number, so the first is found
found_some : {A : Type 0} (key : A → ℕ) (xs : List A) (i n : ℕ) (x : A) → slice_get xs i ≡ Some x → key x ≡ n → find (λ x. key x == n) xs ≡ None → ⊥
found_some {A = A} key [] i n x at is none = none-some x at
found_some {A = A} key (y ∷ xs) zero n x at is none = by (key y == n) refl none
  where
    here : key y ≡ n
    here = ap key (same_Some y x at) ∙ is

    by : (b : Bool) → (key y == n) ≡ b → cond b (Some y) (find (λ x. key x == n) xs) ≡ None → ⊥
    by true test none = let no : ⊥ = cc in no
    by false test none = false≢true (sym test ∙ eq-eqb (key y) n here)
found_some {A = A} key (y ∷ xs) (suc i) n x at is none = by (key y == n) none (found_some key xs i n x at is)
  where
    by : (b : Bool) → cond b (Some y) (find (λ x. key x == n) xs) ≡ None → (find (λ x. key x == n) xs ≡ None → ⊥) → ⊥
    by true none rest = let no : ⊥ = cc in no
    by false none rest = rest none

-- a pseudo that stands in the function is listed
has_pseudo : (homes : List HomeOf) (k : ℕ) → has_reg (pseudos homes) k ≡ true → (j : ℕ) × (x : HomeOf) × (slice_get homes j ≡ Some x) × (x.pseudo ≡ k)
has_pseudo [] k has = absurd (false≢true has)
has_pseudo (y ∷ homes) k has = by (y.pseudo == k) refl has (has_pseudo homes k)
  where
    by : (b : Bool) → (y.pseudo == k) ≡ b → b || has_reg (pseudos homes) k ≡ true →
        (has_reg (pseudos homes) k ≡ true → (j : ℕ) × (x : HomeOf) × (slice_get homes j ≡ Some x) × (x.pseudo ≡ k)) →
        (j : ℕ) × (x : HomeOf) × (slice_get (y ∷ homes) j ≡ Some x) × (x.pseudo ≡ k)
    by true is has rest = (0, y, refl, eqb-true y.pseudo k is)
    by false is has rest = let more = rest has in (suc more.0, more.1, more.2, more.3)

pub listed_home : (homes : List HomeOf) (k : ℕ) → has_reg (pseudos homes) k ≡ true →
    (j : ℕ) × (x : HomeOf) × (slice_get homes j ≡ Some x) × (home_of homes (pseudo k) ≡ x.home)
listed_home homes k has = elim (listed register homes (pseudo k)) [
  | inl found ↦ (found.0, found.1, found.2, ap (λ o. unwrap_or (option_map (λ (x : HomeOf). x.home) o) (Hard (pseudo k))) found.4)
  | inr none ↦ let there = has_pseudo homes k has in absurd (found_some register homes there.0 (pseudo k) there.1 there.2 (ap pseudo there.3) none)
]

module _ (f : Function) (homes : List HomeOf) (layout : Layout) (frame : IsFrame f homes layout) where
  -- the slot of a register that lives in one
  pub slot_is : (reg : ℕ) → home_of homes reg ≡ Slot →
      (i : ℕ) × (s : SlotAt) × (slice_get layout.slots i ≡ Some s) × (pseudo s.pseudo ≡ reg) × (slot_offset layout reg ≡ s.offset)
  slot_is reg is = elim (home_is homes reg) [
    | inl (k, x, at, same, home) ↦
        let slot = has_slot homes k x at (sym home ∙ is) in
        let place = mapped_at (λ (s : SlotAt). s.pseudo) layout.slots slot.0 x.pseudo (ap (λ (ps : List ℕ). slice_get ps slot.0) frame.slots ∙ slot.1) in
        elim (listed (λ (s : SlotAt). pseudo s.pseudo) layout.slots reg) [
          | inl (i, s, there, number, found) ↦ (i, s, there, number, ap (λ o. option_map_or (λ (s : SlotAt). s.offset) o 0) found)
          | inr none ↦ absurd (found_some (λ (s : SlotAt). pseudo s.pseudo) layout.slots slot.0 reg place.0 place.1 (ap pseudo place.2 ∙ same) none)
        ]
    | inr itself ↦ absurd (no_slot reg (sym itself ∙ is))
  ]

  -- the offset of a slot among all offsets
  offset_at : (saved : List SavedAt) (slots : List SlotAt) (i : ℕ) (s : SlotAt) → slice_get slots i ≡ Some s →
      (length saved + i < length (map (λ (s : SavedAt). s.offset) saved ++ map (λ (s : SlotAt). s.offset) slots))
      × (get_or (map (λ (s : SavedAt). s.offset) saved ++ map (λ (s : SlotAt). s.offset) slots) (length saved + i) 0 ≡ s.offset)
  offset_at [] [] i s at = absurd (none-some s at)
  offset_at [] (t ∷ slots) zero s at = (omega arith, ap (λ (s : SlotAt). s.offset) (same_Some t s at))
  offset_at [] (t ∷ slots) (suc i) s at =
      let rest = offset_at [] slots i s at in
      let less = rest.0 in
      let sum : 0 + suc i ≡ suc (0 + i) = omega arith in
      (omega (arith, less), ap (λ n. get_or (t.offset ∷ map (λ (s : SlotAt). s.offset) slots) n 0) sum ∙ rest.1)
  offset_at (a ∷ saved) slots i s at =
      let rest = offset_at saved slots i s at in
      let less = rest.0 in
      let sum : suc (length saved) + i ≡ suc (length saved + i) = omega arith in
      (omega (arith, less), ap (λ n. get_or (a.offset ∷ (map (λ (s : SavedAt). s.offset) saved ++ map (λ (s : SlotAt). s.offset) slots)) n 0) sum ∙ rest.1)

  -- what holds of all offsets holds of that of each slot
  pub of_slot : (P : ℕ → Type 0) → All P (offsets layout) → (i : ℕ) (s : SlotAt) → slice_get layout.slots i ≡ Some s → P s.offset
  of_slot P all i s at =
      let place = offset_at layout.saved layout.slots i s at in
      subst P place.1 (all (length layout.saved + i) 0 place.0)

  of_offset : (P : ℕ → Type 0) → All P (offsets layout) → (reg : ℕ) → home_of homes reg ≡ Slot → P (slot_offset layout reg)
  of_offset P all reg is =
      let slot = slot_is reg is in
      let place = offset_at layout.saved layout.slots slot.0 slot.1 slot.2 in
      subst P (place.1 ∙ sym slot.4) (all (length layout.saved + slot.0) 0 place.0)

  -- a slot is aligned, and stands within the frame and below the locals
  pub slot_aligned : (reg : ℕ) → home_of homes reg ≡ Slot → slot_offset layout reg % 8 ≡ 0
  slot_aligned = of_offset (λ offset. offset % 8 ≡ 0) frame.aligned

  pub slot_within : (reg : ℕ) → home_of homes reg ≡ Slot → slot_offset layout reg + 8 + f.locals ≤ layout.size
  slot_within = of_offset (λ offset. offset + 8 + f.locals ≤ layout.size) frame.within

  -- the slots of two registers are apart
  pub slots_apart : (a b : ℕ) → a ≢ b → home_of homes a ≡ Slot → home_of homes b ≡ Slot → Apart (slot_offset layout a) 8 (slot_offset layout b) 8
  slots_apart a b differ is_a is_b =
      let s = slot_is a is_a in
      let t = slot_is b is_b in
      let first = offset_at layout.saved layout.slots s.0 s.1 s.2 in
      let second = offset_at layout.saved layout.slots t.0 t.1 t.2 in
      let at_a = first.1 ∙ sym s.4 in
      let at_b = second.1 ∙ sym t.4 in
      ⊎_elim
      (λ (same : s.0 ≡ t.0). absurd (differ (sym s.3 ∙ (ap (λ (x : SlotAt). pseudo x.pseudo) (same_Some s.1 t.1 (sym s.2 ∙ (ap (slice_get layout.slots) same ∙ t.2))) ∙ t.3))))
      (λ (other : s.0 ≢ t.0). ⊎_elim
      (λ (less : s.0 < t.0). let below = frame.apart (length layout.saved + s.0) (length layout.saved + t.0) 0 (omega (arith, less)) second.0 in
      inr (subst (λ n. slot_offset layout b + 8 ≤ n) at_a (subst (λ n. n + 8 ≤ get_or (offsets layout) (length layout.saved + s.0) 0) at_b below)))
      (λ (more : t.0 < s.0). let below = frame.apart (length layout.saved + t.0) (length layout.saved + s.0) 0 (omega (arith, more)) first.0 in
      inl (subst (λ n. slot_offset layout a + 8 ≤ n) at_b (subst (λ n. n + 8 ≤ get_or (offsets layout) (length layout.saved + t.0) 0) at_a below)))
      (order s.0 t.0 other))
      (same_or_not s.0 t.0)
    where
      order : (j k : ℕ) → j ≢ k → (j < k) ⊎ (k < j)
      order zero zero other = absurd (other refl)
      order zero (suc k) other = inl (omega arith)
      order (suc j) zero other = inr (omega arith)
      order (suc j) (suc k) other = ⊎_elim (λ (less : j < k). inl (omega arith)) (λ (more : k < j). inr (omega arith)) (order j k (λ same. other (ap suc same)))
