-- Behind an instruction whose registers have homes the two states stand beside each other, effect by effect.
use Rattle.std.proofs.Common.{◌≡◌, ◌≢◌, ℕ, ◌+◌, ◌<◌, ◌≤◌, ◌==◌, ◌||◌, not, ◌⊎◌, inl, inr, ⊎_elim, Bool, true, false, List, [], ◌∷◌, ◌++◌, filter, map, Option, Some, None, refl, sym, ap, subst, ◌∙◌, arith, eq-eqb, zero, suc, cond}
use Rattle.std.proofs.lemmas.Bool.{false≢true, and_parts, or_cases, or_left, or_right, false_from_ne_true, eqb-true}
use Rattle.std.proofs.lemmas.Bool.Decides.{nat_tests}
use Rattle.std.proofs.lemmas.List.Folds.{list_any-append}
use Rattle.std.proofs.lemmas.Option.{same_Some, none-some}
use Rattle.std.specs.List.{list_all, list_any}
use Rattle.std.specs.Prelude.{is_some, nat_le, option_map, unwrap_or, slice_get, if◌then◌else◌}
use Rattle.bits64.specs.Words.{bits_of, bytes_of, low}
use Rattle.bits64.specs.declared.Width.{Width}
use Rattle.bits64.specs.declared.Width.TheVariants.{W8, W16, W32, W64}
use Rattle.rtx_tree.specs.Memories.{byte_at}
use Rattle.rtx_tree.specs.RegSet.{has_reg}
use Rattle.rtx_tree.specs.declared.function.Insn.{Insn}
use Rattle.rtx_tree.specs.declared.machine.Start.{Start}
use Rattle.rtx_tree.specs.declared.memories.MemByte.{MemByte}
use Rattle.run_memory.specs.RunMemory.{load, with_number, is_in, is_visible, visible}
use Rattle.run_memory.proofs.Laws.{Apart, byte_at-with_number_other, has-with_number, load-stored_other}
use Rattle.rtl_step.specs.Effect.{reg_after, bytes_after}
use Rattle.rtl_step.specs.Regs.{Regs, known_of, reg_value}
use Rattle.rtl_step.specs.declared.effect.Effect.{Effect}
use Rattle.rtl_step.specs.declared.effect.Effect.TheVariants.{Nothing, Sets, Unsets, Stores}
use Rattle.rtl_step.specs.declared.regs.Known.{Known}
use Rattle.func_run.specs.Run.{entry_regs}
use Rattle.reg_uses.specs.Uses.{insn_defines}
use Rattle.rv_regs.specs.Registers.{saved_registers}
use Rattle.live.specs.Live.{IsLiveAfter}
use Rattle.same_behaviour.specs.Lawful.{is_below_sp, locals_range}
use Rattle.same_behaviour.proofs.Entry.{same_or_not}
use Rattle.law_window_runs.specs.Beside.{Within}
use Rattle.law_window_kept.specs.Same.{KnownToo}
use Rattle.law_window_lines.proofs.Replies.{low_in}
use Rattle.assign.specs.Frame.{is_home, lives_in, saved_for_calls}
use Rattle.assign.specs.Frame as frames
use Rattle.assign.specs.declared.home.Home.{Home}
use Rattle.assign.specs.declared.home.Home.TheVariants.{Hard, Slot}
use Rattle.assign.specs.declared.home.HomeOf.{HomeOf}
use Rattle.assign.specs.declared.places.SavedAt.{SavedAt}
use Rattle.assign.specs.declared.places.SlotAt.{SlotAt}
use Rattle.reload_homes.specs.Homes.{home_of, slot_offset}
use Rattle.law_homes.specs.Kept.{in_slots, is_unsaved}
use Rattle.law_homes.specs.Stands.{content_in, has_home}
use Rattle.law_homes.proofs.Becoming.{changed_by}
use Rattle.law_homes.proofs.Grows.{load_too}
use Rattle.law_homes.proofs.HomesApart.{home_is, hard_home, homes_apart, same_hard, slot_is, slots_apart}
use Rattle.law_homes.proofs.Registers.{with_here, with_other, without_here, without_other}
use Rattle.law_homes.proofs.Setting.{Setting, IsNamed, base, home_least, slot_below, slot_no_local, slot_even}
use Rattle.law_homes.proofs.Stores.{IsWithin, load_each, slot_there, narrower_stored, store_hidden, store_seen, store_within}
pub use Rattle.law_homes.proofs.Stores.{eight_bytes}

-- ---- which effects change a register

abbrev pub changes_it : Option ℕ → ℕ → Bool
changes_it None reg = false
changes_it (Some t) reg = t == reg

abbrev pub changes : Effect → ℕ → Bool
changes e reg = changes_it (changed_by e) reg

abbrev pub later : List Effect → ℕ → Bool
later es reg = list_any (λ e. changes e reg) es

-- ---- the registers and memories of both

pub record Both : Type 0 where
  pub regs : Regs
  pub others : Regs
  pub memory : List MemByte
  pub other : List MemByte

abbrev pub after : Effect → Effect → Both → Both
after e e' b = record {
  regs = reg_after e b.regs;
  others = reg_after e' b.others;
  memory = bytes_after e b.memory;
  other = bytes_after e' b.other;
}

-- what is known of a register stands in its home
abbrev pub IsIn : Setting → Both → ℕ → Type 0
IsIn c b reg = (w : Width) (v : ℕ) → reg_value b.regs reg w ≡ Some v →
    content_in c.layout (base c) b.others b.other reg (home_of c.homes reg) w ≡ Some v

-- What holds of both while the effects of the instruction at a place are made: of each register that is live behind it what is known
-- stands in its home, but of those that a later effect changes.
pub record Holds (c : Setting) (place : ℕ) (waits : ℕ → Bool) (b : Both) : Type 0 where
  pub values : (reg : ℕ) → IsNamed reg → IsLiveAfter c.f reg place → (waits reg ≡ true) ⊎ IsIn c b reg
  pub vars : reg_value b.regs 32 W64 ≡ Some c.start.sp
  pub within : Within b.memory b.other
  pub outside : (address : ℕ) → is_some (byte_at b.memory address) ≡ true → is_below_sp c.start c.layout.size address ≡ true →
      is_below_sp c.start c.f.locals address ≡ true
  pub room : (address : ℕ) → is_below_sp c.start c.layout.size address ≡ true → is_some (byte_at b.other address) ≡ true
  pub seen : visible c.start.visible b.other ≡ visible c.start.visible b.memory
  pub pointer : reg_value b.others 2 W64 ≡ Some (base c)
  pub registers : (reg : ℕ) → is_unsaved c.layout reg ≡ true → KnownToo (entry_regs c.start) b.others reg
  pub kept : (address : ℕ) → is_below_sp c.start c.layout.size address ≡ true → is_below_sp c.start c.f.locals address ≡ false →
      in_slots c.layout (base c) address ≡ false → byte_at b.other address ≡ byte_at c.start.memory address

-- ---- numbers

abbrev pub NeverBoth : ℕ → ℕ → ℕ → ℕ → Type 0
NeverBoth a n b k = (place : ℕ) → a ≤ place → place < a + n → b ≤ place → place < b + k → ⊥

meet : (a n b k : ℕ) → NeverBoth a n b k → 0 < n → 0 < k → (o : Bool) → nat_le a b ≡ o → b < a + n → a < b + k → ⊥
meet a n b k never some more true is first second = let less : a ≤ b = grind (arith, nat_tests, is) in never b less first (omega arith) (omega (arith, more))
meet a n b k never some more false is first second = let less : b < a = grind (arith, nat_tests, is) in never a (omega arith) (omega (arith, some)) (omega (arith, less)) second

-- two ranges with no place in common are apart
pub from_ends : (a n b k : ℕ) → NeverBoth a n b k → 0 < n → 0 < k → Apart a n b k
from_ends a n b k never some more = by (nat_le (a + n) b) (nat_le (b + k) a) refl refl
  where
    by : (p q : Bool) → nat_le (a + n) b ≡ p → nat_le (b + k) a ≡ q → Apart a n b k
    by true q below above = inl (grind (arith, nat_tests, below))
    by false true below above = inr (grind (arith, nat_tests, above))
    by false false below above =
        let first : b < a + n = grind (arith, nat_tests, below) in
        let second : a < b + k = grind (arith, nat_tests, above) in
        absurd (meet a n b k never some more (nat_le a b) refl first second)

pub some_bytes : (w : Width) → 0 < bytes_of w
some_bytes W8 = omega arith
some_bytes W16 = omega arith
some_bytes W32 = omega arith
some_bytes W64 = omega arith

fewer_bytes : (w v : Width) → nat_le (bits_of w) (bits_of v) ≡ true → IsWithin w v
fewer_bytes W8 v is = some_bytes v
fewer_bytes W16 W8 is = absurd (let no : ⊥ = cc in no)
fewer_bytes W16 W16 is = omega arith
fewer_bytes W16 W32 is = omega arith
fewer_bytes W16 W64 is = omega arith
fewer_bytes W32 W8 is = absurd (let no : ⊥ = cc in no)
fewer_bytes W32 W16 is = absurd (let no : ⊥ = cc in no)
fewer_bytes W32 W32 is = omega arith
fewer_bytes W32 W64 is = omega arith
fewer_bytes W64 W8 is = absurd (let no : ⊥ = cc in no)
fewer_bytes W64 W16 is = absurd (let no : ⊥ = cc in no)
fewer_bytes W64 W32 is = absurd (let no : ⊥ = cc in no)
fewer_bytes W64 W64 is = omega arith

-- a store where there is room
stored : (w : Width) (memory : List MemByte) (at value : ℕ) (o : Option ℕ) → load w memory at ≡ o → is_some o ≡ true →
    bytes_after (Stores w at value) memory ≡ with_number memory at (bytes_of w) value
stored w memory at value None is there = absurd (false≢true there)
stored w memory at value (Some old) is there = ap (λ o. unwrap_or (option_map (λ _. with_number memory at (bytes_of w) value) o) memory) is

-- ---- lists

pub any_at : {A : Type 0} (p : A → Bool) (xs : List A) (i : ℕ) (x : A) → slice_get xs i ≡ Some x → p x ≡ true → list_any p xs ≡ true
any_at p [] i x at is = absurd (none-some x at)
any_at p (y ∷ xs) zero x at is = or_left (p y) (list_any p xs) (ap p (same_Some y x at) ∙ is)
any_at p (y ∷ xs) (suc i) x at is = or_right (p y) (list_any p xs) (any_at p xs i x at is)

pub any_mapped : {A B : Type 0} (p : B → Bool) (g : A → B) (xs : List A) (i : ℕ) (x : A) → slice_get xs i ≡ Some x → p (g x) ≡ true → list_any p (map g xs) ≡ true
any_mapped p g [] i x at is = absurd (none-some x at)
any_mapped p g (y ∷ xs) zero x at is = or_left (p (g y)) (list_any p (map g xs)) (ap (λ y. p (g y)) (same_Some y x at) ∙ is)
any_mapped p g (y ∷ xs) (suc i) x at is = or_right (p (g y)) (list_any p (map g xs)) (any_mapped p g xs i x at is)

pub one_has : (test : ℕ → Bool) (xs : List ℕ) (reg : ℕ) → list_all test xs ≡ true → has_reg xs reg ≡ true → test reg ≡ true
one_has test [] reg all has = absurd (false≢true has)
one_has test (x ∷ xs) reg all has =
    let both = and_parts (test x) (list_all test xs) all in
    elim (or_cases (x == reg) (has_reg xs reg) has) [
      | inl here ↦ subst (λ n. test n ≡ true) (eqb-true x reg here) both.0
      | inr more ↦ one_has test xs reg both.1 more
    ]

filter_has : (p : ℕ → Bool) (xs : List ℕ) (reg : ℕ) → has_reg xs reg ≡ true → p reg ≡ true → has_reg (filter p xs) reg ≡ true
filter_has p [] reg has is = absurd (false≢true has)
filter_has p (x ∷ xs) reg has is = by (p x) refl (λ more. filter_has p xs reg more is)
  where
    by : (b : Bool) → p x ≡ b → (has_reg xs reg ≡ true → has_reg (filter p xs) reg ≡ true) → has_reg (cond b (x ∷ filter p xs) (filter p xs)) reg ≡ true
    by true kept rest = elim (or_cases (x == reg) (has_reg xs reg) has) [
      | inl here ↦ or_left (x == reg) _ here
      | inr more ↦ or_right (x == reg) _ (rest more)
    ]
    by false dropped rest = elim (or_cases (x == reg) (has_reg xs reg) has) [
      | inl here ↦ absurd (false≢true (sym dropped ∙ ap p (eqb-true x reg here) ∙ is))
      | inr more ↦ rest more
    ]

later_has : (xs ys : List ℕ) (reg : ℕ) → has_reg ys reg ≡ true → has_reg (xs ++ ys) reg ≡ true
later_has [] ys reg has = has
later_has (x ∷ xs) ys reg has = or_right (x == reg) _ (later_has xs ys reg has)

-- ---- what is known of homes and the frame

turn : (b : Bool) → not b ≡ true → b ≡ true → ⊥
turn true is here = false≢true is
turn false is here = false≢true here

in_locals : (start : Start) (locals address : ℕ) → locals ≤ start.sp → is_visible (locals_range start locals) address ≡ true →
    is_below_sp start locals address ≡ true
in_locals start zero address fits seen = absurd (false≢true seen)
in_locals start (suc n) address fits seen = grind (arith, nat_tests, seen, fits)

module _ (c : Setting) where
  abbrev slot_at : ℕ → ℕ
  slot_at reg = base c + slot_offset c.layout reg

  no_vars : (reg : ℕ) → IsNamed reg → reg ≡ 32 → ⊥
  no_vars reg named is = false≢true (sym (ap has_home is) ∙ named.has)

  pub some_reg : (reg : ℕ) → IsNamed reg → 0 < reg
  some_reg reg named = let least = home_least reg named.has in omega (arith, least)

  pub hard_least : (reg hard : ℕ) → IsNamed reg → home_of c.homes reg ≡ Hard hard → 5 ≤ hard
  hard_least reg hard named is = elim (hard_home c.f c.homes c.are_homes reg hard is) [
    | inl among ↦ among.0
    | inr same ↦ let least = home_least reg named.has in omega (arith, same, least)
  ]

  -- what the frame does not save is no home
  listed_saved : (hard k : ℕ) (x : HomeOf) → slice_get c.homes k ≡ Some x → x.home ≡ Hard hard → has_reg saved_registers hard ≡ true →
      has_reg (map (λ (s : SavedAt). s.reg) c.layout.saved) hard ≡ true
  listed_saved hard k x at is has =
      let lives : is_home c.homes hard ≡ true = any_at (lives_in hard) c.homes k x at (ap (λ home. frames.is_in hard home) is ∙ eq-eqb hard hard refl) in
      ap (λ regs. has_reg regs hard) c.frame.saved
      ∙ later_has (saved_for_calls c.f.insns) (filter (is_home c.homes) saved_registers) hard (filter_has (is_home c.homes) saved_registers hard has lives)

  pub unsaved_no_home : (reg hard : ℕ) → IsNamed reg → home_of c.homes reg ≡ Hard hard → is_unsaved c.layout hard ≡ true → ⊥
  unsaved_no_home reg hard named is unsaved =
      let both = and_parts (has_reg (1 ∷ saved_registers) hard) (not (has_reg (map (λ (s : SavedAt). s.reg) c.layout.saved) hard)) unsaved in
      elim (home_is c.homes reg) [
        | inl (k, x, at, same, home) ↦ elim (or_cases (1 == hard) (has_reg saved_registers hard) both.0) [
          | inl ra ↦ let one = eqb-true 1 hard ra in let least = hard_least reg hard named is in omega (arith, one, least)
          | inr among ↦ turn (has_reg (map (λ (s : SavedAt). s.reg) c.layout.saved) hard) both.1 (listed_saved hard k x at (sym home ∙ is) among)
        ]
        | inr itself ↦
            let same : reg ≡ hard = same_hard reg hard (sym itself ∙ is) in
            turn (has_home hard) (one_has (λ n. not (has_home n)) (1 ∷ saved_registers) hard refl both.0) (sym (ap has_home same) ∙ named.has)
      ]

  -- of the frame the caller sees the locals alone
  pub hidden : (address : ℕ) → is_below_sp c.start c.layout.size address ≡ true → is_below_sp c.start c.f.locals address ≡ false →
      is_visible c.start.visible address ≡ false
  hidden address inside other =
      ap (λ ranges. is_visible ranges address) c.lawful.visible_is
      ∙ list_any-append (is_in address) c.lawful.ranges (locals_range c.start c.f.locals)
      ∙ ap (λ b. b || is_visible (locals_range c.start c.f.locals) address) (c.lawful.apart address inside)
      ∙ false_from_ne_true (is_visible (locals_range c.start c.f.locals) address)
      (λ seen. let fits = c.lawful.holds in let above = c.lawful.above_zero in
      false≢true (sym other ∙ in_locals c.start c.f.locals address (omega (arith, fits, above)) seen))

  -- a byte of a slot is in the slots
  pub slot_in : (reg address : ℕ) → home_of c.homes reg ≡ Slot → slot_at reg ≤ address → address < slot_at reg + 8 → in_slots c.layout (base c) address ≡ true
  slot_in reg address is least most =
      let slot = slot_is c.f c.homes c.layout c.frame reg is in
      let offset = slot.4 in
      let first : base c + slot.1.offset ≤ address = omega (arith, least, offset) in
      let second : address < base c + slot.1.offset + 8 = omega (arith, most, offset) in
      any_mapped (is_in address) (λ (s : SlotAt). record { address = base c + s.offset; length = 8 }) c.layout.slots slot.0 slot.1 slot.2
      (grind (arith, nat_tests, first, second))

  -- what stands in a home stays where the home does
  pub content_same : (reg : ℕ) (home : Home) (w : Width) (others others' : Regs) (other other' : List MemByte) →
      ((hard : ℕ) → home ≡ Hard hard → reg_value others' hard w ≡ reg_value others hard w) →
      (home ≡ Slot → load w other' (slot_at reg) ≡ load w other (slot_at reg)) →
      content_in c.layout (base c) others' other' reg home w ≡ content_in c.layout (base c) others other reg home w
  content_same reg (Hard hard) w others others' other other' registers slots = registers hard refl
  content_same reg Slot w others others' other other' registers slots = slots refl

  -- ---- one effect, of an instruction at a place

  module _ (place : ℕ) (i : Insn) (at : slice_get c.f.insns place ≡ Some i) where
    other_hard : (d r hard h : ℕ) → d ≢ r → insn_defines i d ≡ true → IsLiveAfter c.f r place → home_of c.homes d ≡ Hard hard →
        home_of c.homes r ≡ Hard h → hard ≡ h → ⊥
    other_hard d r hard h differ defines live is_d is_r same =
        homes_apart c.f c.homes c.are_homes d r hard differ (inl (place, i, at, defines, live)) is_d (is_r ∙ ap Hard (sym same))

    abbrev WaitsToo : ℕ → (ℕ → Bool) → ℕ → Bool
    WaitsToo reg waits r = (reg == r) || waits r

    -- each register that is live behind, by whether it is the one that changes
    each_value : (waits : ℕ → Bool) (reg : ℕ) (b b' : Both) → Holds c place (WaitsToo reg waits) b → IsIn c b' reg →
        ((r : ℕ) → reg ≢ r → IsNamed r → IsLiveAfter c.f r place → IsIn c b r → IsIn c b' r) →
        (r : ℕ) → IsNamed r → IsLiveAfter c.f r place → (waits r ≡ true) ⊎ IsIn c b' r
    each_value waits reg b b' h here rest r named live = ⊎_elim
        (λ (same : reg ≡ r). inr (subst (IsIn c b') same here))
        (λ (other : reg ≢ r). elim (h.values r named live) [
          | inl waiting ↦ elim (or_cases (reg == r) (waits r) waiting) [
            | inl it ↦ absurd (other (eqb-true reg r it))
            | inr more ↦ inl more
          ]
          | inr held ↦ inr (rest r other named live held)
        ])
        (same_or_not reg r)

    pub sets_step : (waits : ℕ → Bool) (reg hard : ℕ) (known : Known) (b : Both) → home_of c.homes reg ≡ Hard hard → IsNamed reg →
        insn_defines i reg ≡ true → Holds c place (WaitsToo reg waits) b → Holds c place waits (after (Sets reg known) (Sets hard known) b)
    sets_step waits reg hard known b home named defines h = record {
      values = each_value waits reg b (after (Sets reg known) (Sets hard known) b) h here rest;
      vars = with_other b.regs reg 32 known W64 (no_vars reg named) ∙ h.vars;
      within = h.within;
      outside = h.outside;
      room = h.room;
      seen = h.seen;
      pointer = with_other b.others hard 2 known W64 (λ same. let least = hard_least reg hard named home in omega (arith, least, same)) ∙ h.pointer;
      registers = λ r unsaved w v is.
          with_other b.others hard r known w (λ same. unsaved_no_home reg hard named home (ap (is_unsaved c.layout) same ∙ unsaved)) ∙ h.registers r unsaved w v is;
      kept = h.kept;
    }
      where
        some_hard : 0 < hard
        some_hard = let least = hard_least reg hard named home in omega (arith, least)

        here : IsIn c (after (Sets reg known) (Sets hard known) b) reg
        here w v is =
            ap (λ home. content_in c.layout (base c) (reg_after (Sets hard known) b.others) b.other reg home w) home
            ∙ with_here b.others hard known w some_hard
            ∙ sym (with_here b.regs reg known w (some_reg reg named))
            ∙ is

        rest : (r : ℕ) → reg ≢ r → IsNamed r → IsLiveAfter c.f r place → IsIn c b r → IsIn c (after (Sets reg known) (Sets hard known) b) r
        rest r other named_r live held w v is =
            content_same r (home_of c.homes r) w b.others (reg_after (Sets hard known) b.others) b.other b.other
            (λ h2 is_r. with_other b.others hard h2 known w (other_hard reg r hard h2 other defines live home is_r)) (λ slot. refl)
            ∙ held w v (sym (with_other b.regs reg r known w other) ∙ is)

    pub unsets_step : (waits : ℕ → Bool) (reg hard : ℕ) (b : Both) → home_of c.homes reg ≡ Hard hard → IsNamed reg →
        insn_defines i reg ≡ true → Holds c place (WaitsToo reg waits) b → Holds c place waits (after (Unsets reg) (Unsets hard) b)
    unsets_step waits reg hard b home named defines h = record {
      values = each_value waits reg b (after (Unsets reg) (Unsets hard) b) h here rest;
      vars = without_other b.regs reg 32 W64 (no_vars reg named) ∙ h.vars;
      within = h.within;
      outside = h.outside;
      room = h.room;
      seen = h.seen;
      pointer = without_other b.others hard 2 W64 (λ same. let least = hard_least reg hard named home in omega (arith, least, same)) ∙ h.pointer;
      registers = λ r unsaved w v is.
          without_other b.others hard r w (λ same. unsaved_no_home reg hard named home (ap (is_unsaved c.layout) same ∙ unsaved)) ∙ h.registers r unsaved w v is;
      kept = h.kept;
    }
      where
        here : IsIn c (after (Unsets reg) (Unsets hard) b) reg
        here w v is = absurd (let no : ◌≡◌ {A = Option ℕ} None (Some v) = sym (without_here b.regs reg w (some_reg reg named)) ∙ is in let never : ⊥ = cc in never)

        rest : (r : ℕ) → reg ≢ r → IsNamed r → IsLiveAfter c.f r place → IsIn c b r → IsIn c (after (Unsets reg) (Unsets hard) b) r
        rest r other named_r live held w v is =
            content_same r (home_of c.homes r) w b.others (reg_after (Unsets hard) b.others) b.other b.other
            (λ h2 is_r. without_other b.others hard h2 w (other_hard reg r hard h2 other defines live home is_r)) (λ slot. refl)
            ∙ held w v (sym (without_other b.regs reg r w other) ∙ is)

    -- a register that lives in a slot is unset, and its slot is left
    pub leaves_step : (waits : ℕ → Bool) (reg : ℕ) (b : Both) → IsNamed reg → Holds c place (WaitsToo reg waits) b → Holds c place waits (after (Unsets reg) Nothing b)
    leaves_step waits reg b named h = record {
      values = each_value waits reg b (after (Unsets reg) Nothing b) h
          (λ w v is. absurd (let no : ◌≡◌ {A = Option ℕ} None (Some v) = sym (without_here b.regs reg w (some_reg reg named)) ∙ is in let never : ⊥ = cc in never))
          (λ r other named_r live held w v is. held w v (sym (without_other b.regs reg r w other) ∙ is));
      vars = without_other b.regs reg 32 W64 (no_vars reg named) ∙ h.vars;
      within = h.within;
      outside = h.outside;
      room = h.room;
      seen = h.seen;
      pointer = h.pointer;
      registers = h.registers;
      kept = h.kept;
    }

    -- ---- a slot that is filled

    slot_loads : (b : Both) (reg : ℕ) → ((address : ℕ) → is_below_sp c.start c.layout.size address ≡ true → is_some (byte_at b.other address) ≡ true) →
        home_of c.homes reg ≡ Slot → (w : Width) → is_some (load w b.other (slot_at reg)) ≡ true
    slot_loads b reg room home = slot_there b.other (slot_at reg) (slot_even c reg home) (λ q least most. room q (slot_below c reg q home least most))

    low_of : (v w : Width) (value x : ℕ) (fits : Bool) → nat_le (bits_of v) (bits_of w) ≡ fits → (if fits then Some (low v (low w value)) else None) ≡ Some x →
        IsWithin v w × (low v value ≡ x)
    low_of v w value x true fits is = (fewer_bytes v w fits, sym (low_in v w value fits) ∙ (let same : low v (low w value) ≡ x = cc in same))
    low_of v w value x false fits is = absurd (let no : ⊥ = cc in no)

    -- bytes of the frame below the locals are in no memory of the function
    no_byte : (waits : ℕ → Bool) (b : Both) → Holds c place waits b → (address : ℕ) → is_below_sp c.start c.layout.size address ≡ true →
        is_below_sp c.start c.f.locals address ≡ false → is_some (byte_at b.memory address) ≡ true → ⊥
    no_byte waits b h address inside other there = false≢true (sym other ∙ h.outside address there inside)

    pub fills_step : (waits : ℕ → Bool) (reg : ℕ) (w : Width) (value : ℕ) (b : Both) → home_of c.homes reg ≡ Slot → IsNamed reg →
        Holds c place (WaitsToo reg waits) b → Holds c place waits (after (Sets reg (known_of w value)) (Stores w (slot_at reg) value) b)
    fills_step waits reg w value b home named h = record {
      values = each_value waits reg b b' h here rest;
      vars = with_other b.regs reg 32 (known_of w value) W64 (no_vars reg named) ∙ h.vars;
      within = λ address byte has. ap (λ m. byte_at m address) becomes ∙ byte_at-with_number_other b.other (slot_at reg) (bytes_of w) value address (away address (ap is_some has)) ∙ h.within address byte has;
      outside = h.outside;
      room = λ address inside. ap (λ m. is_some (byte_at m address)) becomes ∙ has-with_number b.other (slot_at reg) (bytes_of w) value address ∙ h.room address inside;
      seen = ap (visible c.start.visible) becomes ∙ store_hidden c.start.visible b.other (slot_at reg) (bytes_of w) value hides ∙ h.seen;
      pointer = h.pointer;
      registers = h.registers;
      kept = λ address inside other free. ap (λ m. byte_at m address) becomes
          ∙ byte_at-with_number_other b.other (slot_at reg) (bytes_of w) value address (apart_free address free) ∙ h.kept address inside other free;
    }
      where
        b' : Both
        b' = after (Sets reg (known_of w value)) (Stores w (slot_at reg) value) b

        there : is_some (load w b.other (slot_at reg)) ≡ true
        there = slot_loads b reg h.room home w

        becomes : bytes_after (Stores w (slot_at reg) value) b.other ≡ with_number b.other (slot_at reg) (bytes_of w) value
        becomes = stored w b.other (slot_at reg) value (load w b.other (slot_at reg)) refl there

        away : (address : ℕ) → is_some (byte_at b.memory address) ≡ true → Apart (slot_at reg) (bytes_of w) address 1
        away address has = from_ends (slot_at reg) (bytes_of w) address 1 (λ q least most first last.
            let same : q ≡ address = omega (arith, first, last) in
            let few = eight_bytes w in
            let end : q < slot_at reg + 8 = omega (arith, most, few) in
            no_byte (WaitsToo reg waits) b h q (slot_below c reg q home least end) (slot_no_local c reg q home least end) (ap (λ a. is_some (byte_at b.memory a)) same ∙ has))
            (some_bytes w) (omega arith)

        apart_free : (address : ℕ) → in_slots c.layout (base c) address ≡ false → Apart (slot_at reg) (bytes_of w) address 1
        apart_free address free = from_ends (slot_at reg) (bytes_of w) address 1 (λ q least most first last.
            let same : q ≡ address = omega (arith, first, last) in
            let few = eight_bytes w in
            false≢true (sym free ∙ (ap (in_slots c.layout (base c)) (sym same) ∙ slot_in reg q home least (omega (arith, most, few)))))
            (some_bytes w) (omega arith)

        hides : (q : ℕ) → slot_at reg ≤ q → q < slot_at reg + bytes_of w → is_visible c.start.visible q ≡ false
        hides q least most =
            let few = eight_bytes w in
            let end : q < slot_at reg + 8 = omega (arith, most, few) in
            hidden q (slot_below c reg q home least end) (slot_no_local c reg q home least end)

        here : IsIn c b' reg
        here v x is =
            let parts = low_of v w value x (nat_le (bits_of v) (bits_of w)) refl (sym (with_here b.regs reg (known_of w value) v (some_reg reg named)) ∙ is) in
            ap (λ home. content_in c.layout (base c) b.others (bytes_after (Stores w (slot_at reg) value) b.other) reg home v) home
            ∙ ap (λ m. load v m (slot_at reg)) becomes
            ∙ narrower_stored v w b.other (slot_at reg) value parts.0 there
            ∙ ap Some parts.1

        rest : (r : ℕ) → reg ≢ r → IsNamed r → IsLiveAfter c.f r place → IsIn c b r → IsIn c b' r
        rest r other named_r live held v x is =
            content_same r (home_of c.homes r) v b.others b.others b.other (bytes_after (Stores w (slot_at reg) value) b.other)
            (λ hard is_r. refl)
            (λ slot. ap (λ m. load v m (slot_at r)) becomes
            ∙ load-stored_other w v b.other (slot_at reg) value (slot_at r) (apart_slots r other slot v))
            ∙ held v x (sym (with_other b.regs reg r (known_of w value) v other) ∙ is)
          where
            apart_slots : (r : ℕ) → reg ≢ r → home_of c.homes r ≡ Slot → (v : Width) → Apart (slot_at reg) (bytes_of w) (slot_at r) (bytes_of v)
            apart_slots r other slot v =
                let one = eight_bytes w in
                let two = eight_bytes v in
                ⊎_elim
                (λ (below : slot_offset c.layout reg + 8 ≤ slot_offset c.layout r). inl (omega (arith, below, one)))
                (λ (above : slot_offset c.layout r + 8 ≤ slot_offset c.layout reg). inr (omega (arith, above, two)))
                (slots_apart c.f c.homes c.layout c.frame reg r other home slot)

    -- ---- a store of the function

    pub stores_step : (waits : ℕ → Bool) (w : Width) (place_at value : ℕ) (b : Both) → is_some (load w b.memory place_at) ≡ true →
        Holds c place waits b → Holds c place waits (after (Stores w place_at value) (Stores w place_at value) b)
    stores_step waits w place_at value b there h = record {
      values = λ r named live. elim (h.values r named live) [
        | inl waiting ↦ inl waiting
        | inr held ↦ inr (kept_in r held)
      ];
      vars = h.vars;
      within = subst (λ m. Within m (bytes_after (Stores w place_at value) b.other)) (sym first)
          (subst (Within (with_number b.memory place_at (bytes_of w) value)) (sym second) (store_within b.memory b.other place_at (bytes_of w) value h.within));
      outside = λ address has inside. h.outside address (sym (has-with_number b.memory place_at (bytes_of w) value address) ∙ (sym (ap (λ m. is_some (byte_at m address)) first) ∙ has)) inside;
      room = λ address inside. ap (λ m. is_some (byte_at m address)) second ∙ has-with_number b.other place_at (bytes_of w) value address ∙ h.room address inside;
      seen = ap (visible c.start.visible) second ∙ store_seen c.start.visible b.other place_at (bytes_of w) value
          ∙ ap (λ m. with_number m place_at (bytes_of w) value) h.seen
          ∙ sym (store_seen c.start.visible b.memory place_at (bytes_of w) value) ∙ sym (ap (visible c.start.visible) first);
      pointer = h.pointer;
      registers = h.registers;
      kept = λ address inside other free. ap (λ m. byte_at m address) second
          ∙ byte_at-with_number_other b.other place_at (bytes_of w) value address (away address inside other) ∙ h.kept address inside other free;
    }
      where
        there_too : is_some (load w b.other place_at) ≡ true
        there_too = by (load w b.memory place_at) refl there
          where
            by : (o : Option ℕ) → load w b.memory place_at ≡ o → is_some o ≡ true → is_some (load w b.other place_at) ≡ true
            by None is has = absurd (false≢true has)
            by (Some v) is has = ap is_some (load_too b.memory b.other h.within w place_at v is)

        first : bytes_after (Stores w place_at value) b.memory ≡ with_number b.memory place_at (bytes_of w) value
        first = stored w b.memory place_at value (load w b.memory place_at) refl there

        second : bytes_after (Stores w place_at value) b.other ≡ with_number b.other place_at (bytes_of w) value
        second = stored w b.other place_at value (load w b.other place_at) refl there_too

        away : (address : ℕ) → is_below_sp c.start c.layout.size address ≡ true → is_below_sp c.start c.f.locals address ≡ false →
            Apart place_at (bytes_of w) address 1
        away address inside other = from_ends place_at (bytes_of w) address 1 (λ q least most begin last.
            let same : q ≡ address = omega (arith, begin, last) in
            no_byte waits b h address inside other (ap (λ a. is_some (byte_at b.memory a)) (sym same) ∙ load_each w b.memory place_at there q least most))
            (some_bytes w) (omega arith)

        kept_in : (r : ℕ) → IsIn c b r → IsIn c (after (Stores w place_at value) (Stores w place_at value) b) r
        kept_in r held v x is =
            content_same r (home_of c.homes r) v b.others b.others b.other (bytes_after (Stores w place_at value) b.other)
            (λ hard is_r. refl)
            (λ slot. ap (λ m. load v m (slot_at r)) second ∙ load-stored_other w v b.other place_at value (slot_at r) (apart_slot slot))
            ∙ held v x is
          where
            apart_slot : home_of c.homes r ≡ Slot → Apart place_at (bytes_of w) (slot_at r) (bytes_of v)
            apart_slot slot = from_ends place_at (bytes_of w) (slot_at r) (bytes_of v) (λ q least most begin last.
                let few = eight_bytes v in
                let end : q < slot_at r + 8 = omega (arith, last, few) in
                no_byte waits b h q (slot_below c r q slot begin end) (slot_no_local c r q slot begin end) (load_each w b.memory place_at there q least most))
                (some_bytes w) (some_bytes v)
