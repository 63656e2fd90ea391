-- The effects of an instruction with homes put in are tame, and tame effects leave what stays.
use Rattle.std.proofs.Common.{◌≡◌, ℕ, suc, ◌+◌, ◌-◌, ◌<◌, ◌≤◌, ◌||◌, inl, inr, Bool, true, false, List, [], ◌∷◌, map, Some, refl, sym, ap, subst, ◌∙◌, arith}
use Rattle.std.proofs.lemmas.Bool.{false≢true, or_cases, false_from_ne_true, leb-true, and_parts}
use Rattle.std.proofs.lemmas.Bool.Decides.{nat_tests}
use Rattle.std.specs.List.{list_any}
use Rattle.std.specs.Prelude.{is_some, nat_le, slice_get}
use Rattle.bits64.specs.Words.{bytes_of}
use Rattle.bits64.specs.declared.Width.{Width}
use Rattle.rtx_tree.specs.Registers.{pseudo}
use Rattle.rtx_tree.specs.Tree.{mentions_reg}
use Rattle.rtx_tree.specs.declared.function.Insn.{Insn}
use Rattle.rtx_tree.specs.declared.function.Kind.TheVariants as kind
use Rattle.run_memory.specs.RunMemory.{load, is_in}
use Rattle.rtl_step.specs.declared.effect.Effect.{Effect}
use Rattle.rtl_step.specs.declared.effect.Effect.TheVariants.{Stores}
use Rattle.rtl_step.specs.declared.step.State.{State}
use Rattle.rtl_func.specs.Calls.{is_argument}
use Rattle.same_behaviour.specs.Lawful.{is_below_sp}
use Rattle.rtx_tree.specs.RegSet.{has_reg}
use Rattle.assign.specs.Homes.{pseudos}
use Rattle.assign.specs.declared.home.Home.TheVariants.{Hard}
use Rattle.assign.specs.declared.places.SlotAt.{SlotAt}
use Rattle.reload_homes.specs.Homes.{home_of}
use Rattle.law_homes.specs.Kept.{in_slots, is_unsaved}
use Rattle.law_homes.specs.Placed.{BecomesInHomes}
use Rattle.law_homes.specs.Placed as effects
use Rattle.law_homes.specs.Tame.{IsFree, IsOutside, IsTame}
use Rattle.law_homes.specs.Tame as tame
use Rattle.law_homes.proofs.After.{any_at, unsaved_no_home}
use Rattle.law_homes.proofs.HomesApart.{hard_home, order_home, listed_home, slot_is, of_slot}
use Rattle.law_homes.proofs.Plain.{Made, AllMade, made_none, made_more, PlainDoes}
use Rattle.law_homes.proofs.Setting.{Setting, IsNamed, base, StandsIn, frame_is}
use Rattle.law_homes.proofs.Stores.{load_each}

-- each of some effects is tame
pub data AllTame (c : Setting) : List Effect → Type 0 where
  tame_none : AllTame c []
  tame_more : (e : Effect) (es : List Effect) → IsTame c.layout c.f.locals c.start e → AllTame c es → AllTame c (e ∷ es)

mapped_any : {A B : Type 0} (p : B → Bool) (g : A → B) (xs : List A) → list_any p (map g xs) ≡ true → (i : ℕ) × (x : A) × (slice_get xs i ≡ Some x) × (p (g x) ≡ true)
mapped_any p g [] has = absurd (false≢true has)
mapped_any {A = A} {B = B} p g (x ∷ xs) has = by (p (g x)) refl has (mapped_any p g xs)
  where
    by : (b : Bool) → p (g x) ≡ b → b || list_any p (map g xs) ≡ true →
        (list_any p (map g xs) ≡ true → (i : ℕ) × (y : A) × (slice_get xs i ≡ Some y) × (p (g y) ≡ true)) →
        (i : ℕ) × (y : A) × (slice_get (x ∷ xs) i ≡ Some y) × (p (g y) ≡ true)
    by true is has rest = (0, x, refl, is)
    by false is has rest = let more = rest has in (suc more.0, more.1, more.2, more.3)

module _ (c : Setting) where
  -- a byte of a slot is in the frame and below the locals
  slots_below : (address : ℕ) → in_slots c.layout (base c) address ≡ true →
      (is_below_sp c.start c.layout.size address ≡ true) × (is_below_sp c.start c.f.locals address ≡ false)
  slots_below address has =
      let found = mapped_any (is_in address) (λ (s : SlotAt). record { address = base c + s.offset; length = 8 }) c.layout.slots has in
      let offset = found.1.offset in
      let within : offset + 8 + c.f.locals ≤ c.layout.size = of_slot c.f c.homes c.layout c.frame (λ offset. offset + 8 + c.f.locals ≤ c.layout.size) c.frame.within found.0 found.1 found.2 in
      let test = found.3 in
      let least : base c + offset ≤ address = grind (arith, nat_tests, test) in
      let most : address < base c + offset + 8 = grind (arith, nat_tests, test) in
      let above = frame_is c in
      let first : c.start.sp ≤ address + c.layout.size = omega (arith, least, above) in
      let second : address < c.start.sp = omega (arith, most, within, above) in
      let below : address + c.f.locals < c.start.sp = omega (arith, most, within, above) in
      (grind (arith, nat_tests, first, second), grind (arith, nat_tests, below))

  -- ---- the effects of an instruction

  module _ (place : ℕ) (i : Insn) (at : slice_get c.f.insns place ≡ Some i) where
    number_of : (reg : ℕ) → 64 ≤ reg → reg ≡ pseudo (reg - 64)
    number_of reg above = omega (arith, above)

    -- the home of a register that stands in the instruction
    home_order : (reg hard : ℕ) → IsNamed reg → mentions_reg reg i.pattern ≡ true → home_of c.homes reg ≡ Hard hard → (5 ≤ hard) × (hard ≤ 27)
    home_order reg hard named mentioned is = elim (hard_home c.f c.homes c.are_homes reg hard is) [
      | inl among ↦ among
      | inr same ↦ elim (or_cases (is_argument reg) (nat_le (pseudo 0) reg) named.has) [
        | inl argument ↦
            let both = and_parts (nat_le 10 reg) (nat_le reg 17) argument in
            let least = leb-true 10 reg both.0 in
            let most = leb-true reg 17 both.1 in
            (omega (arith, same, least), omega (arith, same, most))
        | inr above ↦
            let number = number_of reg (leb-true 64 reg above) in
            let stands : has_reg (pseudos c.homes) (reg - 64) ≡ true =
            c.are_homes.named (reg - 64) ∙ any_at (λ (j : Insn). mentions_reg (pseudo (reg - 64)) j.pattern) c.f.insns place i at (ap (λ r. mentions_reg r i.pattern) (sym number) ∙ mentioned) in
            let home = listed_home c.homes (reg - 64) stands in
            order_home c.f c.homes c.are_homes home.0 hard home.1 home.2 (sym home.3 ∙ (ap (home_of c.homes) (sym number) ∙ is))
      ]
    ]

    free_home : (reg hard : ℕ) → IsNamed reg → mentions_reg reg i.pattern ≡ true → home_of c.homes reg ≡ Hard hard → IsFree c.layout hard
    free_home reg hard named mentioned is =
        let both = home_order reg hard named mentioned is in
        let least = both.0 in
        let most = both.1 in
        record {
          home = grind (arith, nat_tests, least, most);
          saved = false_from_ne_true (is_unsaved c.layout hard) (unsaved_no_home c reg hard named is);
        }

    module _ (s u : State) (stands : StandsIn c place s u) where
      outside_slots : (w : Width) (q : ℕ) → is_some (load w s.memory q) ≡ true → IsOutside c.layout c.f.locals c.start q (bytes_of w)
      outside_slots w q there = record {
        no_slot = λ address least most. false_from_ne_true (in_slots c.layout (base c) address) (λ has.
            let below = slots_below address has in
            false≢true (sym below.1 ∙ stands.outside address (load_each w s.memory q there address least most) below.0));
        local = λ address least most inside. stands.outside address (load_each w s.memory q there address least most) inside;
      }

      one_tame : (e e' : Effect) → BecomesInHomes c.homes c.layout (base c) e e' → Made c place i at s.memory e e' → IsTame c.layout c.f.locals c.start e'
      one_tame _ _ (effects.sets reg hard known home) made = tame.sets hard known (free_home reg hard (made.named reg refl) (made.mentioned reg refl) home)
      one_tame _ _ (effects.fills reg w value home) made =
          let slot = slot_is c.f c.homes c.layout c.frame reg home in
          subst (λ offset. IsTame c.layout c.f.locals c.start (Stores w (base c + offset) value)) (sym slot.4) (tame.fills w slot.0 value slot.1 slot.2)
      one_tame _ _ (effects.unsets reg hard home) made = tame.unsets hard (free_home reg hard (made.named reg refl) (made.mentioned reg refl) home)
      one_tame _ _ (effects.leaves reg home) made = tame.nothing
      one_tame _ _ (effects.stores w q value) made = tame.stores w q value (outside_slots w q (made.stored w q value refl))
      one_tame _ _ effects.nothing made = tame.nothing

      -- the effects with homes put in
      pub all_tame : (es es' : List Effect) → AllMade c place i at s.memory es es' → AllTame c es'
      all_tame _ _ made_none = tame_none
      all_tame _ _ (made_more e e' es es' made rest) = tame_more e' es' (one_tame e e' made.becomes made) (all_tame es es' rest)

      -- those of a plain instruction
      pub plain_tame : (plain : i.kind ≡ kind.Plain) (es : List Effect) (does : PlainDoes c place i at plain s u stands es) → AllTame c does.these
      plain_tame plain es does = all_tame es does.these does.made
