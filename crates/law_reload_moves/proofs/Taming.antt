-- The effects of an instruction whose homes are put in leave alone what stays through the run of a function.
use Rattle.std.proofs.Common.{◌≡◌, ◌≢◌, ◌⊎◌, inl, inr, ℕ, zero, suc, ◌+◌, ◌-◌, ◌<◌, ◌≤◌, ◌==◌, ◌&&◌, ◌||◌, not, Bool, true, false, List, [], ◌∷◌, map, Some, refl, sym, ap, subst, ◌∙◌, arith}
use Rattle.std.proofs.lemmas.Bool.{and_parts, leb-true, or_left, or_right}
use Rattle.std.proofs.lemmas.Bool.Decides.{nat_tests}
use Rattle.std.specs.List.{list_any}
use Rattle.std.specs.Prelude.{nat_le, nat_lt, slice_get}
use Rattle.law_operands_fetched.specs.bits64.Words.{bytes_of}
use Rattle.law_operands_fetched.specs.bits64.declared.Width.{Width}
use Rattle.law_operands_fetched.specs.bits64.declared.Width.TheVariants.{W8, W16, W32, W64}
use Rattle.law_operands_fetched.specs.rtx_tree.RegSet.{has_reg}
use Rattle.law_operands_fetched.specs.rtx_tree.declared.machine.Start.{Start}
use Rattle.law_operands_fetched.specs.rv_regs.Registers.{return_address, saved_registers}
use Rattle.law_operands_fetched.specs.rtl_step.declared.effect.Effect.{Effect}
use Rattle.law_operands_fetched.specs.assign.declared.places.Layout.{Layout}
use Rattle.law_operands_fetched.specs.assign.declared.places.SavedAt.{SavedAt}
use Rattle.law_operands_fetched.specs.assign.declared.places.SlotAt.{SlotAt}
use Rattle.law_operands_fetched.specs.law_frame.Kept.{is_saved, is_saved_at, is_in_slot}
use Rattle.law_operands_fetched.specs.law_homes.Tame.{IsFree}
use Rattle.law_operands_fetched.specs.law_homes.Tame as homes
use Rattle.law_operands_fetched.proofs.law_homes.Setting.{Setting}
use Rattle.law_operands_fetched.proofs.law_homes.Tamed.{AllTame, tame_none, tame_more}
use Rattle.law_operands_fetched.specs.Tame.{IsHome, IsTame, AreTame}
use Rattle.law_reload_moves.proofs.RowsThere.{once_of}

-- ---- a register that is saved

saved_same : (reg : ℕ) (saved : List SavedAt) → has_reg (map (λ (s : SavedAt). s.reg) saved) reg ≡ list_any (is_saved_at reg) saved
saved_same reg [] = refl
saved_same reg (s ∷ saved) = ap (λ rest. (s.reg == reg) || rest) (saved_same reg saved)

second_false : (a b : Bool) → (a && b) ≡ false → a ≡ true → b ≡ false
second_false true b is has = is
second_false false b is has = absurd (let no : ⊥ = cc in no)

-- ---- an address in a slot

slot_has : (slots : List SlotAt) (k : ℕ) (slot : SlotAt) (base address : ℕ) → slice_get slots k ≡ Some slot → is_in_slot base address slot ≡ true →
    list_any (is_in_slot base address) slots ≡ true
slot_has [] k slot base address at is = absurd (let no : ⊥ = cc in no)
slot_has (s ∷ slots) zero slot base address at is =
    let same : s ≡ slot = cc in or_left (is_in_slot base address s) _ (ap (is_in_slot base address) same ∙ is)
slot_has (s ∷ slots) (suc k) slot base address at is = or_right (is_in_slot base address s) _ (slot_has slots k slot base address at is)

few_bytes : (w : Width) → bytes_of w ≤ 8
few_bytes W8 = omega arith
few_bytes W16 = omega arith
few_bytes W32 = omega arith
few_bytes W64 = omega arith

module _ (layout : Layout) (locals : ℕ) (start : Start) where
  home_is : (reg : ℕ) → IsFree layout reg → IsHome layout reg
  home_is reg free =
      let bounds = and_parts (nat_le 5 reg) (nat_le reg 27) free.home in
      let least = leb-true 5 reg bounds.0 in
      let most = leb-true reg 27 bounds.1 in record {
        no_pointer = λ same. omega (arith, least, same);
        no_spare = grind (arith, nat_tests, most);
        preserved = λ has. sym (saved_same reg layout.saved) ∙
            once_of (has_reg (map (λ (s : SavedAt). s.reg) layout.saved) reg) (second_false (has_reg (return_address ∷ saved_registers) reg) _ free.saved has);
      }

  -- one effect
  tame_is : (e : Effect) → homes.IsTame layout locals start e → IsTame locals layout start e
  tame_is _ (homes.sets reg known free) = home_is reg free
  tame_is _ (homes.unsets reg free) = home_is reg free
  tame_is _ (homes.fills w k value slot at) = λ address above below spared.
      let few = few_bytes w in
      let inside : is_in_slot (start.sp - layout.size) address slot ≡ true = grind (arith, nat_tests, above, below, few) in
      let e : true ≡ false = sym (slot_has layout.slots k slot (start.sp - layout.size) address at inside) ∙ spared.no_slot in
      let no : ⊥ = cc in no
  tame_is _ (homes.stores w at value outside) = λ address above below spared.
      let e : true ≡ false = sym (outside.local address above below spared.below) ∙ spared.no_local in
      let no : ⊥ = cc in no
  tame_is _ homes.nothing = tt

-- each of some
pub are_tame : (c : Setting) (es : List Effect) → AllTame c es → AreTame c.f.locals c.layout c.start es
are_tame c _ tame_none = tt
are_tame c _ (tame_more e es tame rest) = (tame_is c.layout c.f.locals c.start e tame, are_tame c es rest)
