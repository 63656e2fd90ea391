-- Where a result that is moved ends in other memory, the effects of its instruction besides its own store in slots alone, and in none of a register
-- that stands in its address, or in nothing.
use Rattle.std.proofs.Common.{◌≡◌, ◌≢◌, ℕ, ◌+◌, eqb, ◌&&◌, if◌then◌else◌, Bool, true, false, List, ◌∷◌, map, Option, Some, None, refl, sym, ap, ◌∙◌, arith}
use Rattle.std.proofs.lemmas.Bool.Decides.{nat_tests}
use Rattle.std.specs.List.{cons_option, filter_map, list_any}
use Rattle.law_operands_fetched.specs.bits64.declared.Width.TheVariants.{W64}
use Rattle.law_operands_fetched.specs.rtx_tree.Tree.{mentions_reg}
use Rattle.law_operands_fetched.specs.rtx_tree.declared.function.Kind.{Kind}
use Rattle.law_operands_fetched.specs.rtx_tree.declared.machine.SymbolAt.{SymbolAt}
use Rattle.law_operands_fetched.specs.rtx_tree.declared.memories.MemByte.{MemByte}
use Rattle.law_operands_fetched.specs.rtx_tree.declared.tree.Rtx.{Rtx}
use Rattle.law_operands_fetched.proofs.run_memory.Laws.{Apart}
use Rattle.law_operands_fetched.specs.rtl_step.Regs.{Regs}
use Rattle.law_operands_fetched.specs.rtl_step.Value.{value_of}
use Rattle.law_operands_fetched.specs.rtl_step.declared.effect.Effect.{Effect}
use Rattle.law_operands_fetched.specs.md_match.Pattern.{Ops}
use Rattle.law_operands_fetched.specs.assign.declared.home.Home.TheVariants.{Slot}
use Rattle.law_operands_fetched.specs.assign.declared.home.HomeOf.{HomeOf}
use Rattle.law_operands_fetched.specs.assign.declared.places.Layout.{Layout}
use Rattle.law_operands_fetched.specs.reload_homes.Homes.{home_of, slot_offset, slot_address}
use Rattle.law_operands_fetched.specs.reload_operands.Bases.{is_slot, lives_in_slot}
use Rattle.law_operands_fetched.specs.reload_operands.Changes.{changed_register}
use Rattle.law_operands_fetched.specs.reload_choice.Sound.{IsSoundPlan}
use Rattle.law_operands_fetched.specs.reload_choice.declared.given.Plan.{Plan}
use Rattle.law_reload_moves.proofs.AllOrderly.{EachSole}
use Rattle.law_reload_moves.proofs.Chosen.{given}
use Rattle.law_operands_fetched.proofs.law_operands_replaced.Keying.{with_keys}
use Rattle.law_reload_moves.proofs.Orderly.{SetsMemory}
use Rattle.law_reload_moves.proofs.ResultRows.{Key, Row, Rows, none, more}
use Rattle.law_reload_moves.proofs.ResultsEnd.{is_key, besides}
use Rattle.law_reload_moves.proofs.SoleRows.{none_other}
use Rattle.law_reload_moves.proofs.StillSlots.{Spares, AllSpare}
use Rattle.law_reload_moves.proofs.Touches.{Touch, idle, sets, unsets, slot, other, touch}

first_none : (test : ℕ → Bool) (r : ℕ) (o : Option ℕ) (rs : List ℕ) → o ≡ Some r → list_any test (cons_option o rs) ≡ false → test r ≡ false
first_none test r None rs is nothing = absurd (let no : ⊥ = cc in no)
first_none test r (Some q) rs is nothing = let same : q ≡ r = cc in ap test (sym same) ∙ (none_other (test q) (list_any test rs) nothing).0

rest_none : (test : ℕ → Bool) (o : Option ℕ) (rs : List ℕ) → list_any test (cons_option o rs) ≡ false → list_any test rs ≡ false
rest_none test None rs nothing = nothing
rest_none test (Some q) rs nothing = (none_other (test q) (list_any test rs) nothing).1

second_none : (a b : Bool) → a && b ≡ false → a ≡ true → b ≡ false
second_none true b is first = is
second_none false b is first = absurd (let no : ⊥ = cc in no)

module _ (homes : List HomeOf) (layout : Layout) (kind : Kind) (w pattern : Rtx) (found : Ops) (plan : Plan)
    (sound : IsSoundPlan (given homes layout kind w pattern found plan) plan) (symbols : List SymbolAt) (regs : Regs) (m : List MemByte) (sp : ℕ)
    (slot_is : (reg : ℕ) → home_of homes reg ≡ Slot → value_of symbols regs m (slot_address layout reg) W64 ≡ Some (sp + slot_offset layout reg))
    (slots_apart : (a b : ℕ) → a ≢ b → home_of homes a ≡ Slot → home_of homes b ≡ Slot → Apart (sp + slot_offset layout a) 8 (sp + slot_offset layout b) 8) where
  abbrev RowOf : Rtx → Rtx → Effect → Type 0
  RowOf = Row homes layout kind w pattern found plan sound symbols regs m

  abbrev RowsOf : List Rtx → List Rtx → List Effect → Type 0
  RowsOf = Rows homes layout kind w pattern found plan sound symbols regs m

  abbrev KeyOf : Rtx → Option ℕ
  KeyOf = Key homes layout kind w pattern found plan sound symbols regs m

  abbrev Soles : Rtx → ℕ → List Rtx → List Rtx → Type 0
  Soles = EachSole homes layout kind w pattern found plan sound symbols regs m sp slot_is slots_apart

  -- a register of an address that lives in a slot
  abbrev pub in_address : Rtx → ℕ → Bool
  in_address b reg = lives_in_slot homes reg && mentions_reg reg b

  one_spares : (b q v : Rtx) (e : Effect) → RowOf q v e → (SetsMemory v → ⊥) → ((reg : ℕ) → changed_register v ≡ Some reg → in_address b reg ≡ false) →
      Spares homes layout sp b e
  one_spares b q v e row alone nothing = by e (touch homes layout symbols regs m sp slot_is v e row.shaped row.natural row.does)
    where
      by : (e : Effect) → Touch homes layout symbols regs m sp slot_is v e → Spares homes layout sp b e
      by _ idle = tt
      by _ (sets reg h known before after) = tt
      by _ (unsets reg h before after) = tt
      by _ (slot reg value width before changed home) = (reg, (home, (second_none (lives_in_slot homes reg) (mentions_reg reg b) (nothing reg changed) (ap is_slot home), refl)))
      by _ (other t s width at value is are memory) = absurd (alone (record { target = t; source = s; is_set = is; are = are; memory = memory }))

  not_key : (k : ℕ) (key : Option ℕ) → is_key k key ≡ false → key ≡ Some k → ⊥
  not_key k key is same =
      let e : eqb k k ≡ false = sym (ap (is_key k) same) ∙ is in
      let here : eqb k k ≡ true = grind (arith, nat_tests) in
      let no : ⊥ = cc in no

  pub rows_spare : (b v : Rtx) (k : ℕ) (qs vs : List Rtx) (es : List Effect) → RowsOf qs vs es → SetsMemory v → Soles v k qs vs →
      list_any (in_address b) (filter_map changed_register vs) ≡ false → AllSpare homes layout sp b (besides k (with_keys (map KeyOf qs) es))
  rows_spare b v k _ _ _ none memory sole apart = tt
  rows_spare b v k _ _ _ (more q v' e qs vs es row rows) memory sole apart =
      by (is_key k (KeyOf q)) refl (rows_spare b v k qs vs es rows memory sole.1 (rest_none (in_address b) (changed_register v') (filter_map changed_register vs) apart))
    where
      by : (key : Bool) → is_key k (KeyOf q) ≡ key → AllSpare homes layout sp b (besides k (with_keys (map KeyOf qs) es)) →
          AllSpare homes layout sp b (if key then besides k (with_keys (map KeyOf qs) es) else e ∷ besides k (with_keys (map KeyOf qs) es))
      by true is rest = rest
      by false is rest = (
        one_spares b q v' e row (λ memory'. not_key k (KeyOf q) is (sole.0 memory memory'))
            (λ reg changed. first_none (in_address b) reg (changed_register v') (filter_map changed_register vs) changed apart),
        rest,
      )
