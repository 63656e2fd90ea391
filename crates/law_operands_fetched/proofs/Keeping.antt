-- What stays through the run of a function stays behind moves and behind tame effects.
use Rattle.std.proofs.Common.{◌≡◌, ◌≢◌, ◌⊎◌, ⊎_elim, inl, inr, ℕ, zero, suc, ◌+◌, ◌-◌, ◌≤◌, ◌<◌, Bool, true, false, List, Option, Some, None, refl, sym, ap, ◌∙◌, arith}
use Rattle.std.proofs.lemmas.Bool.Decides.{nat_tests}
use Rattle.std.specs.FinMap.{get}
use Rattle.std.specs.Prelude.{nat_le, nat_lt, option_map, unwrap_or}
use Rattle.law_operands_replaced.specs.bits64.Words.{bytes_of}
use Rattle.law_operands_replaced.specs.bits64.declared.Width.{Width}
use Rattle.law_operands_replaced.specs.bits64.declared.Width.TheVariants.{W64}
use Rattle.law_operands_replaced.specs.rtx_tree.Memories.{byte_at}
use Rattle.law_operands_replaced.specs.rtx_tree.RegSet.{has_reg}
use Rattle.law_operands_replaced.specs.rtx_tree.declared.machine.Start.{Start}
use Rattle.law_operands_replaced.specs.rtx_tree.declared.memories.MemByte.{MemByte}
use Rattle.law_operands_replaced.specs.run_memory.RunMemory.{load, store, with_number}
use Rattle.law_operands_replaced.proofs.run_memory.Laws.{byte_at-with_number_other}
use Rattle.law_operands_replaced.specs.rtl_step.Effect.{reg_after, bytes_after}
use Rattle.law_operands_replaced.specs.rtl_step.Regs.{Regs}
use Rattle.law_operands_replaced.specs.rtl_step.declared.effect.Effect.{Effect}
use Rattle.law_operands_replaced.specs.rtl_step.declared.effect.Effect.TheVariants.{Nothing, Sets, Unsets, Stores}
use Rattle.law_operands_replaced.specs.rtl_step.declared.step.State.{State}
use Rattle.assign.specs.declared.places.Layout.{Layout}
use Rattle.law_operands_replaced.specs.law_frame.Kept.{preserved_registers, is_saved, IsKept}
use Rattle.law_operands_replaced.specs.Spare.{is_spare, KeepsRest}
use Rattle.law_operands_fetched.specs.Tame.{IsHome, IsSpared, IsTame}
use Rattle.law_operands_replaced.proofs.Registers.{value_alike, set_other, unset_other}

spare_cases : (reg : ℕ) → is_spare reg ≡ true → (reg ≡ 28) ⊎ ((reg ≡ 29) ⊎ ((reg ≡ 30) ⊎ (reg ≡ 31)))
spare_cases reg is = by (reg - 28) (let up : 28 ≤ reg = grind (arith, nat_tests, is) in let down : reg ≤ 31 = grind (arith, nat_tests, is) in
    let e : reg ≡ 28 + (reg - 28) = omega arith in let less : reg - 28 < 4 = omega arith in (e, less))
  where
    by : (k : ℕ) → (reg ≡ 28 + k) × (k < 4) → (reg ≡ 28) ⊎ ((reg ≡ 29) ⊎ ((reg ≡ 30) ⊎ (reg ≡ 31)))
    by zero at = inl (at.0)
    by (suc zero) at = inr (inl at.0)
    by (suc (suc zero)) at = inr (inr (inl at.0))
    by (suc (suc (suc zero))) at = inr (inr (inr at.0))
    by (suc (suc (suc (suc k)))) at = absurd (omega (arith, at.1))

-- t3 to t6 are not preserved
pub preserved_rest : (reg : ℕ) → has_reg preserved_registers reg ≡ true → is_spare reg ≡ false
preserved_rest reg is = by (is_spare reg) refl
  where
    never : (r : ℕ) → has_reg preserved_registers r ≡ false → reg ≡ r → true ≡ false
    never r absent same = sym is ∙ ap (has_reg preserved_registers) same ∙ absent

    by : (b : Bool) → is_spare reg ≡ b → b ≡ false
    by false at = refl
    by true at = ⊎_elim (λ (e : reg ≡ 28). never 28 refl e) (λ (o : (reg ≡ 29) ⊎ ((reg ≡ 30) ⊎ (reg ≡ 31))).
        ⊎_elim (λ (e : reg ≡ 29). never 29 refl e) (λ (o : (reg ≡ 30) ⊎ (reg ≡ 31)).
        ⊎_elim (λ (e : reg ≡ 30). never 30 refl e) (λ (e : reg ≡ 31). never 31 refl e) o) o) (spare_cases reg at)

module _ (locals : ℕ) (layout : Layout) (start : Start) (s : State) where
  -- it stays, at a state with these registers and this memory
  abbrev pub Stay : Regs → List MemByte → Type 0
  Stay r m = IsKept locals layout start (record s { regs = r; memory = m })

  -- where t3 to t6 alone have changed
  pub stay_rest : (r r' : Regs) (m : List MemByte) → KeepsRest r r' → Stay r m → Stay r' m
  stay_rest r r' m keeps stay = record {
    pointer = value_alike r r' 2 W64 (keeps 2 refl) ∙ stay.pointer;
    registers = λ reg is kept. value_alike r r' reg W64 (keeps reg (preserved_rest reg is)) ∙ stay.registers reg is kept;
    room = stay.room;
  }

  -- where a home has
  abbrev OnlyHome : ℕ → Regs → Regs → Type 0
  OnlyHome home r r' = (q : ℕ) → q ≢ home → get r' q ≡ get r q

  stay_home : (home : ℕ) (r r' : Regs) (m : List MemByte) → IsHome layout home → OnlyHome home r r' → Stay r m → Stay r' m
  stay_home home r r' m is only stay = record {
    pointer = value_alike r r' 2 W64 (only 2 (λ same. is.no_pointer (sym same))) ∙ stay.pointer;
    registers = λ reg preserved kept. value_alike r r' reg W64 (only reg (λ same.
        let yes' : is_saved layout reg ≡ true = ap (is_saved layout) same ∙ is.preserved (ap (has_reg preserved_registers) (sym same) ∙ preserved) in
        let e : true ≡ false = sym yes' ∙ kept in let never : ⊥ = cc in never)) ∙ stay.registers reg preserved kept;
    room = stay.room;
  }

  -- and where bytes have that are not spared
  stay_memory : (r : Regs) (m m' : List MemByte) → ((address : ℕ) → IsSpared locals layout start address → byte_at m' address ≡ byte_at m address) →
      Stay r m → Stay r m'
  stay_memory r m m' same stay = record {
    pointer = stay.pointer;
    registers = stay.registers;
    room = λ address below no_local no_slot.
        same address (record { below = below; no_local = no_local; no_slot = no_slot }) ∙ stay.room address below no_local no_slot;
  }

  outside : (at count address : ℕ) → (at ≤ address → address < at + count → ⊥) → (at + count ≤ address) ⊎ (address + 1 ≤ at)
  outside at count address never = by (nat_le at address) (nat_lt address (at + count)) refl refl
    where
      by : (b c : Bool) → nat_le at address ≡ b → nat_lt address (at + count) ≡ c → (at + count ≤ address) ⊎ (address + 1 ≤ at)
      by false c is is' = inr (grind (arith, nat_tests, is))
      by true false is is' = inl (grind (arith, nat_tests, is'))
      by true true is is' = absurd (never (grind (arith, nat_tests, is)) (grind (arith, nat_tests, is')))

  stored_other : (w : Width) (m : List MemByte) (at v address : ℕ) (o : Option ℕ) → load w m at ≡ o → (at ≤ address → address < at + bytes_of w → ⊥) →
      byte_at (unwrap_or (store w m at v) m) address ≡ byte_at m address
  stored_other w m at v address None is never = ap (λ o. byte_at (unwrap_or (option_map (λ _. with_number m at (bytes_of w) v) o) m) address) is
  stored_other w m at v address (Some x) is never =
      ap (λ o. byte_at (unwrap_or (option_map (λ _. with_number m at (bytes_of w) v) o) m) address) is ∙
      byte_at-with_number_other m at (bytes_of w) v address (outside at (bytes_of w) address never)

  -- behind a tame effect it stays
  pub stay_tame : (e : Effect) → IsTame locals layout start e → (r : Regs) (m : List MemByte) → Stay r m → Stay (reg_after e r) (bytes_after e m)
  stay_tame (Sets reg k) tame r m stay = stay_home reg r (reg_after (Sets reg k) r) m tame (λ q other. set_other r reg k q other) stay
  stay_tame (Unsets reg) tame r m stay = stay_home reg r (reg_after (Unsets reg) r) m tame (λ q other. unset_other r reg q other) stay
  stay_tame (Stores w at v) tame r m stay = stay_memory r m (bytes_after (Stores w at v) m)
      (λ address spared. stored_other w m at v address (load w m at) refl (λ above below. tame address above below spared)) stay
  stay_tame Nothing tame r m stay = stay
