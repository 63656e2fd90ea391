-- The effect of a part of an instruction is the one that its symbolic effect stands for, where its needs are met; else it has none.
use Rattle.std.proofs.Common.{◌≡◌, ℕ, ◌&&◌, Bool, true, false, List, [], ◌∷◌, ◌++◌, Option, Some, None, refl, sym, ◌∙◌, ap}
use Rattle.std.specs.Prelude.{if◌then◌else◌, is_some, option_map, option_and_then}
use Rattle.bits64.specs.declared.Width.{Width}
use Rattle.bits64.specs.declared.Width.TheVariants.{W64}
use Rattle.rtx_tree.specs.declared.code.Code.{Code}
use Rattle.rtx_tree.specs.declared.code.Code.TheVariants as code
use Rattle.rtx_tree.specs.declared.memories.MemByte.{MemByte}
use Rattle.rtx_tree.specs.declared.tree.Rtx.{Rtx, out-Rtx}
use Rattle.run_memory.specs.RunMemory.{load}
use Rattle.rtl_step.specs.Regs.{Regs, known_of}
use Rattle.rtl_step.specs.Value as rtl
use Rattle.rtl_step.specs.Effect as effect
use Rattle.rtl_step.specs.declared.effect.Effect.TheVariants as effects
use Rattle.term_tree.specs.Tree.{width_of}
use Rattle.term_mean.specs.Meaning.{Valuation, mean}
use Rattle.sym_insns.specs.sym_state.State.{State, Access}
use Rattle.sym_insns.specs.Value.{Made, made_of}
use Rattle.sym_insns.specs.Effects as spec
use Rattle.law_insn_terms.specs.Needs.{First, are_met, worth}
use Rattle.law_insn_terms.specs.Meant.{meant, effect_worth}
use Rattle.law_insn_terms.specs.Shows.{IsOf, Shows}
use Rattle.law_insn_terms.proofs.Parts.{has_load}
use Rattle.law_insn_terms.proofs.Values.{both_met, value_worth, made_width}

module _ (v : Valuation) (f : First) (s : State) (regs : Regs) (memory : List MemByte) (of : IsOf v f) (shows : Shows v f s regs memory) where
  -- ---- a register

  set_known : (reg : ℕ) (w : Width) (m : Made) → width_of m.term ≡ w →
      option_and_then (λ value. Some (effects.Sets reg (known_of w value))) (worth v f m) ≡ effect_worth v f (spec.set_register (Some reg) m)
  set_known reg w m width = by (are_met v f m.needs)
    where
      by : (b : Bool) → option_and_then (λ value. Some (effects.Sets reg (known_of w value))) (if b then Some (mean v m.term) else None) ≡ (if b then Some (meant v (spec.Sets reg m.term)) else None)
      by true = ap (λ u. Some (effects.Sets reg (known_of u (mean v m.term)))) (sym width)
      by false = refl

  register_by : (o : Option ℕ) (source : Rtx) (w : Width) →
      rtl.of_two (λ reg value. Some (effects.Sets reg (known_of w value))) o (rtl.value_of f.symbols regs memory source w) ≡ effect_worth v f (spec.set_register o (made_of s.regs s.stores source w))
  register_by None source w = refl
  register_by (Some reg) source w =
      ap (λ o. option_and_then (λ value. Some (effects.Sets reg (known_of w value))) o) (value_worth v f s regs memory of shows source w)
      ∙ set_known reg w (made_of s.regs s.stores source w) (made_width v f s regs memory of shows source w)

  -- ---- memory

  stored_by : (w : Width) (address source : Made) → width_of source.term ≡ w → (a b : Bool) →
      rtl.of_two (λ at value. if is_some (load w memory at) then Some (effects.Stores w at value) else None) (if a then Some (mean v address.term) else None) (if b then Some (mean v source.term) else None)
      ≡ (if b && (a && (is_some (load w memory (mean v address.term)) && true)) then Some (meant v (spec.Stores address.term source.term)) else None)
  stored_by w address source width true true = by (is_some (load w memory (mean v address.term)))
    where
      by : (l : Bool) → (if l then Some (effects.Stores w (mean v address.term) (mean v source.term)) else None) ≡ (if l && true then Some (meant v (spec.Stores address.term source.term)) else None)
      by true = ap (λ u. Some (effects.Stores u (mean v address.term) (mean v source.term))) (sym width)
      by false = refl
  stored_by w address source width true false = refl
  stored_by w address source width false true = refl
  stored_by w address source width false false = refl

  memory_met : (w : Width) (address source : Made) →
      are_met v f (source.needs ++ (address.needs ++ Access address.term w ∷ [])) ≡
      (are_met v f source.needs && (are_met v f address.needs && (is_some (load w memory (mean v address.term)) && true)))
  memory_met w address source =
      both_met v f source.needs (address.needs ++ Access address.term w ∷ [])
      ∙ ap (λ b. are_met v f source.needs && b) (both_met v f address.needs (Access address.term w ∷ []))
      ∙ ap (λ b. are_met v f source.needs && (are_met v f address.needs && (b && true))) (sym (has_load w memory f.memory (mean v address.term) shows.memory_is.addresses))

  memory_worth : (address source : Rtx) (w : Width) →
      effect.set_memory f.symbols regs memory address source w ≡ effect_worth v f (spec.set_memory (made_of s.regs s.stores address W64) (made_of s.regs s.stores source w) w)
  memory_worth address source w =
      let a = made_of s.regs s.stores address W64 in
      let b = made_of s.regs s.stores source w in
      ap (λ o. rtl.of_two (λ at value. if is_some (load w memory at) then Some (effects.Stores w at value) else None) o (rtl.value_of f.symbols regs memory source w)) (value_worth v f s regs memory of shows address W64)
      ∙ ap (λ o. rtl.of_two (λ at value. if is_some (load w memory at) then Some (effects.Stores w at value) else None) (worth v f a) o) (value_worth v f s regs memory of shows source w)
      ∙ stored_by w a b (made_width v f s regs memory of shows source w) (are_met v f a.needs) (are_met v f b.needs)
      ∙ ap (λ m. if m then Some (meant v (spec.Stores a.term b.term)) else None) (sym (memory_met w a b))

  -- ---- a part of an instruction

  place_worth : (o : Option Rtx) (place source : Rtx) (w : Width) →
      effect.set_place o f.symbols regs memory place source w ≡ effect_worth v f (spec.set_place o s.regs s.stores place source w)
  place_worth None place source w = register_by (effect.register_of place) source w
  place_worth (Some address) place source w = memory_worth address source w

  set_worth : (place source : Rtx) (o : Option Width) →
      option_and_then (effect.set_place (effect.address_of place) f.symbols regs memory place source) o ≡ effect_worth v f (spec.set_in o s.regs s.stores place source)
  set_worth place source None = refl
  set_worth place source (Some w) = place_worth (effect.address_of place) place source w

  unset_worth : (o : Option ℕ) → option_map effects.Unsets o ≡ effect_worth v f (spec.unset o)
  unset_worth None = refl
  unset_worth (Some reg) = refl

  clobber_worth : (c : Code) (o : Option ℕ) → effect.clobber_by c o ≡ effect_worth v f (spec.clobber_by c o)
  clobber_worth code.Mem o = refl
  clobber_worth code.Scratch o = refl
  clobber_worth c o = unset_worth o

  part_worth : (c : Code) (parts : List Rtx) → effect.effect_by c parts f.symbols regs memory ≡ effect_worth v f (spec.effect_by c parts s.regs s.stores)
  part_worth code.Set (place ∷ source ∷ []) = set_worth place source (rtl.width_of (out-Rtx place).mode)
  part_worth code.Use (x ∷ []) = refl
  part_worth code.Clobber (place ∷ []) = clobber_worth (out-Rtx place).code (effect.register_of place)
  part_worth c parts = refl

  pub effect_is : (x : Rtx) → effect.effect_of f.symbols regs memory x ≡ effect_worth v f (spec.effect_of s.regs s.stores x)
  effect_is x = part_worth (out-Rtx x).code (out-Rtx x).kids
