-- A plain instruction: it has effects exactly where its needs are met, and then the symbolic state after it shows the state after them.
use Rattle.std.proofs.Common.{◌≡◌, ℕ, ◌&&◌, Bool, true, false, List, [], ◌∷◌, ◌++◌, map, Option, Some, None, refl, sym, ◌∙◌, ap}
use Rattle.std.specs.Prelude.{if◌then◌else◌, is_some, option_map, option_and_then}
use Rattle.bits64.specs.declared.Width.{Width}
use Rattle.bits64.specs.declared.Width.TheVariants.{W64}
use Rattle.rtx_tree.specs.declared.code.Code.{Code}
use Rattle.rtx_tree.specs.declared.code.Code.TheVariants as code
use Rattle.rtx_tree.specs.declared.memories.MemByte.{MemByte}
use Rattle.rtx_tree.specs.declared.tree.Rtx.{Rtx, out-Rtx}
use Rattle.run_memory.specs.RunMemory.{load}
use Rattle.rtl_step.specs.Regs.{Regs}
use Rattle.rtl_step.specs.Value as rtl
use Rattle.rtl_step.specs.Effect as effect
use Rattle.rtl_step.specs.declared.effect.Effect.{Effect}
use Rattle.term_tree.specs.Tree.{width_of}
use Rattle.term_mean.specs.Meaning.{Valuation, mean}
use Rattle.term_mean.specs.Stores.{Store}
use Rattle.sym_insns.specs.sym_state.State.{State, Need, Access}
use Rattle.sym_insns.specs.Value.{Made, made_of}
use Rattle.sym_insns.specs.Effects as spec
use Rattle.law_insn_terms.specs.Needs.{First, are_met}
use Rattle.law_insn_terms.specs.Meant.{meant, effect_worth}
use Rattle.law_insn_terms.specs.Shows.{IsOf, Shows}
use Rattle.law_insn_terms.proofs.Values.{both_met, made_width}
use Rattle.law_insn_terms.proofs.Effects.{effect_is}
use Rattle.law_insn_terms.proofs.States.{HasAccess, LeadsOn, made_shows}
use Rattle.law_insn_terms.proofs.Bools.{both_of}

-- the needs of all effects, and the effects that they stand for
abbrev pub all_needs : List spec.Effected → List Need
all_needs [] = []
all_needs (e ∷ es) = e.needs ++ all_needs es

abbrev pub all_meant : Valuation → List spec.Effected → List Effect
all_meant v [] = []
all_meant v (e ∷ es) = meant v e.effect ∷ all_meant v es

-- the valuation's memories are those behind the stores of all effects
abbrev pub AllLeadOn : Valuation → First → List Store → List spec.Effected → Type 0
AllLeadOn v f stores [] = Unit {0}
AllLeadOn v f stores (e ∷ es) = LeadsOn v f stores e.effect × AllLeadOn v f (spec.store_after e.effect stores) es

abbrev AllHaveAccess : Valuation → First → List spec.Effected → Type 0
AllHaveAccess v f [] = Unit {0}
AllHaveAccess v f (e ∷ es) = HasAccess v f e.effect × AllHaveAccess v f es

make_all_shows : (v : Valuation) (f : First) (index : ℕ) (es : List spec.Effected) (s : State) (regs : Regs) (memory : List MemByte) → Shows v f s regs memory → AllHaveAccess v f es → AllLeadOn v f s.stores es →
    Shows v f (spec.make_all index es s) (effect.regs_after (all_meant v es) regs) (effect.memory_after (all_meant v es) memory)
make_all_shows v f index [] s regs memory shows has leads = shows
make_all_shows v f index (e ∷ es) s regs memory shows has leads =
    make_all_shows v f index es (spec.make index e s) (effect.reg_after (meant v e.effect) regs) (effect.bytes_after (meant v e.effect) memory)
    (made_shows v f index e s regs memory shows has.0 leads.0) has.1 leads.1

module _ (v : Valuation) (f : First) (s : State) (regs : Regs) (memory : List MemByte) (of : IsOf v f) (shows : Shows v f s regs memory) where
  -- ---- all effects are had where all needs are met

  one_by : (e : spec.Effected) → option_map (λ x. x ∷ []) (effect_worth v f e) ≡ (if are_met v f (all_needs (e ∷ [])) then Some (all_meant v (e ∷ [])) else None)
  one_by e = by (are_met v f e.needs) ∙ ap (λ b. if b then Some (all_meant v (e ∷ [])) else None) (sym (both_met v f e.needs []))
    where
      by : (b : Bool) → option_map (λ x. x ∷ []) (if b then Some (meant v e.effect) else None) ≡ (if b && true then Some (all_meant v (e ∷ [])) else None)
      by true = refl
      by false = refl

  abbrev effects_by_parts : List Rtx → List spec.Effected
  effects_by_parts parts = map (spec.effect_of s.regs s.stores) parts

  all_by : (e : spec.Effected) (es : List spec.Effected) → option_and_then (λ x. option_map (λ xs. x ∷ xs) (if are_met v f (all_needs es) then Some (all_meant v es) else None)) (effect_worth v f e)
      ≡ (if are_met v f (all_needs (e ∷ es)) then Some (all_meant v (e ∷ es)) else None)
  all_by e es = by (are_met v f e.needs) (are_met v f (all_needs es)) ∙ ap (λ b. if b then Some (all_meant v (e ∷ es)) else None) (sym (both_met v f e.needs (all_needs es)))
    where
      by : (a b : Bool) → option_and_then (λ x. option_map (λ xs. x ∷ xs) (if b then Some (all_meant v es) else None)) (if a then Some (meant v e.effect) else None)
          ≡ (if a && b then Some (all_meant v (e ∷ es)) else None)
      by true true = refl
      by true false = refl
      by false b = refl

  all_worth : (parts : List Rtx) → effect.all_effects f.symbols regs memory parts ≡ (if are_met v f (all_needs (effects_by_parts parts)) then Some (all_meant v (effects_by_parts parts)) else None)
  all_worth [] = refl
  all_worth (x ∷ parts) =
      ap (λ o. option_and_then (λ e. option_map (λ es. e ∷ es) (effect.all_effects f.symbols regs memory parts)) o) (effect_is v f s regs memory of shows x)
      ∙ ap (λ o. option_and_then (λ e. option_map (λ es. e ∷ es) o) (effect_worth v f (spec.effect_of s.regs s.stores x))) (all_worth parts)
      ∙ all_by (spec.effect_of s.regs s.stores x) (effects_by_parts parts)

  effects_worth : (c : Code) (x : Rtx) → effect.effects_by c x f.symbols regs memory
      ≡ (if are_met v f (all_needs (spec.effects_by c x s.regs s.stores)) then Some (all_meant v (spec.effects_by c x s.regs s.stores)) else None)
  effects_worth code.Parallel x = all_worth (out-Rtx x).kids
  effects_worth c x = ap (λ o. option_map (λ e. e ∷ []) o) (effect_is v f s regs memory of shows x) ∙ one_by (spec.effect_of s.regs s.stores x)

  -- the effects of a plain instruction are those that its symbolic effects stand for, where their needs are met; else it has none
  pub effects_are : (x : Rtx) → effect.effects_of f.symbols regs memory x
      ≡ (if are_met v f (all_needs (spec.effects_of s.regs s.stores x)) then Some (all_meant v (spec.effects_of s.regs s.stores x)) else None)
  effects_are x = effects_worth (out-Rtx x).code x

  -- ---- a store's memory is there where its needs are met

  abbrev Allowed : spec.Effected → Type 0
  Allowed e = are_met v f e.needs ≡ true → HasAccess v f e.effect

  stored_allowed : (address source : Made) (w : Width) → width_of source.term ≡ w → Allowed (spec.set_memory address source w)
  stored_allowed address source w width met =
      let all = both_of (are_met v f source.needs) _ (sym (both_met v f source.needs (address.needs ++ Access address.term w ∷ [])) ∙ met) in
      let later = both_of (are_met v f address.needs) _ (sym (both_met v f address.needs (Access address.term w ∷ [])) ∙ all.1) in
      ap (λ u. is_some (load u f.memory (mean v address.term))) width ∙ (both_of (is_some (load w f.memory (mean v address.term))) true later.1).0

  register_allowed : (o : Option ℕ) (m : Made) → Allowed (spec.set_register o m)
  register_allowed None m met = tt
  register_allowed (Some reg) m met = tt

  place_allowed : (o : Option Rtx) (place source : Rtx) (w : Width) → Allowed (spec.set_place o s.regs s.stores place source w)
  place_allowed None place source w = register_allowed (effect.register_of place) (made_of s.regs s.stores source w)
  place_allowed (Some address) place source w =
      stored_allowed (made_of s.regs s.stores address W64) (made_of s.regs s.stores source w) w (made_width v f s regs memory of shows source w)

  set_allowed : (o : Option Width) (place source : Rtx) → Allowed (spec.set_in o s.regs s.stores place source)
  set_allowed None place source met = tt
  set_allowed (Some w) place source met = place_allowed (effect.address_of place) place source w met

  unset_allowed : (o : Option ℕ) → Allowed (spec.unset o)
  unset_allowed None met = tt
  unset_allowed (Some reg) met = tt

  clobber_allowed : (c : Code) (o : Option ℕ) → Allowed (spec.clobber_by c o)
  clobber_allowed code.Mem o met = tt
  clobber_allowed code.Scratch o met = tt
  clobber_allowed c o met = unset_allowed o met

  part_allowed : (c : Code) (parts : List Rtx) → Allowed (spec.effect_by c parts s.regs s.stores)
  part_allowed code.Set (place ∷ source ∷ []) = set_allowed (rtl.width_of (out-Rtx place).mode) place source
  part_allowed code.Use (x ∷ []) = λ met. tt
  part_allowed code.Clobber (place ∷ []) = clobber_allowed (out-Rtx place).code (effect.register_of place)
  part_allowed c parts = λ met. tt

  effect_allowed : (x : Rtx) → Allowed (spec.effect_of s.regs s.stores x)
  effect_allowed x = part_allowed (out-Rtx x).code (out-Rtx x).kids

  all_allowed : (parts : List Rtx) → are_met v f (all_needs (effects_by_parts parts)) ≡ true → AllHaveAccess v f (effects_by_parts parts)
  all_allowed [] met = tt
  all_allowed (x ∷ parts) met =
      let both = both_of _ _ (sym (both_met v f (spec.effect_of s.regs s.stores x).needs (all_needs (effects_by_parts parts))) ∙ met) in
      (effect_allowed x both.0, all_allowed parts both.1)

  effects_allowed : (c : Code) (x : Rtx) → are_met v f (all_needs (spec.effects_by c x s.regs s.stores)) ≡ true → AllHaveAccess v f (spec.effects_by c x s.regs s.stores)
  effects_allowed code.Parallel x met = all_allowed (out-Rtx x).kids met
  effects_allowed c x met =
      let both = both_of _ _ (sym (both_met v f (spec.effect_of s.regs s.stores x).needs []) ∙ met) in (effect_allowed x both.0, tt)

  -- the state after a plain instruction whose needs are met
  pub plain_shows : (index : ℕ) (x : Rtx) → are_met v f (all_needs (spec.effects_of s.regs s.stores x)) ≡ true → AllLeadOn v f s.stores (spec.effects_of s.regs s.stores x) →
      Shows v f (spec.after_plain index x s) (effect.regs_after (all_meant v (spec.effects_of s.regs s.stores x)) regs) (effect.memory_after (all_meant v (spec.effects_of s.regs s.stores x)) memory)
  plain_shows index x met leads = make_all_shows v f index (spec.effects_of s.regs s.stores x) s regs memory shows (effects_allowed (out-Rtx x).code x met) leads
