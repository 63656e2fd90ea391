-- Of the effects of an instruction, those of an operand that is moved behind it are apart from later ones, or those override them.
use Rattle.std.proofs.Common.{◌≡◌, ◌≢◌, ◌⊎◌, inl, inr, ℕ, ◌+◌, ◌≤◌, Bool, true, false, List, [], ◌∷◌, map, slice_get, Option, Some, None, refl, sym, ap, subst, ◌∙◌, arith}
use Rattle.std.specs.Prelude.{option_and_then}
use Rattle.law_operands_fetched.specs.bits64.Words.{bytes_of}
use Rattle.law_operands_fetched.specs.bits64.declared.Width.{Width}
use Rattle.law_operands_fetched.specs.bits64.declared.Width.TheVariants.{W64}
use Rattle.law_operands_fetched.specs.rtx_tree.Tree.{head_of, kids_of}
use Rattle.law_operands_fetched.specs.rtx_tree.declared.code.Code.TheVariants as code
use Rattle.law_operands_fetched.specs.rtx_tree.declared.function.Kind.{Kind}
use Rattle.law_operands_fetched.specs.rtx_tree.declared.machine.SymbolAt.{SymbolAt}
use Rattle.law_operands_fetched.specs.rtx_tree.declared.memories.MemByte.{MemByte}
use Rattle.law_operands_fetched.specs.rtx_tree.declared.tree.Rtx.{Rtx}
use Rattle.law_operands_fetched.proofs.run_memory.Laws.{Apart}
use Rattle.law_operands_fetched.specs.rtl_func.Effects.{changed_register}
use Rattle.law_operands_fetched.specs.rtl_func.Shapes.{mode_at}
use Rattle.law_operands_fetched.specs.rtl_step.Effect.{address_of, register_of, set_place, set_effect}
use Rattle.law_operands_fetched.specs.rtl_step.Regs.{Regs, known_of}
use Rattle.law_operands_fetched.specs.rtl_step.Value.{width_of, value_of, of_two}
use Rattle.law_operands_fetched.specs.rtl_step.declared.effect.Effect.{Effect}
use Rattle.law_operands_fetched.specs.rtl_step.declared.effect.Effect.TheVariants.{Sets, Stores}
use Rattle.law_operands_fetched.specs.bits64.declared.Width.TheVariants as widths
use Rattle.law_operands_fetched.specs.md_match.Pattern.{Ops}
use Rattle.law_operands_fetched.specs.assign.declared.home.Home.TheVariants.{Slot}
use Rattle.law_operands_fetched.specs.assign.declared.home.HomeOf.{HomeOf}
use Rattle.law_operands_fetched.specs.assign.declared.places.Layout.{Layout}
use Rattle.law_operands_fetched.specs.reload_homes.Homes.{home_of, slot_offset, slot_address, homed}
use Rattle.law_operands_fetched.proofs.law_homes.After.{eight_bytes}
use Rattle.law_operands_fetched.specs.reload_operands.declared.operand.Operand.{Operand}
use Rattle.law_operands_fetched.specs.reload_moves.declared.part.Part.{Part}
use Rattle.law_operands_fetched.specs.reload_choice.Sound.{IsSoundPlan}
use Rattle.law_operands_fetched.specs.reload_choice.declared.given.Plan.{Plan}
use Rattle.law_reload_moves.proofs.Chosen.{given}
use Rattle.law_operands_fetched.proofs.law_operands_replaced.Delays.{AreApart, Overrides}
use Rattle.law_reload_moves.proofs.ResultRows.{Key, Row, keyed_row}
use Rattle.law_operands_fetched.proofs.law_operands_replaced.SetWidth.{set_width}
use Rattle.law_reload_moves.proofs.Touches.{Touch, idle, sets, unsets, slot, other, touch, set_inverse, store_inverse}

-- ---- bytes

fewer : (a b n k : ℕ) {c d : ℕ} → n ≤ c → k ≤ d → Apart a c b d → Apart a n b k
fewer a b n k {c} {d} less less' (inl before) = inl (omega (arith, less, before))
fewer a b n k {c} {d} less less' (inr after) = inr (omega (arith, less', after))

turned : (a n b k : ℕ) → Apart a n b k → Apart b k a n
turned a n b k (inl before) = inr before
turned a n b k (inr after) = inl after

whole_bytes : (n : ℕ) → n ≤ n
whole_bytes n = omega arith

-- a set of memory, before homes are put in
pub record SetsMemory (v : Rtx) : Type 0 where
  pub target : Rtx
  pub source : Rtx
  pub is_set : (head_of v).code ≡ code.Set
  pub are : kids_of v ≡ target ∷ source ∷ []
  pub memory : (head_of target).code ≡ code.Mem

-- what two trees have is not the same
abbrev pub Differ : (Rtx → Option ℕ) → Rtx → Rtx → Type 0
Differ f v v' = (a b : ℕ) → f v ≡ Some a → f v' ≡ Some b → a ≢ b

-- ---- one set overrides another of the same place

module _ (symbols : List SymbolAt) (regs : Regs) (m : List MemByte) where
  by_width : (t s : Rtx) (w : Width) (e : Effect) → width_of (mode_at t) ≡ Some w →
      set_effect symbols regs m t s ≡ Some e → set_place (address_of t) symbols regs m t s w ≡ Some e
  by_width t s w e wide does = sym (ap (option_and_then (set_place (address_of t) symbols regs m t s)) wide) ∙ does

  no_target : (t s : Rtx) (w : Width) (e : Effect) → address_of t ≡ None → register_of t ≡ None →
      set_place (address_of t) symbols regs m t s w ≡ Some e → ⊥
  no_target t s w e no_address no_register does =
      let e' : ◌≡◌ {A = Option Effect} None (Some e) =
      sym (ap (λ o. of_two (λ reg value. Some (Sets reg (known_of w value))) o (value_of symbols regs m s w)) no_register) ∙
      sym (ap (λ o. set_place o symbols regs m t s w) no_address) ∙ does in let no : ⊥ = cc in no

  pub overrides : (t s s' : Rtx) (e e' : Effect) → set_effect symbols regs m t s ≡ Some e →
      set_effect symbols regs m t s' ≡ Some e' → Overrides e e'
  overrides t s s' e e' does does' = by (address_of t) (register_of t) refl refl
    where
      w : (w : Width) × (width_of (mode_at t) ≡ Some w)
      w = set_width (width_of (mode_at t)) (set_place (address_of t) symbols regs m t s) e does

      by : (o : Option Rtx) (r : Option ℕ) → address_of t ≡ o → register_of t ≡ r → Overrides e e'
      by None None no_address no_register = absurd (no_target t s w.0 e no_address no_register (by_width t s w.0 e w.1 does))
      by None (Some r) no_address is =
          let k = set_inverse symbols regs m t s w.0 r e no_address is (by_width t s w.0 e w.1 does) in
          let k' = set_inverse symbols regs m t s' w.0 r e' no_address is (by_width t s' w.0 e' w.1 does') in
          subst (λ e. Overrides e e') (sym k.1) (subst (Overrides (Sets r k.0)) (sym k'.1) refl)
      by (Some a) r is _ =
          let k = store_inverse symbols regs m t s a w.0 e is (by_width t s w.0 e w.1 does) in
          let k' = store_inverse symbols regs m t s' a w.0 e' is (by_width t s' w.0 e' w.1 does') in
          let both : Some k.0 ≡ Some k'.0 = sym k.1.1.0 ∙ k'.1.1.0 in
          let same : k.0 ≡ k'.0 = cc in
          subst (λ e. Overrides e e') (sym k.1.1.1) (subst (Overrides (Stores w.0 k.0 k.1.0)) (sym k'.1.1.1) (refl, same))

module _ (homes : List HomeOf) (layout : Layout) (kind : Kind) (w pattern : Rtx) (found : Ops) (plan : Plan)
    (sound : IsSoundPlan (given homes layout kind w pattern found plan) plan) (symbols : List SymbolAt) (regs : Regs)
    (m : List MemByte) (sp : ℕ)
    (slot_is : (reg : ℕ) → home_of homes reg ≡ Slot → value_of symbols regs m (slot_address layout reg) W64 ≡ Some
    (sp + slot_offset layout reg))
    (slots_apart : (a b : ℕ) → a ≢ b → home_of homes a ≡ Slot → home_of homes b ≡ Slot →
    Apart (sp + slot_offset layout a) 8 (sp + slot_offset layout b) 8) where
  abbrev hm : Rtx → Rtx
  hm = homed homes layout

  abbrev TouchOf : Rtx → Effect → Type 0
  TouchOf = Touch homes layout symbols regs m sp slot_is

  abbrev RowOf : Rtx → Rtx → Effect → Type 0
  RowOf = Row homes layout kind w pattern found plan sound symbols regs m

  abbrev KeyOf : Rtx → Option ℕ
  KeyOf = Key homes layout kind w pattern found plan sound symbols regs m

  -- what is stored in other memory is in no slot
  abbrev pub IsOutside : Rtx → Effect → Type 0
  IsOutside v e = (t s : Rtx) (width : Width) (at value : ℕ) → (head_of v).code ≡ code.Set → kids_of v ≡ t ∷ s ∷ [] →
      (head_of t).code ≡ code.Mem →
      e ≡ Stores width at value → (reg : ℕ) → home_of homes reg ≡ Slot → Apart at (bytes_of width) (sp + slot_offset layout reg) 8

  apart_by : (v v' : Rtx) (e e' : Effect) → TouchOf v e → TouchOf v' e' → Differ changed_register v v' →
      Differ changed_register (hm v) (hm v') →
      IsOutside v e → IsOutside v' e' → (SetsMemory v → SetsMemory v' → ⊥) → AreApart e e'
  apart_by v v' _ _ idle idle before after out out' sole = tt
  apart_by v v' _ _ idle (sets reg' h' known' a' b') before after out out' sole = tt
  apart_by v v' _ _ idle (unsets reg' h' a' b') before after out out' sole = tt
  apart_by v v' _ _ idle (slot reg' value' width' a' d' home') before after out out' sole = tt
  apart_by v v' _ _ idle (other t' s' width' at' value' is' are' memory') before after out out' sole = tt
  apart_by v v' _ _ (sets reg h known a b) idle before after out out' sole = tt
  apart_by v v' _ _ (sets reg h known a b) (sets reg' h' known' a' b') before after out out' sole = λ same. after h h' b b' same
  apart_by v v' _ _ (sets reg h known a b) (unsets reg' h' a' b') before after out out' sole = λ same. after h h' b b' same
  apart_by v v' _ _ (sets reg h known a b) (slot reg' value' width' a' d' home') before after out out' sole = tt
  apart_by v v' _ _ (sets reg h known a b) (other t' s' width' at' value' is' are' memory') before after out out' sole = tt
  apart_by v v' _ _ (unsets reg h a b) idle before after out out' sole = tt
  apart_by v v' _ _ (unsets reg h a b) (sets reg' h' known' a' b') before after out out' sole = λ same. after h h' b b' same
  apart_by v v' _ _ (unsets reg h a b) (unsets reg' h' a' b') before after out out' sole = tt
  apart_by v v' _ _ (unsets reg h a b) (slot reg' value' width' a' d' home') before after out out' sole = tt
  apart_by v v' _ _ (unsets reg h a b) (other t' s' width' at' value' is' are' memory') before after out out' sole = tt
  apart_by v v' _ _ (slot reg value width a d home) idle before after out out' sole = tt
  apart_by v v' _ _ (slot reg value width a d home) (sets reg' h' known' a' b') before after out out' sole = tt
  apart_by v v' _ _ (slot reg value width a d home) (unsets reg' h' a' b') before after out out' sole = tt
  apart_by v v' _ _ (slot reg value width a d home) (slot reg' value' width' a' d' home') before after out out' sole =
      fewer _ _ _ _ (eight_bytes width) (eight_bytes width') (slots_apart reg reg' (before reg reg' a a') home home')
  apart_by v v' _ _ (slot reg value width a d home) (other t' s' width' at' value' is' are' memory') before after out
      out' sole = fewer _ _ _ _ (eight_bytes width) (whole_bytes (bytes_of width'))
      (turned _ _ _ _ (out' t' s' width' at' value' is' are' memory' refl reg home))
  apart_by v v' _ _ (other t s width at value is are memory) idle before after out out' sole = tt
  apart_by v v' _ _ (other t s width at value is are memory) (sets reg' h' known' a' b') before after out out' sole = tt
  apart_by v v' _ _ (other t s width at value is are memory) (unsets reg' h' a' b') before after out out' sole = tt
  apart_by v v' _ _ (other t s width at value is are memory) (slot reg' value' width' a' d' home') before after out out'
      sole = fewer _ _ _ _ (whole_bytes (bytes_of width)) (eight_bytes width') (out t s width at value is are memory refl reg' home')
  apart_by v v' _ _ (other t s width at value is are memory) (other t' s' width' at' value' is' are' memory') before
      after out out' sole = absurd (sole (record { target = t; source = s; is_set = is; are = are; memory = memory })
      (record { target = t'; source = s'; is_set = is'; are = are'; memory = memory' }))

  -- where one that is moved changes other memory, any other that does is of the same operand
  abbrev pub IsSole : Rtx → ℕ → Rtx → Rtx → Type 0
  IsSole v k q' v' = SetsMemory v → SetsMemory v' → KeyOf q' ≡ Some k

  pub pair_passes : (q v q' v' : Rtx) (e e' : Effect) (k : ℕ) → RowOf q v e → RowOf q' v' e' → IsOutside v e →
      IsOutside v' e' → Differ changed_register v v' →
      Differ changed_register (hm v) (hm v') → IsSole v k q' v' → KeyOf q ≡ Some k →
      (KeyOf q' ≡ Some k → Overrides e e') × (KeyOf q' ≢ Some k → AreApart e e')
  pair_passes q v q' v' e e' k row row' out out' before after sole key = (same_key, other_key)
    where
      same_key : KeyOf q' ≡ Some k → Overrides e e'
      same_key key' =
          let r = keyed_row homes layout kind w pattern found plan sound symbols regs m q v e k row key in
          let r' = keyed_row homes layout kind w pattern found plan sound symbols regs m q' v' e' k row' key' in
          let p_is : Some r'.p ≡ Some r.p = sym r'.part.stands ∙ r.part.stands in
          let p_same : r'.p ≡ r.p = cc in
          let x_is : Some r'.x ≡ Some r.x = sym r'.part.of ∙ ap (λ (p : Part). slice_get
          (given homes layout kind w pattern found plan).operands p.place) p_same ∙ r.part.of in
          let x_same : r'.x ≡ r.x = cc in
          overrides symbols regs m r.x.tree (hm r.s) (hm r'.s) e e' r.does
          (ap (λ (x : Operand). set_effect symbols regs m x.tree (hm r'.s)) (sym x_same) ∙ r'.does)

      other_key : KeyOf q' ≢ Some k → AreApart e e'
      other_key differ = apart_by v v' e e' (touch homes layout symbols regs m sp slot_is v e row.shaped row.natural row.does)
          (touch homes layout symbols regs m sp slot_is v' e' row'.shaped row'.natural row'.does) before after out
          out' (λ first second. differ (sole first second))
