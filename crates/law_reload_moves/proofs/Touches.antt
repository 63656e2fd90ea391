-- What an effect of an instruction with homes put in changes: nothing, a hard register, the slot of a register, or other memory.
use Rattle.std.proofs.Common.{◌≡◌, ◌≢◌, ◌⊎◌, inl, inr, ℕ, ◌+◌, ◌<◌, ◌^◌, Bool, true, false, if◌then◌else◌, List, [], ◌∷◌, map, Option, Some, None, refl, sym, ap, subst, ◌∙◌}
use Rattle.std.proofs.lemmas.Bool.{and_parts}
use Rattle.std.specs.Int.{cast_unsigned, int_wrap, w64}
use Rattle.std.specs.List.{list_all}
use Rattle.std.specs.Ordering.{int_eq}
use Rattle.std.specs.Prelude.{ℤ, pos, negsuc, is_some, option_map, option_and_then}
use Rattle.law_operands_fetched.specs.bits64.declared.Width.{Width}
use Rattle.law_operands_fetched.specs.bits64.declared.Width.TheVariants.{W64}
use Rattle.law_operands_fetched.specs.rtx_tree.Code.{class_of_code}
use Rattle.law_operands_fetched.specs.rtx_tree.Tree.{RtxHead, head_of, kids_of, reg_of}
use Rattle.law_operands_fetched.specs.rtx_tree.declared.code.Code.{Code}
use Rattle.law_operands_fetched.specs.rtx_tree.declared.code.Code.TheVariants as code
use Rattle.law_operands_fetched.specs.rtx_tree.declared.code.Mode.{Mode}
use Rattle.law_operands_fetched.specs.rtx_tree.declared.machine.SymbolAt.{SymbolAt}
use Rattle.law_operands_fetched.specs.rtx_tree.declared.memories.MemByte.{MemByte}
use Rattle.law_operands_fetched.specs.rtx_tree.declared.tree.Rtx.{Rtx, out-roll-Rtx}
use Rattle.law_operands_fetched.specs.rtx_tree.declared.tree.Rtx.TheOpen.{Rtx-F}
use Rattle.law_operands_fetched.proofs.rtx_tree.Trees.{head_of-tree, kids_of-tree}
use Rattle.law_operands_fetched.specs.run_memory.RunMemory.{load}
use Rattle.law_operands_fetched.specs.rtl_func.Effects.{place_register_by, place_register, changed_by, changed_register}
use Rattle.law_operands_fetched.specs.rtl_func.Modes as modes
use Rattle.law_operands_fetched.specs.rtl_func.Shapes.{class_at, mode_at, number_at, is_shaped}
use Rattle.law_operands_fetched.proofs.rtl_func.AllPass as nodes
use Rattle.law_operands_fetched.proofs.rtl_func.AllPass.{all_pass}
use Rattle.law_operands_fetched.specs.rtl_step.Effect.{effect_of, effect_by, register_of, address_part, address_of, set_place, set_effect, clobber_by, clobber_effect}
use Rattle.law_operands_fetched.specs.rtl_step.Effect as effects
use Rattle.law_operands_fetched.specs.rtl_step.Regs.{Regs, known_of}
use Rattle.law_operands_fetched.specs.rtl_step.Value.{width_of, value_of, of_two}
use Rattle.law_operands_fetched.specs.rtl_step.declared.effect.Effect.{Effect}
use Rattle.law_operands_fetched.specs.rtl_step.declared.effect.Effect.TheVariants.{Nothing, Sets, Unsets, Stores}
use Rattle.law_operands_fetched.specs.rtl_step.declared.regs.Known.{Known}
use Rattle.law_operands_fetched.specs.sym_insns.Shape.{is_natural, all_natural}
use Rattle.law_operands_fetched.specs.assign.declared.home.Home.{Home}
use Rattle.law_operands_fetched.specs.assign.declared.home.Home.TheVariants.{Hard, Slot}
use Rattle.law_operands_fetched.specs.assign.declared.home.HomeOf.{HomeOf}
use Rattle.law_operands_fetched.specs.assign.declared.places.Layout.{Layout}
use Rattle.law_operands_fetched.specs.reload_homes.Homes.{home_of, slot_offset, slot_address, place_by, register_at, homed}
use Rattle.law_operands_fetched.specs.reload_homes.Homes as places
use Rattle.law_operands_fetched.proofs.reload_homes.Rewrites.{homed_register, homed_over}
use Rattle.law_operands_fetched.specs.reload_operands.Changes as changes
use Rattle.law_operands_fetched.specs.md_constr.Inputs.{target_by}
use Rattle.law_operands_fetched.proofs.law_operands_replaced.ElementTurns.{effect_code}
use Rattle.law_operands_fetched.proofs.HomedQuiet.{RegisterCase, whole, low, case_of}
use Rattle.law_reload_moves.proofs.HomedTrees.{low_placed}
use Rattle.law_operands_fetched.proofs.law_operands_replaced.SetWidth.{set_width}
use Rattle.law_operands_fetched.proofs.SmallTrees.{natural_out}

-- what one tree comes of
pub one_kid : (f : Rtx → Rtx) (xs : List Rtx) (x : Rtx) → map f xs ≡ x ∷ [] → (t : Rtx) × ((xs ≡ t ∷ []) × (f t ≡ x))
one_kid f [] x is = absurd (let no : ⊥ = cc in no)
one_kid f (t ∷ []) x is = (t, (refl, (let same : f t ≡ x = cc in same)))
one_kid f (t ∷ s ∷ xs) x is = absurd (let no : ⊥ = cc in no)

-- ---- the register that an effect changes

place_is : (t : Rtx) (reg : ℕ) → RegisterCase t reg → place_register t ≡ Some reg
place_is t reg (whole is number) =
    ap (λ c. place_register_by (class_of_code c) (kids_of t) t) is ∙ ap (λ c. modes.register_by (class_of_code c) (number_at t)) is ∙
    ap (λ n. Some (cast_unsigned w64 n)) number
place_is t reg (low inner is are is' number) =
    ap (λ c. place_register_by (class_of_code c) (kids_of t) t) is ∙ ap (λ ks. place_register_by (class_of_code code.Subreg) ks t) are ∙
    ap (λ c. modes.register_by (class_of_code c) (number_at inner)) is' ∙ ap (λ n. Some (cast_unsigned w64 n)) number

abbrev is_changing_code : Code → Bool
is_changing_code code.Set = true
is_changing_code code.Clobber = true
is_changing_code _ = false

changing_by : (c : Code) (t : Rtx) (rest : List Rtx) → is_changing_code c ≡ true →
    changed_by (class_of_code c) (t ∷ rest) ≡ place_register t
changing_by code.Set t rest is = refl
changing_by code.Clobber t rest is = refl
changing_by _ t rest is = absurd (let no : ⊥ = cc in no)

pub changed_is : (v t : Rtx) (rest : List Rtx) (reg : ℕ) → is_changing_code (head_of v).code ≡ true →
    kids_of v ≡ t ∷ rest → RegisterCase t reg → changed_register v ≡ Some reg
changed_is v t rest reg is are at =
    ap (changed_by (class_at v)) are ∙ changing_by (head_of v).code t rest is ∙ place_is t reg at

-- ---- effects of sets

pub set_inverse : (symbols : List SymbolAt) (regs : Regs) (m : List MemByte) (t s : Rtx) (w : Width) (r : ℕ)
    (e : Effect) → address_of t ≡ None → register_of t ≡ Some r →
    set_place (address_of t) symbols regs m t s w ≡ Some e → (known : Known) × (e ≡ Sets r known)
set_inverse symbols regs m t s w r e none is at = by (value_of symbols regs m s w)
    (sym (ap (λ o. of_two (λ reg value. Some (Sets reg (known_of w value))) o (value_of symbols regs m s w)) is) ∙
    sym (ap (λ o. set_place o symbols regs m t s w) none) ∙ at)
  where
    by : (v : Option ℕ) → of_two (λ reg value. Some (Sets reg (known_of w value))) (Some r) v ≡ Some e →
        (known : Known) × (e ≡ Sets r known)
    by None at = absurd (let no : ⊥ = cc in no)
    by (Some v) at = (known_of w v, (let same : Sets r (known_of w v) ≡ e = cc in sym same))

pub store_inverse : (symbols : List SymbolAt) (regs : Regs) (m : List MemByte) (t s a : Rtx) (w : Width)
    (e : Effect) → address_of t ≡ Some a →
    set_place (address_of t) symbols regs m t s w ≡ Some e → (at : ℕ) ×
    ((v : ℕ) × ((value_of symbols regs m a W64 ≡ Some at) × (e ≡ Stores w at v)))
store_inverse symbols regs m t s a w e is at = by (value_of symbols regs m a W64) (value_of symbols regs m s w) refl
    (sym (ap (λ o. set_place o symbols regs m t s w) is) ∙ at)
  where
    there : (b : Bool) (p v : ℕ) → (if b then Some (Stores w p v) else None) ≡ Some e → e ≡ Stores w p v
    there true p v at = let same : Stores w p v ≡ e = cc in sym same
    there false p v at = absurd (let no : ⊥ = cc in no)

    by : (o v : Option ℕ) → value_of symbols regs m a W64 ≡ o → of_two
        (λ at value. if is_some (load w m at) then Some (Stores w at value) else None) o v ≡ Some e →
        (at : ℕ) × ((v : ℕ) × ((value_of symbols regs m a W64 ≡ Some at) × (e ≡ Stores w at v)))
    by None v is at = absurd (let no : ⊥ = cc in no)
    by (Some p) None is at = absurd (let no : ⊥ = cc in no)
    by (Some p) (Some v) is at = (p, (v, (is, there (is_some (load w m p)) p v at)))

-- ---- trees that are no register

register_code : (c : Code) (n : ℤ) (kids : List Rtx) (r : ℕ) → effects.register_by c n kids ≡ Some r → (c ≡ code.Reg) ⊎ (c ≡ code.Subreg)
register_code code.Reg n kids r is = inl refl
register_code code.Subreg n kids r is = inr refl
register_code _ n kids r is = absurd (let no : ⊥ = cc in no)

address_code : (c : Code) (kids : List Rtx) (a : Rtx) → address_part c kids ≡ Some a → c ≡ code.Mem
address_code code.Mem kids a is = refl
address_code _ kids a is = absurd (let no : ⊥ = cc in no)

-- a natural register has a number
natural_register : (t : Rtx) (n : ℤ) → (head_of t).code ≡ code.Reg → (head_of t).number ≡ n → all_natural t ≡ true →
    (reg : ℕ) × (register_at t ≡ Some reg)
natural_register t (pos reg) is number natural = (
  reg,
  ap (λ c. places.register_by c t (kids_of t)) is ∙ ap (λ c. places.register_numbered c (head_of t).number)
      is ∙ ap (places.register_numbered code.Reg) number,
)
natural_register t (negsuc n) is number natural =
    let e : false ≡ true = sym (ap (λ c. is_natural c (head_of t).number) is ∙ ap (is_natural code.Reg) number) ∙
    (and_parts (is_natural (head_of t).code (head_of t).number) _ (sym (natural_out t) ∙ natural)).0 in absurd (let no : ⊥ = cc in no)

module _ (homes : List HomeOf) (layout : Layout) (symbols : List SymbolAt) (regs : Regs) (m : List MemByte) (sp : ℕ)
    (slot_is : (reg : ℕ) → home_of homes reg ≡ Slot → value_of symbols regs m (slot_address layout reg) W64 ≡ Some
    (sp + slot_offset layout reg)) where
  abbrev hm : Rtx → Rtx
  hm = homed homes layout

  pub data Touch (v : Rtx) : Effect → Type 0 where
    idle : Touch v Nothing
    sets : (reg h : ℕ) (known : Known) → changed_register v ≡ Some reg → changed_register (hm v) ≡ Some h → Touch v (Sets h known)
    unsets : (reg h : ℕ) → changed_register v ≡ Some reg → changed_register (hm v) ≡ Some h → Touch v (Unsets h)
    slot : (reg value : ℕ) (width : Width) → changed_register v ≡ Some reg → changes.changed_register v ≡ Some reg → home_of homes reg ≡ Slot →
        Touch v (Stores width (sp + slot_offset layout reg) value)
    other : (t s : Rtx) (width : Width) (at value : ℕ) → (head_of v).code ≡ code.Set → kids_of v ≡ t ∷ s ∷ [] →
        (head_of t).code ≡ code.Mem →
        Touch v (Stores width at value)

  -- what has no register in itself has its head still
  over_head : (t : Rtx) → register_at t ≡ None → head_of (hm t) ≡ head_of t
  over_head t none = ap head_of (homed_over homes layout t none) ∙ head_of-tree (head_of t) (map hm (kids_of t))

  no_register : (t : Rtx) (r : ℕ) → all_pass is_shaped t ≡ true → all_natural t ≡ true → register_at t ≡ None →
      register_of (hm t) ≡ Some r → ⊥
  no_register t r shaped natural none is = by (register_code (head_of (hm t)).code (head_of (hm t)).number (kids_of (hm t)) r is)
    where
      same : (head_of (hm t)).code ≡ (head_of t).code
      same = ap (λ (h : RtxHead). h.code) (over_head t none)

      by : ((head_of (hm t)).code ≡ code.Reg) ⊎ ((head_of (hm t)).code ≡ code.Subreg) → ⊥
      by (inl reg) = let n = natural_register t (head_of t).number (sym same ∙ reg) refl natural in
          let e : ◌≡◌ {A = Option ℕ} None (Some n.0) = sym none ∙ n.1 in let no : ⊥ = cc in no
      by (inr sub) = low_placed homes layout t (sym same ∙ sub) (nodes.itself is_shaped t shaped) natural none

  -- ---- what stands for a register

  hard_place : (mode : Mode) (h : ℕ) → let y = reg_of mode h in (address_of y ≡ None) ×
      ((register_of y ≡ Some h) × (place_register y ≡ Some h))
  hard_place mode h = (
    ap (λ (o : Rtx-F Rtx). address_part o.code o.kids) (out-roll-Rtx _),
    (
      ap (λ (o : Rtx-F Rtx). effects.register_by o.code o.number o.kids) (out-roll-Rtx _),
      ap (λ (o : Rtx-F Rtx). place_register_by (class_of_code o.code) o.kids (reg_of mode h)) (out-roll-Rtx _) ∙
          ap (λ (o : Rtx-F Rtx). modes.register_by (class_of_code o.code) (cast_unsigned w64 o.number)) (out-roll-Rtx _),
    ),
  )

  slot_place : (mode : Mode) (reg : ℕ) → let y = place_by layout mode reg Slot in
      (address_of y ≡ Some (slot_address layout reg)) × ((head_of y).code ≡ code.Mem)
  slot_place mode reg = (
    ap (λ (o : Rtx-F Rtx). address_part o.code o.kids) (out-roll-Rtx _),
    ap (λ (h : RtxHead). h.code) (head_of-tree _ _),
  )

  -- ---- an element

  -- v with homes put in, by its parts
  no_place : (v : Rtx) (e : Effect) → effect_of symbols regs m (hm v) ≡ Some e → register_at v ≡ None
  no_place v e does = by (register_at v) refl
    where
      code_by : (c : Code) → (c ≡ code.Reg) ⊎ (c ≡ code.Mem) → (kids : List Rtx) → effect_by c kids symbols regs m ≡ Some e → ⊥
      code_by c (inl is) kids at = let e' : ◌≡◌ {A = Option Effect} None (Some e) = sym
          (ap (λ c. effect_by c kids symbols regs m) is) ∙ at in let no : ⊥ = cc in no
      code_by c (inr is) kids at = let e' : ◌≡◌ {A = Option Effect} None (Some e) = sym
          (ap (λ c. effect_by c kids symbols regs m) is) ∙ at in let no : ⊥ = cc in no

      place_code : (mode : Mode) (reg : ℕ) (h : Home) → ((head_of (place_by layout mode reg h)).code ≡ code.Reg) ⊎
          ((head_of (place_by layout mode reg h)).code ≡ code.Mem)
      place_code mode reg (Hard h) = inl (ap (λ (h : RtxHead). h.code) (head_of-tree _ _))
      place_code mode reg Slot = inr (ap (λ (h : RtxHead). h.code) (head_of-tree _ _))

      by : (o : Option ℕ) → register_at v ≡ o → o ≡ None
      by None at = refl
      by (Some reg) at = absurd (code_by (head_of (hm v)).code
          (subst (λ (y : Rtx). ((head_of y).code ≡ code.Reg) ⊎ ((head_of y).code ≡ code.Mem))
          (sym (homed_register homes layout v reg at)) (place_code (head_of v).mode reg (home_of homes reg)))
          (kids_of (hm v)) does)

  kids_there : (v : Rtx) → register_at v ≡ None → kids_of (hm v) ≡ map hm (kids_of v)
  kids_there v none = ap kids_of (homed_over homes layout v none) ∙ kids_of-tree (head_of v) (map hm (kids_of v))

  after_is : (v t : Rtx) (rest : List Rtx) (h : ℕ) → is_changing_code (head_of v).code ≡ true → register_at v ≡ None →
      kids_of v ≡ t ∷ rest → place_register (hm t) ≡ Some h →
      changed_register (hm v) ≡ Some h
  after_is v t rest h is none are at =
      ap (changed_by (class_at (hm v))) (kids_there v none ∙ ap (map hm) are) ∙
      ap (λ (h : RtxHead). changed_by (class_of_code h.code) (hm t ∷ map hm rest)) (over_head v none) ∙
      changing_by (head_of v).code (hm t) (map hm rest) is ∙ at

  inside : (v t : Rtx) (rest : List Rtx) → kids_of v ≡ t ∷ rest → all_pass is_shaped v ≡ true → all_natural v ≡ true →
      (all_pass is_shaped t ≡ true) × (all_natural t ≡ true)
  inside v t rest are shaped natural = (
    (and_parts (all_pass is_shaped t) _ (ap (list_all (all_pass is_shaped)) (sym are) ∙ nodes.within is_shaped v shaped)).0,
    (and_parts (all_natural t) _ (ap (list_all all_natural) (sym are) ∙
        (and_parts (is_natural (head_of v).code (head_of v).number) _ (sym (natural_out v) ∙ natural)).1)).0,
  )

  -- a set of a register
  set_register_touch : (v t s : Rtx) (e : Effect) (reg : ℕ) (h : Home) → (head_of v).code ≡ code.Set →
      kids_of v ≡ t ∷ s ∷ [] → register_at v ≡ None → register_at t ≡ Some reg →
      home_of homes reg ≡ h → set_effect symbols regs m (place_by layout (head_of t).mode reg h) (hm s) ≡ Some e → Touch v e
  set_register_touch v t s e reg (Hard h) is are none at home does =
      let y = place_by layout (head_of t).mode reg (Hard h) in
      let p = hard_place (head_of t).mode h in
      let w = set_width (width_of (mode_at y)) (set_place (address_of y) symbols regs m y (hm s)) e does in
      let k = set_inverse symbols regs m y (hm s) w.0 h e p.0 p.1.0 (sym
      (ap (option_and_then (set_place (address_of y) symbols regs m y (hm s))) w.1) ∙ does) in
      let changing : is_changing_code (head_of v).code ≡ true = ap is_changing_code is in
      let here : hm t ≡ y = homed_register homes layout t reg at ∙ ap (place_by layout (head_of t).mode reg) home in
      subst (Touch v) (sym k.1) (sets reg h k.0 (changed_is v t (s ∷ []) reg changing are (case_of t reg at))
      (after_is v t (s ∷ []) h changing none are (ap place_register here ∙ p.1.1)))
  set_register_touch v t s e reg Slot is are none at home does =
      let y = place_by layout (head_of t).mode reg Slot in
      let p = slot_place (head_of t).mode reg in
      let w = set_width (width_of (mode_at y)) (set_place (address_of y) symbols regs m y (hm s)) e does in
      let k = store_inverse symbols regs m y (hm s) (slot_address layout reg) w.0 e p.0
      (sym (ap (option_and_then (set_place (address_of y) symbols regs m y (hm s))) w.1) ∙ does) in
      let same : Some k.0 ≡ Some (sp + slot_offset layout reg) = sym k.1.1.0 ∙ slot_is reg home in
      let place : k.0 ≡ sp + slot_offset layout reg = cc in
      subst (Touch v) (sym (k.1.1.1 ∙ ap (λ at. Stores w.0 at k.1.0) place))
      (slot reg k.1.0 w.0 (changed_is v t (s ∷ []) reg (ap is_changing_code is) are (case_of t reg at))
      (ap (λ c. option_and_then register_at (target_by c (kids_of v))) is ∙ ap (λ ks. option_and_then register_at (target_by code.Set ks)) are ∙ at) home)

  -- a set of memory
  set_other_touch : (v t s : Rtx) (e : Effect) (o : Option Rtx) → (head_of v).code ≡ code.Set →
      kids_of v ≡ t ∷ s ∷ [] → register_at t ≡ None →
      all_pass is_shaped t ≡ true → all_natural t ≡ true → address_of (hm t) ≡ o →
      set_effect symbols regs m (hm t) (hm s) ≡ Some e → Touch v e
  set_other_touch v t s e (Some a) is are none shaped natural at does =
      let w = set_width (width_of (mode_at (hm t))) (set_place (address_of (hm t)) symbols regs m (hm t) (hm s)) e does in
      let k = store_inverse symbols regs m (hm t) (hm s) a w.0 e at (sym
      (ap (option_and_then (set_place (address_of (hm t)) symbols regs m (hm t) (hm s))) w.1) ∙ does) in
      let memory : (head_of t).code ≡ code.Mem = ap (λ (h : RtxHead). h.code) (sym (over_head t none)) ∙
      address_code (head_of (hm t)).code (kids_of (hm t)) a at in
      subst (Touch v) (sym k.1.1.1) (other t s w.0 k.0 k.1.0 is are memory)
  set_other_touch v t s e None is are none shaped natural at does = by (register_of (hm t)) refl
    where
      by : (r : Option ℕ) → register_of (hm t) ≡ r → Touch v e
      by (Some r) there = absurd (no_register t r shaped natural none there)
      by None there =
          let w = set_width (width_of (mode_at (hm t))) (set_place (address_of (hm t)) symbols regs m (hm t) (hm s)) e does in
          let e' : ◌≡◌ {A = Option Effect} None (Some e) =
          sym (ap (λ o. of_two (λ reg value. Some (Sets reg (known_of w.0 value))) o (value_of symbols regs m (hm s) w.0)) there) ∙
          sym (ap (λ o. set_place o symbols regs m (hm t) (hm s) w.0) at) ∙
          sym (ap (option_and_then (set_place (address_of (hm t)) symbols regs m (hm t) (hm s))) w.1) ∙ does in
          absurd (let no : ⊥ = cc in no)

  -- a clobber
  clobber_register_touch : (v t : Rtx) (e : Effect) (reg : ℕ) (h : Home) → (head_of v).code ≡ code.Clobber →
      kids_of v ≡ t ∷ [] → register_at v ≡ None → register_at t ≡ Some reg →
      home_of homes reg ≡ h → clobber_effect (place_by layout (head_of t).mode reg h) ≡ Some e → Touch v e
  clobber_register_touch v t e reg (Hard h) is are none at home does =
      let y = place_by layout (head_of t).mode reg (Hard h) in
      let p = hard_place (head_of t).mode h in
      let e' : Some (Unsets h) ≡ Some e = sym (ap (λ (h' : RtxHead). clobber_by h'.code (register_of y))
      (head_of-tree _ _) ∙ ap (clobber_by code.Reg) p.1.0) ∙ does in
      let same : Unsets h ≡ e = cc in
      let changing : is_changing_code (head_of v).code ≡ true = ap is_changing_code is in
      let here : hm t ≡ y = homed_register homes layout t reg at ∙ ap (place_by layout (head_of t).mode reg) home in
      subst (Touch v) same (unsets reg h (changed_is v t [] reg changing are (case_of t reg at))
      (after_is v t [] h changing none are (ap place_register here ∙ p.1.1)))
  clobber_register_touch v t e reg Slot is are none at home does =
      let y = place_by layout (head_of t).mode reg Slot in
      let e' : Some Nothing ≡ Some e = sym (ap (λ c. clobber_by c (register_of y)) (slot_place (head_of t).mode reg).1) ∙ does in
      let same : Nothing ≡ e = cc in subst (Touch v) same idle

  clobber_other_touch : (v t : Rtx) (e : Effect) (c : Code) (r : Option ℕ) → register_at t ≡ None →
      all_pass is_shaped t ≡ true → all_natural t ≡ true →
      register_of (hm t) ≡ r → clobber_by c r ≡ Some e → Touch v e
  clobber_other_touch v t e code.Mem r none shaped natural at does = let same : Nothing ≡ e = cc in subst (Touch v) same idle
  clobber_other_touch v t e code.Scratch r none shaped natural at does = let same : Nothing ≡ e = cc in subst (Touch v) same idle
  clobber_other_touch v t e c (Some r) none shaped natural at does = absurd (no_register t r shaped natural none at)
  clobber_other_touch v t e _ None none shaped natural at does = absurd (let no : ⊥ = cc in no)

  -- ---- each element

  set_by : (v t s : Rtx) (e : Effect) (o : Option ℕ) → (head_of v).code ≡ code.Set → kids_of v ≡ t ∷ s ∷ [] →
      register_at v ≡ None → register_at t ≡ o →
      all_pass is_shaped t ≡ true → all_natural t ≡ true → set_effect symbols regs m (hm t) (hm s) ≡ Some e → Touch v e
  set_by v t s e (Some reg) is are none at shaped natural does =
      set_register_touch v t s e reg (home_of homes reg) is are none at refl
      (ap (λ y. set_effect symbols regs m y (hm s)) (sym (homed_register homes layout t reg at)) ∙ does)
  set_by v t s e None is are none at shaped natural does = set_other_touch v t s e (address_of (hm t)) is are at shaped natural refl does

  clobber_by_target : (v t : Rtx) (e : Effect) (o : Option ℕ) → (head_of v).code ≡ code.Clobber → kids_of v ≡ t ∷ [] →
      register_at v ≡ None → register_at t ≡ o →
      all_pass is_shaped t ≡ true → all_natural t ≡ true → clobber_effect (hm t) ≡ Some e → Touch v e
  clobber_by_target v t e (Some reg) is are none at shaped natural does =
      clobber_register_touch v t e reg (home_of homes reg) is are none at refl
      (ap clobber_effect (sym (homed_register homes layout t reg at)) ∙ does)
  clobber_by_target v t e None is are none at shaped natural does =
      clobber_other_touch v t e (head_of (hm t)).code (register_of (hm t)) at shaped natural refl does

  two_kids : (xs : List Rtx) (x y : Rtx) → map hm xs ≡ x ∷ y ∷ [] → (t : Rtx) ×
      ((s : Rtx) × ((xs ≡ t ∷ s ∷ []) × ((hm t ≡ x) × (hm s ≡ y))))
  two_kids [] x y is = absurd (let no : ⊥ = cc in no)
  two_kids (t ∷ []) x y is = absurd (let no : ⊥ = cc in no)
  two_kids (t ∷ s ∷ []) x y is = (t, (s, (refl, ((let same : hm t ≡ x = cc in same), (let same : hm s ≡ y = cc in same)))))
  two_kids (t ∷ s ∷ r ∷ xs) x y is = absurd (let no : ⊥ = cc in no)

  -- what an element's effect changes
  pub touch : (v : Rtx) (e : Effect) → all_pass is_shaped v ≡ true → all_natural v ≡ true →
      effect_of symbols regs m (hm v) ≡ Some e → Touch v e
  touch v e shaped natural does =
      by (effect_code (head_of (hm v)).code (kids_of (hm v)) symbols regs m e does)
    where
      none : register_at v ≡ None
      none = no_place v e does

      code_is : (c : Code) → (head_of (hm v)).code ≡ c → (head_of v).code ≡ c
      code_is c is = ap (λ (h : RtxHead). h.code) (sym (over_head v none)) ∙ is

      set_case : (x y : Rtx) → (head_of (hm v)).code ≡ code.Set → kids_of (hm v) ≡ x ∷ y ∷ [] → Touch v e
      set_case x y is are =
          let k = two_kids (kids_of v) x y (sym (kids_there v none) ∙ are) in
          let good = inside v k.0 (k.1.0 ∷ []) k.1.1.0 shaped natural in
          let does' : set_effect symbols regs m x y ≡ Some e = sym (ap
          (λ c. effect_by c (kids_of (hm v)) symbols regs m) is ∙ ap (λ ks. effect_by code.Set ks symbols regs m) are) ∙ does in
          set_by v k.0 k.1.0 e (register_at k.0) (code_is code.Set is) k.1.1.0 none refl good.0 good.1
          (ap (λ x. set_effect symbols regs m x (hm k.1.0)) k.1.1.1.0 ∙ ap (set_effect symbols regs m x) k.1.1.1.1 ∙ does')

      clobber_case : (x : Rtx) → (head_of (hm v)).code ≡ code.Clobber → kids_of (hm v) ≡ x ∷ [] → Touch v e
      clobber_case x is are =
          let k = one_kid hm (kids_of v) x (sym (kids_there v none) ∙ are) in
          let good = inside v k.0 [] k.1.0 shaped natural in
          let does' : clobber_effect x ≡ Some e = sym (ap (λ c. effect_by c (kids_of (hm v)) symbols regs m) is ∙
          ap (λ ks. effect_by code.Clobber ks symbols regs m) are) ∙ does in
          clobber_by_target v k.0 e (register_at k.0) (code_is code.Clobber is) k.1.0 none refl good.0 good.1
          (ap clobber_effect k.1.1 ∙ does')

      use_case : (x : Rtx) → (head_of (hm v)).code ≡ code.Use → kids_of (hm v) ≡ x ∷ [] → Touch v e
      use_case x is are =
          let e' : Some Nothing ≡ Some e = sym (ap (λ c. effect_by c (kids_of (hm v)) symbols regs m) is ∙
          ap (λ ks. effect_by code.Use ks symbols regs m) are) ∙ does in
          let same : Nothing ≡ e = cc in subst (Touch v) same idle

      by : (((head_of (hm v)).code ≡ code.Set) × ((x : Rtx) × ((y : Rtx) × (kids_of (hm v) ≡ x ∷ y ∷ [])))) ⊎
          ((((head_of (hm v)).code ≡ code.Use) × ((x : Rtx) × (kids_of (hm v) ≡ x ∷ []))) ⊎
          (((head_of (hm v)).code ≡ code.Clobber) × ((x : Rtx) × (kids_of (hm v) ≡ x ∷ [])))) → Touch v e
      by (inl s) = set_case s.1.0 s.1.1.0 s.0 s.1.1.1
      by (inr (inl u)) = use_case u.1.0 u.0 u.1.1
      by (inr (inr c)) = clobber_case c.1.0 c.0 c.1.1
