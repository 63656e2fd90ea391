-- The access of each store that an instruction has for an effect is there.
use Rattle.std.proofs.Common.{◌≡◌, ◌≢◌, ◌⊎◌, inl, inr, ℕ, ◌&&◌, if◌then◌else◌, Bool, true, false, List, [], ◌∷◌, ◌++◌, map, Option, Some, None, refl, sym, ap, subst, ◌∙◌}
use Rattle.std.specs.Prelude.{ℤ, is_some, slice_get, option_map, option_and_then}
use Rattle.bits64.specs.declared.Width.{Width}
use Rattle.bits64.specs.declared.Width.TheVariants.{W64}
use Rattle.rtx_tree.specs.Tree.{head_of, kids_of}
use Rattle.rtx_tree.specs.declared.code.Code.{Code}
use Rattle.rtx_tree.specs.declared.code.Code.TheVariants as code
use Rattle.rtx_tree.specs.declared.function.Kind.TheVariants as kinds
use Rattle.rtx_tree.specs.declared.machine.SymbolAt.{SymbolAt}
use Rattle.rtx_tree.specs.declared.memories.MemByte.{MemByte}
use Rattle.rtx_tree.specs.declared.tree.Rtx.{Rtx}
use Rattle.run_memory.specs.RunMemory.{load}
use Rattle.rtl_step.specs.Effect.{effect_of, effect_by, all_effects, one_effect, effects_of, effects_by, set_place, address_of, register_of, clobber_by}
use Rattle.rtl_step.specs.Regs.{Regs, known_of}
use Rattle.rtl_step.specs.Value.{width_of, value_of, of_two}
use Rattle.rtl_step.specs.declared.effect.Effect.{Effect}
use Rattle.rtl_step.specs.declared.effect.Effect.TheVariants.{Nothing, Sets, Unsets, Stores}
use Rattle.law_operands_replaced.proofs.Cells.{IsThere, AreThere}
use Rattle.law_operands_replaced.proofs.SetWidth.{set_width}
use Rattle.law_operands_replaced.proofs.WholeTurns.{is_parallel, front_is, alone_is}
use Rattle.rtl_func.specs.Shapes.{mode_at}

-- ---- the access of each store is there

module _ (symbols : List SymbolAt) (regs : Regs) (m : List MemByte) where
  place_there : (o : Option Rtx) (t s : Rtx) (w : Width) (e : Effect) → set_place o symbols regs m t s w ≡ Some e → IsThere m e
  place_there None t s w e is = by (register_of t) (value_of symbols regs m s w) is
    where
      by : (r v : Option ℕ) → of_two (λ reg value. Some (Sets reg (known_of w value))) r v ≡ Some e → IsThere m e
      by None v is = absurd (let no : ⊥ = cc in no)
      by (Some r) None is = absurd (let no : ⊥ = cc in no)
      by (Some r) (Some v) is = let same : Sets r (known_of w v) ≡ e = cc in subst (IsThere m) same tt
  place_there (Some a) t s w e is = by (value_of symbols regs m a W64) (value_of symbols regs m s w) is
    where
      at_by : (b : Bool) (at v : ℕ) → is_some (load w m at) ≡ b → (if b then Some (Stores w at v) else None) ≡ Some e → IsThere m e
      at_by true at v there is = let same : Stores w at v ≡ e = cc in subst (IsThere m) same there
      at_by false at v there is = absurd (let no : ⊥ = cc in no)

      by : (r v : Option ℕ) → of_two (λ at value. if is_some (load w m at) then Some (Stores w at value) else None) r v ≡ Some e → IsThere m e
      by None v is = absurd (let no : ⊥ = cc in no)
      by (Some r) None is = absurd (let no : ⊥ = cc in no)
      by (Some r) (Some v) is = at_by (is_some (load w m r)) r v refl is

  clobber_there : (c : Code) (r : Option ℕ) (e : Effect) → clobber_by c r ≡ Some e → IsThere m e
  clobber_there code.Mem r e is = let same : Nothing ≡ e = cc in subst (IsThere m) same tt
  clobber_there code.Scratch r e is = let same : Nothing ≡ e = cc in subst (IsThere m) same tt
  clobber_there _ (Some r) e is = let same : Unsets r ≡ e = cc in subst (IsThere m) same tt
  clobber_there _ None e is = absurd (let no : ⊥ = cc in no)

  effect_is_there : (c : Code) (kids : List Rtx) (e : Effect) → effect_by c kids symbols regs m ≡ Some e → IsThere m e
  effect_is_there code.Set (t ∷ s ∷ []) e is =
      let w = set_width (width_of (mode_at t)) (set_place (address_of t) symbols regs m t s) e is in
      place_there (address_of t) t s w.0 e (sym (ap (option_and_then (set_place (address_of t) symbols regs m t s)) w.1) ∙ is)
  effect_is_there code.Use (t ∷ []) e is = let same : Nothing ≡ e = cc in subst (IsThere m) same tt
  effect_is_there code.Clobber (t ∷ []) e is = clobber_there (head_of t).code (register_of t) e is
  effect_is_there _ kids e is = absurd (let no : ⊥ = cc in no)

  all_there : (xs : List Rtx) (es : List Effect) → all_effects symbols regs m xs ≡ Some es → AreThere m es
  all_there [] es is = let none : [] ≡ es = cc in subst (AreThere m) none tt
  all_there (x ∷ xs) es is =
      let f = front_is (effect_of symbols regs m x) (all_effects symbols regs m xs) es is in
      let same : f.0 ∷ f.1.0 ≡ es = (let e : Some (f.0 ∷ f.1.0) ≡ Some es =
      sym (ap (λ o. option_and_then (λ e. option_map (λ es. e ∷ es) (all_effects symbols regs m xs)) o) f.1.1.0 ∙ ap (option_map (λ es. f.0 ∷ es)) f.1.1.1) ∙ is in cc) in
      subst (AreThere m) same (effect_is_there (head_of x).code (kids_of x) f.0 f.1.1.0, all_there xs f.1.0 f.1.1.1)

  pub effects_there : (x : Rtx) (es : List Effect) → effects_of symbols regs m x ≡ Some es → AreThere m es
  effects_there x es is = elim (is_parallel (head_of x).code) [
    | inl one ↦ all_there (kids_of x) es (sym (ap (λ c. effects_by c x symbols regs m) one) ∙ is)
    | inr not_one ↦
        let e = alone_is (effect_of symbols regs m x) es (sym (one_is (head_of x).code not_one) ∙ is) in
        let same : e.0 ∷ [] ≡ es = (let e' : Some (e.0 ∷ []) ≡ Some es = sym (ap (option_map (λ e. e ∷ [])) e.1) ∙ (sym (one_is (head_of x).code not_one) ∙ is) in cc) in
        subst (AreThere m) same (effect_is_there (head_of x).code (kids_of x) e.0 e.1, tt)
  ]
    where
      one_is : (c : Code) → c ≢ code.Parallel → effects_by c x symbols regs m ≡ one_effect symbols regs m x
      one_is code.Parallel other = absurd (other refl)
      one_is _ other = refl
