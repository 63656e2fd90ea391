-- A result out of its register: what the effect of an instruction has set, an instruction behind it sets.
use Rattle.std.proofs.Common.{◌≡◌, ◌≢◌, ◌⊎◌, inl, inr, ℕ, if◌then◌else◌, Bool, true, false, List, [], ◌∷◌, ◌++◌, Option, Some, None, refl, sym, ap, subst, ◌∙◌}
use Rattle.std.specs.FinMap.{get}
use Rattle.std.specs.Prelude.{is_some, option_map, option_and_then}
use Rattle.law_operands_fetched.specs.bits64.Words.{low}
use Rattle.law_operands_fetched.specs.bits64.declared.Width.{Width}
use Rattle.law_operands_fetched.specs.bits64.declared.Width.TheVariants.{W64}
use Rattle.law_operands_fetched.specs.rtx_tree.Tree.{RtxHead, head_of, kids_of, reg_of}
use Rattle.law_operands_fetched.specs.rtx_tree.declared.code.Code.TheVariants as code
use Rattle.law_operands_fetched.specs.rtx_tree.declared.code.Mode.{Mode}
use Rattle.law_operands_fetched.specs.rtx_tree.declared.machine.SymbolAt.{SymbolAt}
use Rattle.law_operands_fetched.specs.rtx_tree.declared.memories.MemByte.{MemByte}
use Rattle.law_operands_fetched.specs.rtx_tree.declared.tree.Rtx.{Rtx}
use Rattle.law_operands_fetched.proofs.rtx_tree.Trees.{head_of-tree, kids_of-tree}
use Rattle.law_operands_fetched.specs.run_memory.RunMemory.{load}
use Rattle.law_operands_fetched.specs.rtl_func.Shapes.{mode_at}
use Rattle.law_operands_fetched.specs.rtl_step.Effect.{effect_by, effects_of, effects_by, address_of, register_of, set_place, set_effect, reg_after, bytes_after, memory_after}
use Rattle.law_operands_fetched.specs.rtl_step.Regs.{Regs, known_of}
use Rattle.law_operands_fetched.specs.rtl_step.Value.{width_of, value_of, of_two}
use Rattle.law_operands_fetched.specs.rtl_step.declared.effect.Effect.{Effect}
use Rattle.law_operands_fetched.specs.rtl_step.declared.effect.Effect.TheVariants.{Nothing, Sets, Unsets, Stores}
use Rattle.law_operands_fetched.specs.reload_choice.Insns.{set_of}
use Rattle.law_operands_fetched.specs.law_operands_replaced.Spare.{KeepsRest}
use Rattle.law_operands_fetched.specs.law_operands_replaced.Straight.{done, next}
use Rattle.law_operands_fetched.proofs.law_operands_replaced.Cells.{IsThere, AreThere, still_there}
use Rattle.law_operands_fetched.proofs.Endings.{EndedNear}
use Rattle.law_operands_fetched.proofs.law_operands_replaced.Ends.{Stays}
use Rattle.law_operands_fetched.proofs.law_operands_replaced.Registers.{holds_low}
use Rattle.law_reload_moves.proofs.ResultsEnd.{Among, AllAmong}
use Rattle.law_operands_fetched.proofs.law_operands_replaced.SetWidth.{set_width}
use Rattle.law_operands_fetched.proofs.law_operands_replaced.Settings.{value_reg}

-- what a set has set: a register, or memory at an address
pub data IsPlaceSet (symbols : List SymbolAt) (regs : Regs) (m : List MemByte) (t : Rtx) (w : Width) (v : ℕ) : Effect → Type 0 where
  in_register : (reg : ℕ) → address_of t ≡ None → register_of t ≡ Some reg → IsPlaceSet symbols regs m t w v (Sets reg (known_of w v))
  in_memory : (a : Rtx) (at : ℕ) → address_of t ≡ Some a → value_of symbols regs m a W64 ≡ Some at → is_some (load w m at) ≡ true →
      IsPlaceSet symbols regs m t w v (Stores w at v)

module _ (symbols : List SymbolAt) (regs : Regs) (m : List MemByte) where
  -- by its value and its place
  pub record IsOut (t s : Rtx) (e : Effect) : Type 0 where
    pub width : Width
    pub value : ℕ
    pub wide : width_of (mode_at t) ≡ Some width
    pub value_is : value_of symbols regs m s width ≡ Some value
    pub place : IsPlaceSet symbols regs m t width value e

  register_out : (t s : Rtx) (w : Width) (e : Effect) (r v : Option ℕ) → width_of (mode_at t) ≡ Some w → address_of t ≡ None → register_of t ≡ r →
      value_of symbols regs m s w ≡ v → of_two (λ reg value. Some (Sets reg (known_of w value))) r v ≡ Some e → IsOut t s e
  register_out t s w e None v wide none is value at = absurd (let no : ⊥ = cc in no)
  register_out t s w e (Some r) None wide none is value at = absurd (let no : ⊥ = cc in no)
  register_out t s w e (Some r) (Some v) wide none is value at =
      let same : Sets r (known_of w v) ≡ e = cc in
      record { width = w; value = v; wide = wide; value_is = value; place = subst (IsPlaceSet symbols regs m t w v) same (in_register r none is) }

  store_out : (t s a : Rtx) (w : Width) (e : Effect) (at v : ℕ) (b : Bool) → width_of (mode_at t) ≡ Some w → address_of t ≡ Some a →
      value_of symbols regs m a W64 ≡ Some at → value_of symbols regs m s w ≡ Some v → is_some (load w m at) ≡ b →
      (if b then Some (Stores w at v) else None) ≡ Some e → IsOut t s e
  store_out t s a w e at v true wide is address value there made =
      let same : Stores w at v ≡ e = cc in
      record { width = w; value = v; wide = wide; value_is = value; place = subst (IsPlaceSet symbols regs m t w v) same (in_memory a at is address there) }
  store_out t s a w e at v false wide is address value there made = absurd (let no : ⊥ = cc in no)

  memory_out : (t s a : Rtx) (w : Width) (e : Effect) (p v : Option ℕ) → width_of (mode_at t) ≡ Some w → address_of t ≡ Some a →
      value_of symbols regs m a W64 ≡ p → value_of symbols regs m s w ≡ v →
      of_two (λ at value. if is_some (load w m at) then Some (Stores w at value) else None) p v ≡ Some e → IsOut t s e
  memory_out t s a w e None v wide is address value made = absurd (let no : ⊥ = cc in no)
  memory_out t s a w e (Some p) None wide is address value made = absurd (let no : ⊥ = cc in no)
  memory_out t s a w e (Some p) (Some v) wide is address value made = store_out t s a w e p v (is_some (load w m p)) wide is address value refl made

  -- each set is so
  pub set_out : (t s : Rtx) (e : Effect) → set_effect symbols regs m t s ≡ Some e → IsOut t s e
  set_out t s e does = by (address_of t) refl (sym (ap (option_and_then (set_place (address_of t) symbols regs m t s)) w.1) ∙ does)
    where
      w : (w : Width) × (width_of (mode_at t) ≡ Some w)
      w = set_width (width_of (mode_at t)) (set_place (address_of t) symbols regs m t s) e does

      by : (o : Option Rtx) → address_of t ≡ o → set_place (address_of t) symbols regs m t s w.0 ≡ Some e → IsOut t s e
      by None is at = register_out t s w.0 e (register_of t) (value_of symbols regs m s w.0) w.1 is refl refl (sym (ap (λ o. set_place o symbols regs m t s w.0) is) ∙ at)
      by (Some a) is at = memory_out t s a w.0 e (value_of symbols regs m a W64) (value_of symbols regs m s w.0) w.1 is refl refl
          (sym (ap (λ o. set_place o symbols regs m t s w.0) is) ∙ at)

-- ---- the same set, elsewhere

-- what stands for a place where registers and memory are others
abbrev pub StandsOut : List SymbolAt → Regs → List MemByte → Rtx → Rtx → Width → ℕ → Effect → Type 0
StandsOut symbols r n t t' w v (Sets reg known) = (address_of t' ≡ None) × ((register_of t' ≡ Some reg) × (known ≡ known_of w v))
StandsOut symbols r n t t' w v (Stores width at value) =
    (a : Rtx) × ((address_of t' ≡ Some a) × ((value_of symbols r n a W64 ≡ Some at) × ((is_some (load w n at) ≡ true) × ((width ≡ w) × (value ≡ v)))))
StandsOut symbols r n t t' w v _ = ⊥

module _ (symbols : List SymbolAt) (r : Regs) (n : List MemByte) where
  pub set_again : (t t' s : Rtx) (w : Width) (v : ℕ) (e : Effect) → width_of (mode_at t') ≡ Some w → value_of symbols r n s w ≡ Some v →
      StandsOut symbols r n t t' w v e → set_effect symbols r n t' s ≡ Some e
  set_again t t' s w v (Sets reg known) wide value stands =
      ap (option_and_then (set_place (address_of t') symbols r n t' s)) wide ∙ ap (λ o. set_place o symbols r n t' s w) stands.0 ∙
      ap (λ o. of_two (λ reg value. Some (Sets reg (known_of w value))) o (value_of symbols r n s w)) stands.1.0 ∙
      ap (λ o. of_two (λ reg value. Some (Sets reg (known_of w value))) (Some reg) o) value ∙ ap (λ k. Some (Sets reg k)) (sym stands.1.1)
  set_again t t' s w v (Stores width at value) wide value_is stands =
      ap (option_and_then (set_place (address_of t') symbols r n t' s)) wide ∙ ap (λ o. set_place o symbols r n t' s w) stands.1.0 ∙
      ap (λ o. of_two (λ at value. if is_some (load w n at) then Some (Stores w at value) else None) o (value_of symbols r n s w)) stands.1.1.0 ∙
      ap (λ o. of_two (λ at value. if is_some (load w n at) then Some (Stores w at value) else None) (Some at) o) value_is ∙
      ap (λ b. if b then Some (Stores w at v) else None) stands.1.1.1.0 ∙ ap (λ w. Some (Stores w at v)) (sym stands.1.1.1.1.0) ∙
      ap (λ v. Some (Stores width at v)) (sym stands.1.1.1.1.1)
  set_again t t' s w v (Unsets reg) wide value stands = absurd stands
  set_again t t' s w v Nothing wide value stands = absurd stands

  -- the register of a result has its value
  pub own_value : (mode : Mode) (own : ℕ) (w : Width) (v : ℕ) → own ≢ 0 → get r own ≡ Some (known_of w v) → low w v ≡ v → value_of symbols r n (reg_of mode own) w ≡ Some v
  own_value mode own w v some holds fits = value_reg symbols r n mode own w ∙ holds_low r own v w some holds ∙ ap Some fits

  -- one set has its effect
  pub set_effects : (t s : Rtx) (e : Effect) → set_effect symbols r n t s ≡ Some e → effects_of symbols r n (set_of t s) ≡ Some (e ∷ [])
  set_effects t s e does =
      let is : (head_of (set_of t s)).code ≡ code.Set = ap (λ (h : RtxHead). h.code) (head_of-tree _ (t ∷ s ∷ [])) in
      let are : kids_of (set_of t s) ≡ t ∷ s ∷ [] = kids_of-tree _ (t ∷ s ∷ []) in
      ap (λ c. effects_by c (set_of t s) symbols r n) is ∙ ap (option_map (λ e. e ∷ []))
      (ap (λ c. effect_by c (kids_of (set_of t s)) symbols r n) is ∙ ap (λ ks. effect_by code.Set ks symbols r n) are ∙ does)

-- ---- what is there stays there

pub there_after : (ds : List Effect) (e : Effect) (m : List MemByte) → AreThere m ds → IsThere m e → IsThere (memory_after ds m) e
there_after [] e m there is = is
there_after (d ∷ ds) e m there is =
    let more = still_there d (e ∷ ds) m there.0 (is, there.1) in there_after ds e (bytes_after d m) more.1 more.0

pub among_there : (m : List MemByte) (e : Effect) (es : List Effect) → Among e es → AreThere m es → IsThere m e
among_there m e [] among there = absurd among
among_there m e (o ∷ es) (inl same) there = subst (IsThere m) (sym same) there.0
among_there m e (o ∷ es) (inr more) there = among_there m e es more there.1

pub all_there : (m : List MemByte) (ds es : List Effect) → AllAmong ds es → AreThere m es → AreThere m ds
all_there m [] es among there = tt
all_there m (d ∷ ds) es among there = (among_there m d es among.0 there, all_there m ds es among.1 there)

-- ---- an instruction that ends one

module _ (symbols : List SymbolAt) (Told : Regs → List MemByte → Type 0)
    (spared : (r r' : Regs) (m : List MemByte) → KeepsRest r r' → Told r m → Told r' m) where
  pub ends_near : (x : Rtx) (r : Regs) (n : List MemByte) (o : Effect) → effects_of symbols r n x ≡ Some (o ∷ []) → Stays symbols Told spared o → Told r n →
      EndedNear symbols Told spared (x ∷ []) r n o
  ends_near x r n o is stays told = record {
    after = reg_after o r;
    runs = next x [] r n (o ∷ []) (reg_after o r) (bytes_after o n) is (stays r n told) (done (reg_after o r) (bytes_after o n));
    told = stays r n told;
    others = λ q. refl;
  }
