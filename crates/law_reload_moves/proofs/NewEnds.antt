-- A result whose memory has its base in a slot, or is far, ends by the register that holds the base, or a far base that is made before it.
use Rattle.std.proofs.Common.{◌≡◌, ◌≢◌, ◌⊎◌, inl, inr, ℕ, ◌&&◌, if◌then◌else◌, Bool, true, false, List, [], ◌∷◌, ◌++◌, Option, Some, None, refl, sym, ap, subst, ◌∙◌}
use Rattle.std.specs.FinMap.{get}
use Rattle.std.specs.List.{list_all}
use Rattle.std.specs.Option.{option_map_or}
use Rattle.std.specs.Ordering.{int_eq}
use Rattle.std.specs.Prelude.{ℤ, pos, is_some, slice_get}
use Rattle.law_operands_fetched.specs.bits64.Words.{low}
use Rattle.law_operands_fetched.specs.bits64.declared.Width.{Width}
use Rattle.law_operands_fetched.specs.bits64.declared.Width.TheVariants.{W64}
use Rattle.law_operands_fetched.specs.rtx_tree.Code.{class_of_code}
use Rattle.law_operands_fetched.specs.rtx_tree.Tree.{head_of, kids_of, tree_of, node_of, reg_of, const_of}
use Rattle.law_operands_fetched.specs.rtx_tree.declared.class.Class.TheVariants as class
use Rattle.law_operands_fetched.specs.rtx_tree.declared.code.Code.TheVariants as code
use Rattle.law_operands_fetched.specs.rtx_tree.declared.code.Mode.TheVariants.{DI}
use Rattle.law_operands_fetched.specs.rtx_tree.declared.machine.SymbolAt.{SymbolAt}
use Rattle.law_operands_fetched.specs.rtx_tree.declared.memories.MemByte.{MemByte}
use Rattle.law_operands_fetched.specs.rtx_tree.declared.tree.Rtx.{Rtx, out-roll-Rtx}
use Rattle.law_operands_fetched.specs.rtx_tree.declared.tree.Rtx.TheOpen.{Rtx-F}
use Rattle.law_operands_fetched.proofs.rtx_tree.Trees.{kids_of-tree}
use Rattle.law_operands_fetched.specs.rtl_func.Shapes.{class_at}
use Rattle.law_operands_fetched.proofs.rtl_func.AllPass.{all_pass, pass_out}
use Rattle.law_operands_fetched.specs.rtl_step.Effect.{address_of}
use Rattle.law_operands_fetched.specs.rtl_step.Regs.{Regs, known_of, reg_value}
use Rattle.law_operands_fetched.specs.rtl_step.Value.{value_of}
use Rattle.law_operands_fetched.specs.rtl_step.declared.effect.Effect.{Effect}
use Rattle.law_operands_fetched.specs.same_behaviour.Lawful.{IsMemory}
use Rattle.law_operands_fetched.specs.reload_operands.declared.operand.Base.{Base}
use Rattle.law_operands_fetched.specs.reload_operands.declared.operand.Operand.{Operand}
use Rattle.law_operands_fetched.specs.reload_moves.Moves.{far_to, own_of, base_of, end_far_of, out_base, out_store}
use Rattle.law_operands_fetched.specs.reload_moves.declared.ask.Ask.{Ask}
use Rattle.law_operands_fetched.specs.reload_moves.declared.moves.Move.TheVariants.{Out}
use Rattle.law_operands_fetched.specs.reload_moves.declared.part.Part.{Part}
use Rattle.law_operands_fetched.specs.reload_choice.reload_fit.Addressed.{address_on, addressed, addressed_by, address_in, on_register, far_offset}
use Rattle.law_operands_fetched.specs.reload_choice.Insns.{far_insns, out_insn, insns_at, all_insns}
use Rattle.law_operands_fetched.specs.law_operands_replaced.Held.{Held, Holds}
use Rattle.law_operands_fetched.specs.law_operands_replaced.Spare.{is_spare, KeepsRest}
use Rattle.law_operands_fetched.proofs.law_operands_replaced.Addresses.{IsNewTree, address_is}
use Rattle.law_operands_fetched.proofs.Based.{far_is, based_near, in_slot}
use Rattle.law_operands_fetched.proofs.law_operands_replaced.Cells.{IsThere, AreThere}
use Rattle.law_operands_fetched.proofs.law_operands_replaced.ElementTurns.{memory_code_of}
use Rattle.law_operands_fetched.proofs.law_operands_replaced.Ends.{Stays, Ended, far_end}
use Rattle.law_operands_fetched.proofs.law_operands_replaced.Fetches.{IsFresh, offset_by}
use Rattle.law_operands_fetched.proofs.Fetching.{spare_some, spare_no_pointer}
use Rattle.law_reload_moves.proofs.GivenSteady.{leaf_free, reg_free, const_free}
use Rattle.law_operands_fetched.proofs.law_operands_replaced.Keyed.{Keyed, effects_in}
use Rattle.law_reload_moves.proofs.NearEnds.{there_still, reached_left}
use Rattle.law_operands_fetched.proofs.OnRegister.{IsOperand, based_class, based_new, far_mode, far_class, far_new}
use Rattle.law_reload_moves.proofs.OutEffects.{IsPlaceSet, in_register, in_memory, IsOut, StandsOut, set_again, own_value, set_effects}
use Rattle.law_operands_fetched.proofs.law_operands_replaced.Registers.{value_alike}
use Rattle.law_reload_moves.proofs.ResultsEnd.{Among, reached_all, EndsFar}
use Rattle.law_operands_fetched.proofs.law_operands_replaced.SetWidth.{binary_none}
use Rattle.law_reload_moves.proofs.SteadyAddress.{AllLeave, no_memory_class, is_no_memory, memory_free}

-- ---- addresses on a register

-- no memory stands in them
on_free : (none : Bool) (r : ℕ) (n : ℤ) → all_pass is_no_memory (if none then reg_of DI r else node_of code.Plus DI (reg_of DI r ∷ const_of n ∷ [])) ≡ true
on_free true r n = reg_free r
on_free false r n =
    let x = node_of code.Plus DI (reg_of DI r ∷ const_of n ∷ []) in
    pass_out is_no_memory x ∙
    ap (λ (o : Rtx-F Rtx). no_memory_class (class_of_code o.code) && list_all (all_pass is_no_memory) o.kids) (out-roll-Rtx _) ∙
    ap (λ b. b && (all_pass is_no_memory (const_of n) && true)) (reg_free r) ∙ ap (λ b. b && true) (const_free n)

module _ (symbols : List SymbolAt) (regs : Regs) (m : List MemByte) where
  -- what is read as a place stands for it, also where memory is other
  pub new_stands : (t y a' : Rtx) (w : Width) (v : ℕ) (o : Effect) (r : Regs) (n : List MemByte) → IsPlaceSet symbols regs m t w v o → IsThere n o →
      IsNewTree symbols regs r m t y → class_at y ≡ class.Memory → address_of y ≡ Some a' → all_pass is_no_memory a' ≡ true → StandsOut symbols r n t y w v o
  new_stands t y a' w v _ r n (in_register reg none is) here new memory address free =
      absurd (let e : ◌≡◌ {A = Option Rtx} None (Some (new.address memory).first) = sym none ∙ (new.address memory).first_is in let no : ⊥ = cc in no)
  new_stands t y a' w v _ r n (in_memory a at is value has) here new memory address free =
      let too = new.address memory in
      let first : too.first ≡ a = (let both : Some too.first ≡ Some a = sym too.first_is ∙ is in cc) in
      let second : too.second ≡ a' = (let both : Some too.second ≡ Some a' = sym too.second_is ∙ address in cc) in
      let there : value_of symbols r m a' W64 ≡ Some at =
      ap (λ b. value_of symbols r m b W64) (sym second) ∙ too.value at (ap (λ b. value_of symbols regs m b W64) first ∙ value) in
      (a', (address, (sym (memory_free symbols r m n a' free W64) ∙ there, (here, (refl, refl)))))

  -- memory with a register in its address
  at_address : (t a' : Rtx) → class_at (tree_of (head_of t) (a' ∷ [])) ≡ class.Memory → address_of (tree_of (head_of t) (a' ∷ [])) ≡ Some a'
  at_address t a' memory = address_is (tree_of (head_of t) (a' ∷ [])) a' memory (kids_of-tree (head_of t) (a' ∷ []))

  -- a sum is no place
  no_binary : {A : Type 0} (t : Rtx) (w : Width) (v : ℕ) (o : Effect) → IsPlaceSet symbols regs m t w v o → class_at t ≡ class.Binary → A
  no_binary t w v _ (in_register reg none is) binary =
      absurd (let e : ◌≡◌ {A = Option ℕ} None (Some reg) = sym (binary_none (head_of t).code (head_of t).number (kids_of t) binary).1 ∙ is in let no : ⊥ = cc in no)
  no_binary t w v _ (in_memory a at is value has) binary =
      absurd (let e : ◌≡◌ {A = Option Rtx} None (Some a) = sym (binary_none (head_of t).code (head_of t).number (kids_of t) binary).0 ∙ is in let no : ⊥ = cc in no)

  place_memory : (t : Rtx) (w : Width) (v : ℕ) (o : Effect) → IsPlaceSet symbols regs m t w v o → (a : Rtx) × (address_of t ≡ Some a) → (head_of t).code ≡ code.Mem
  place_memory t w v o place a = memory_code_of (head_of t).code (kids_of t) a.0 a.1

  module _ (sp : ℕ) (pointer : reg_value regs 2 W64 ≡ Some sp) (small : low W64 sp ≡ sp) (is_memory : IsMemory m) where
    -- by the register of its base
    pub based_stands : (x : Operand) (base : Base) (reg b : ℕ) (w : Width) (v : ℕ) (o : Effect) (r : Regs) (n : List MemByte) → IsOperand x → x.base ≡ Some base → reg ≢ 0 →
        in_slot symbols regs m sp pointer small base ≡ Some b → get r reg ≡ Some (known_of W64 b) → IsPlaceSet symbols regs m x.tree w v o → IsThere n o →
        StandsOut symbols r n x.tree (on_register reg x) w v o
    based_stands x base reg b w v o r n good based some slot holds place here = by (based_class x base reg good based)
      where
        new : IsNewTree symbols regs r m x.tree (on_register reg x)
        new = based_new symbols regs r m sp pointer small is_memory x base reg b good based some slot holds

        by : (class_at (on_register reg x) ≡ class.Memory) ⊎ (class_at x.tree ≡ class.Binary) → StandsOut symbols r n x.tree (on_register reg x) w v o
        by (inr binary) = no_binary x.tree w v o place binary
        by (inl memory) =
            let code_is = place_memory x.tree w v o place ((new.address memory).first, (new.address memory).first_is) in
            let tree : on_register reg x ≡ tree_of (head_of x.tree) (address_on reg base.added ∷ []) =
            ap (λ o. addressed (address_in reg o) x.tree) based ∙ ap (λ c. addressed_by c (address_on reg base.added) x.tree) code_is in
            new_stands x.tree (on_register reg x) (address_on reg base.added) w v o r n place here new memory
            (ap address_of tree ∙ at_address x.tree (address_on reg base.added) (ap class_at (sym tree) ∙ memory)) (on_free (int_eq base.added (pos 0)) reg base.added)

    far_alone : (x : Operand) (n : ℤ) → IsOperand x → far_offset x.tree ≡ Some n → x.base ≡ None
    far_alone x n good far = by x.base refl
      where
        by : (base : Option Base) → x.base ≡ base → base ≡ None
        by None at = refl
        by (Some base) at = absurd (based_near base x.tree n (good.based base at) far)

    -- by its far base
    pub far_stands : (x : Operand) (k : ℤ) (reg : ℕ) (w : Width) (v : ℕ) (o : Effect) (r : Regs) (n : List MemByte) → IsOperand x → far_offset x.tree ≡ Some k → reg ≢ 0 →
        get r reg ≡ Some (known_of W64 (offset_by symbols m sp k)) → IsPlaceSet symbols regs m x.tree w v o → IsThere n o →
        StandsOut symbols r n x.tree (on_register reg x) w v o
    far_stands x k reg w v o r n good far some holds place here =
        let new = far_new symbols regs r m sp pointer small is_memory x k reg good far some holds in
        let memory = far_class x k reg good far in
        let tree : on_register reg x ≡ tree_of (head_of x.tree) (reg_of DI reg ∷ []) =
        ap (λ o. addressed (address_in reg o) x.tree) (far_alone x k good far) ∙ ap (λ c. addressed_by c (reg_of DI reg) x.tree) (far_is x.tree k far).0.code_is in
        new_stands x.tree (on_register reg x) (reg_of DI reg) w v o r n place here new memory
        (ap address_of tree ∙ at_address x.tree (reg_of DI reg) (ap class_at (sym tree) ∙ memory)) (reg_free reg)

far_code_is : (operands : List Operand) (asks : List Ask) (p : Part) (x : Operand) (k : ℤ) → slice_get operands p.place ≡ Some x → p.needs.far ≡ Some k →
    all_insns operands (out_store asks p) ≡ far_insns (end_far_of asks p) k ++ out_insn (own_of asks p) (Some (end_far_of asks p)) x ∷ []
far_code_is operands asks p x k of far =
    ap (λ far. all_insns operands (far_to (end_far_of asks p) far ++ Out (own_of asks p) p.place (out_base asks p) ∷ [])) far ∙
    ap (λ (code : List Rtx). far_insns (end_far_of asks p) k ++ code)
    (ap (λ o. option_map_or (insns_at (Out (own_of asks p) p.place (out_base asks p))) o [] ++ []) of ∙
    ap (λ b. out_insn (own_of asks p) b x ∷ []) (ap (λ far. if is_some far then Some (end_far_of asks p) else
    (if p.needs.has_base then Some (base_of asks p) else None)) far))

module _ (symbols : List SymbolAt) (Told : Regs → List MemByte → Type 0)
    (spared : (r r' : Regs) (m : List MemByte) → KeepsRest r r' → Told r m → Told r' m) (operands : List Operand) (asks : List Ask)
    (keyed : List Keyed) (regs : Regs) (m : List MemByte) (hs : List Held)
    (sp : ℕ) (pointer : reg_value regs 2 W64 ≡ Some sp) (small : low W64 sp ≡ sp) (is_memory : IsMemory m)
    (there : AreThere m (effects_in keyed)) (left : AllLeave 2 (effects_in keyed)) where
  -- at a far base
  pub far_ends : (p : Part) (x : Operand) (s : Rtx) (o : Effect) (k : ℤ) → slice_get operands p.place ≡ Some x → p.needs.far ≡ Some k →
      (out : IsOut symbols regs m x.tree s o) → own_of asks p ≢ 0 → low out.width out.value ≡ out.value →
      ((r : Regs) → Holds r hs → get r (own_of asks p) ≡ Some (known_of out.width out.value)) → Stays symbols Told spared o → Among o (effects_in keyed) →
      IsOperand x → far_offset x.tree ≡ Some k → is_spare (end_far_of asks p) ≡ true → own_of asks p ≢ end_far_of asks p → IsFresh symbols [] (end_far_of asks p) hs →
      EndsFar symbols Told spared operands asks keyed regs m hs p o
  far_ends p x s o k of far out some fits gives stays among good far_is' spare apart fresh = record {
    far = end_far_of asks p;
    spare = spare;
    fresh = fresh;
    one = λ r0 r n reach knows told holds.
        subst (λ code. Ended symbols Told spared code r n o (end_far_of asks p)) (sym (far_code_is operands asks p x k of far))
        (far_end symbols Told spared (out_insn (own_of asks p) (Some (end_far_of asks p)) x) r n o (end_far_of asks p) sp k spare (spare_some (end_far_of asks p) spare)
        (spare_no_pointer (end_far_of asks p) spare)
        (knows 2 refl W64 sp (value_alike regs r0 2 W64 (reached_left (effects_in keyed) regs m r0 n (reached_all p.place keyed regs m r0 n reach) 2 left) ∙ pointer))
        (λ r' made others.
        set_effects symbols r' n (on_register (end_far_of asks p) x) (reg_of x.mode (own_of asks p)) o
        (set_again symbols r' n x.tree (on_register (end_far_of asks p) x) (reg_of x.mode (own_of asks p)) out.width out.value o
        (far_mode x k (end_far_of asks p) good far_is' ∙ out.wide)
        (own_value symbols r' n x.mode (own_of asks p) out.width out.value some (others (own_of asks p) apart ∙ gives r holds) fits)
        (far_stands symbols regs m sp pointer small is_memory x k (end_far_of asks p) out.width out.value o r' n good far_is' (spare_some (end_far_of asks p) spare) made
        out.place (there_still symbols regs m (effects_in keyed) there r0 n o (reached_all p.place keyed regs m r0 n reach) among)))) stays told);
  }
