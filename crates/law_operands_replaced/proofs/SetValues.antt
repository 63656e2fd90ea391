-- Where a set has an effect, what it reads has values: its source, and the address of memory that it changes.
use Rattle.std.proofs.Common.{◌≡◌, ◌≢◌, ◌⊎◌, inl, inr, ℕ, ◌&&◌, ◌||◌, if◌then◌else◌, not, Bool, true, false, List, [], ◌∷◌, length, map, Option, Some, None, refl, sym, ap, subst, ◌∙◌}
use Rattle.std.proofs.lemmas.Bool.{and_parts}
use Rattle.std.specs.List.{list_all}
use Rattle.std.specs.Prelude.{ℤ, is_some, option_and_then}
use Rattle.bits64.specs.declared.Width.{Width}
use Rattle.bits64.specs.declared.Width.TheVariants.{W64}
use Rattle.rtx_tree.specs.Code.{class_of_code}
use Rattle.rtx_tree.specs.Tree.{head_of, kids_of}
use Rattle.rtx_tree.specs.declared.class.Class.{Class}
use Rattle.rtx_tree.specs.declared.class.Class.TheVariants as class
use Rattle.rtx_tree.specs.declared.code.Code.{Code}
use Rattle.rtx_tree.specs.declared.code.Code.TheVariants as code
use Rattle.rtx_tree.specs.declared.code.Mode.{Mode}
use Rattle.rtx_tree.specs.declared.code.Mode.TheVariants.{DI}
use Rattle.rtx_tree.specs.declared.machine.SymbolAt.{SymbolAt}
use Rattle.rtx_tree.specs.declared.memories.MemByte.{MemByte}
use Rattle.rtx_tree.specs.declared.tree.Rtx.{Rtx}
use Rattle.run_memory.specs.RunMemory.{load}
use Rattle.rtl_func.specs.Shapes.{class_at, mode_at, number_at, has_mode, is_place, is_operand, is_set_to, is_call_class, is_counter_class, is_jump_source_class, is_bare, fits_row, is_shaped}
use Rattle.rtl_func.proofs.AllPass as nodes
use Rattle.rtl_func.proofs.AllPass.{all_pass}
use Rattle.rtl_step.specs.Effect.{effect_of, set_place, address_of, address_part, register_of, register_by}
use Rattle.rtl_step.specs.Regs.{Regs, known_of}
use Rattle.rtl_step.specs.Value.{width_of, value_of, value_by, of_two, Reading}
use Rattle.rtl_step.specs.declared.effect.Effect.{Effect}
use Rattle.rtl_step.specs.declared.effect.Effect.TheVariants.{Sets, Stores}
use Rattle.law_operands_replaced.specs.Places.{AtOnePlace, first, later, At, here, inside}
use Rattle.law_operands_replaced.proofs.Addresses.{memory_kid, memory_code}
use Rattle.law_operands_replaced.proofs.NewTrees.{is_lowpart, is_whole, whole_low}
use Rattle.law_operands_replaced.proofs.ReadTrees.{read_in}
use Rattle.law_operands_replaced.proofs.SetWidth.{set_width, no_register}
use Rattle.law_operands_replaced.proofs.Turning.{IsSetting, setting_opened}
use Rattle.law_operands_replaced.proofs.Valued.{IsThere, HasValue, AllValued, by_row, operand_valued, kids_valued}
use Rattle.law_operands_replaced.proofs.JumpTrees.{set_row}

pub set_fits : (x t s : Rtx) → IsSetting x t s → is_shaped x ≡ true → is_set_to t s ≡ true
set_fits x t s is shaped =
    let row = ap (λ c. fits_row (class_of_code c) (mode_at x) (number_at x) (t ∷ s ∷ [])) (sym is.code_is) ∙
    ap (fits_row (class_at x) (mode_at x) (number_at x)) (sym is.parts) ∙ (and_parts (is_bare (class_at x) (number_at x) (head_of x).name) _ shaped).1 in
    set_row code.Set (mode_at x) (number_at x) t s refl row

counter_none : (c : Code) (n : ℤ) (kids : List Rtx) → is_counter_class (class_of_code c) ≡ true → (address_part c kids ≡ None) × (register_by c n kids ≡ None)
counter_none code.Mem n kids is = absurd (let no : ⊥ = cc in no)
counter_none code.Reg n kids is = absurd (let no : ⊥ = cc in no)
counter_none code.Subreg n kids is = absurd (let no : ⊥ = cc in no)
counter_none _ n kids is = (refl, refl)

call_class : (k : Class) → is_call_class k ≡ true → k ≡ class.Call
call_class class.Call is = refl
call_class _ is = absurd (let no : ⊥ = cc in no)

choice_by : (p v k c j : Bool) → (k ≡ true → ⊥) → (c ≡ true → ⊥) → ((p && (v || k)) || (c && j)) ≡ true → v ≡ true
choice_by p true k c j no_call no_counter is = refl
choice_by true false true c j no_call no_counter is = absurd (no_call refl)
choice_by true false false true j no_call no_counter is = absurd (no_counter refl)
choice_by true false false false j no_call no_counter is = absurd (let no : ⊥ = cc in no)
choice_by false false k true j no_call no_counter is = absurd (no_counter refl)
choice_by false false k false j no_call no_counter is = absurd (let no : ⊥ = cc in no)

module _ (symbols : List SymbolAt) (regs : Regs) (m : List MemByte) where
  call_value : (n : ℤ) (c : Code) (name : List ℕ) (readings : List Reading) (w : Width) (v : ℕ) → value_by symbols regs m class.Call c n name readings w ≡ Some v → ⊥
  call_value n c name [] w v is = let no : ⊥ = cc in no
  call_value n c name (a ∷ []) w v is = let no : ⊥ = cc in no
  call_value n c name (a ∷ b ∷ []) w v is = let no : ⊥ = cc in no
  call_value n c name (a ∷ b ∷ d ∷ readings) w v is = let no : ⊥ = cc in no

  -- the source of a set of a register or of memory, in the width of its target
  place_value : (o : Option Rtx) (t s : Rtx) (w : Width) (e : Effect) → set_place o symbols regs m t s w ≡ Some e → IsThere (value_of symbols regs m s w)
  place_value None t s w e is = by (register_of t) (value_of symbols regs m s w) is
    where
      by : (r v : Option ℕ) → of_two (λ reg value. Some (Sets reg (known_of w value))) r v ≡ Some e → IsThere v
      by None v is = absurd (let no : ⊥ = cc in no)
      by (Some r) None is = absurd (let no : ⊥ = cc in no)
      by (Some r) (Some v) is = (v, refl)
  place_value (Some a) t s w e is = by (value_of symbols regs m a W64) (value_of symbols regs m s w) is
    where
      by : (r v : Option ℕ) → of_two (λ at value. if is_some (load w m at) then Some (Stores w at value) else None) r v ≡ Some e → IsThere v
      by None v is = absurd (let no : ⊥ = cc in no)
      by (Some r) None is = absurd (let no : ⊥ = cc in no)
      by (Some r) (Some v) is = (v, refl)

  address_value : (a t s : Rtx) (w : Width) (e : Effect) → set_place (Some a) symbols regs m t s w ≡ Some e → IsThere (value_of symbols regs m a W64)
  address_value a t s w e is = by (value_of symbols regs m a W64) (value_of symbols regs m s w) is
    where
      by : (r v : Option ℕ) → of_two (λ at value. if is_some (load w m at) then Some (Stores w at value) else None) r v ≡ Some e → IsThere r
      by None v is = absurd (let no : ⊥ = cc in no)
      by (Some r) v is = (r, refl)

  pub record SetReads (t s : Rtx) : Type 0 where
    pub source : HasValue symbols regs m s
    pub address : (a : Rtx) → address_of t ≡ Some a → HasValue symbols regs m a

  pub set_reads : (x t s : Rtx) (e : Effect) → IsSetting x t s → all_pass is_shaped x ≡ true → effect_of symbols regs m x ≡ Some e → SetReads t s
  set_reads x t s e is shaped does =
      let at = sym (setting_opened symbols regs regs m regs x t s is) ∙ does in
      let w = set_width (width_of (mode_at t)) (set_place (address_of t) symbols regs m t s) e at in
      let placed = sym (ap (option_and_then (set_place (address_of t) symbols regs m t s)) w.1) ∙ at in
      let there = place_value (address_of t) t s w.0 e placed in
      let kids = ap (list_all (all_pass is_shaped)) (sym is.parts) ∙ nodes.within is_shaped x shaped in
      let shaped_t : all_pass is_shaped t ≡ true = (and_parts (all_pass is_shaped t) _ kids).0 in
      let shaped_s : all_pass is_shaped s ≡ true = (and_parts (all_pass is_shaped s) _ (and_parts (all_pass is_shaped t) _ kids).1).0 in
      let fits = choice_by (is_place t) (is_operand (mode_at t) s) (is_call_class (class_at s)) (is_counter_class (class_at t)) (is_jump_source_class (class_at s))
      (λ call. call_value (head_of s).number (head_of s).code (head_of s).name (map (read_in symbols regs m) (kids_of s)) w.0 there.0
      (sym (by_row symbols regs m s class.Call (kids_of s) w.0 (call_class (class_at s) call) refl) ∙ there.1))
      (λ counter. let n = counter_none (head_of t).code (head_of t).number (kids_of t) counter in
      no_register symbols regs m (width_of (mode_at t)) t s e n.0 n.1 at)
      (set_fits x t s is (nodes.itself is_shaped x shaped)) in
      record {
        source = operand_valued symbols regs m (mode_at t) s w.0 (nodes.itself is_shaped s shaped_s) fits w.1 there;
        address = λ a at_a.
            let is_memory : class_at t ≡ class.Memory = ap class_of_code (memory_code_of (head_of t).code (kids_of t) a at_a) in
            let k = memory_kid t is_memory (nodes.itself is_shaped t shaped_t) in
            let same : k.0 ≡ a = (let e : Some k.0 ≡ Some a = sym (address_at t k.0 is_memory k.1.0) ∙ at_a in cc) in
            let kid_shaped : all_pass is_shaped k.0 ≡ true =
            (and_parts (all_pass is_shaped k.0) true (sym (ap (list_all (all_pass is_shaped)) k.1.0) ∙ nodes.within is_shaped t shaped_t)).0 in
            let value = address_value a t s w.0 e (sym (ap (λ o. set_place o symbols regs m t s w.0) at_a) ∙ placed) in
            operand_valued symbols regs m DI a W64 (subst (λ a. is_shaped a ≡ true) same (nodes.itself is_shaped k.0 kid_shaped))
            (subst (λ a. is_operand DI a ≡ true) same k.1.1) refl value;
      }
    where
      memory_code_of : (c : Code) (kids : List Rtx) (a : Rtx) → address_part c kids ≡ Some a → c ≡ code.Mem
      memory_code_of code.Mem kids a is = refl
      memory_code_of _ kids a is = absurd (let no : ⊥ = cc in no)

      address_at : (x a : Rtx) → class_at x ≡ class.Memory → kids_of x ≡ a ∷ [] → address_of x ≡ Some a
      address_at x a is are = ap (λ c. address_part c (kids_of x)) (memory_code (head_of x).code is) ∙ ap (address_part code.Mem) are

  -- ---- what stands in a tree with a value

  at_one : (ps xs : List Rtx) (q y : Rtx) → AtOnePlace ps xs q y → AllValued symbols regs m xs → list_all (all_pass is_shaped) xs ≡ true →
      list_all (all_pass is_whole) xs ≡ true → HasValue symbols regs m y × ((all_pass is_shaped y ≡ true) × (all_pass is_whole y ≡ true))
  at_one _ _ _ _ (first p x ps xs) valued shaped whole =
      (valued.0, ((and_parts (all_pass is_shaped x) _ shaped).0, (and_parts (all_pass is_whole x) _ whole).0))
  at_one _ _ _ _ (later p x q y ps xs more) valued shaped whole =
      at_one ps xs p x more valued.1 (and_parts (all_pass is_shaped y) _ shaped).1 (and_parts (all_pass is_whole y) _ whole).1

  -- where a tree has a value, what stands in it has
  pub at_valued : (p x q y : Rtx) → At p x q y → all_pass is_shaped x ≡ true → all_pass is_whole x ≡ true → HasValue symbols regs m x → HasValue symbols regs m y
  at_valued _ _ _ _ (here p x) shaped whole has = has
  at_valued _ _ _ _ (inside p x q y r z other long at more) shaped whole has =
      let k = at_one (kids_of p) (kids_of x) q y at (kids_valued symbols regs m x (whole_low (is_lowpart x) (nodes.itself is_whole x whole)) shaped has)
      (nodes.within is_shaped x shaped) (nodes.within is_whole x whole) in
      at_valued q y r z more k.1.0 k.1.1 k.0
