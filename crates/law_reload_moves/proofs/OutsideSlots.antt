-- What an instruction of a function stores in memory that is no slot is in no slot.
use Rattle.std.proofs.Common.{◌≡◌, ◌≢◌, ◌⊎◌, inl, inr, ℕ, ◌+◌, ◌<◌, ◌≤◌, if◌then◌else◌, Bool, true, false, List, [], ◌∷◌, map, Option, Some, None, refl, sym, ap, subst, ◌∙◌, arith}
use Rattle.std.proofs.lemmas.Bool.{false≢true}
use Rattle.std.specs.Int.{int_wrap, w64}
use Rattle.std.specs.Ordering.{int_eq}
use Rattle.std.specs.Prelude.{ℤ, ◌+ℤ◌, pos, is_some, slice_get, option_map, option_and_then}
use Rattle.law_operands_fetched.specs.bits64.Words.{bytes_of}
use Rattle.law_operands_fetched.specs.bits64.declared.Width.{Width}
use Rattle.law_operands_fetched.specs.rtx_tree.Code.{class_of_code, is_effect_class}
use Rattle.law_operands_fetched.specs.rtx_tree.Tree.{RtxHead, head_of, kids_of, node_of, reg_of, const_of}
use Rattle.law_operands_fetched.specs.rtx_tree.declared.code.Code.{Code}
use Rattle.law_operands_fetched.specs.rtx_tree.declared.code.Code.TheVariants as code
use Rattle.law_operands_fetched.specs.rtx_tree.declared.code.Mode.{Mode}
use Rattle.law_operands_fetched.specs.rtx_tree.declared.function.Insn.{Insn}
use Rattle.law_operands_fetched.specs.rtx_tree.declared.machine.SymbolAt.{SymbolAt}
use Rattle.law_operands_fetched.specs.rtx_tree.declared.memories.MemByte.{MemByte}
use Rattle.law_operands_fetched.specs.rtx_tree.declared.tree.Rtx.{Rtx}
use Rattle.law_operands_fetched.proofs.rtx_tree.Trees.{head_of-tree, kids_of-tree}
use Rattle.law_operands_fetched.specs.run_memory.RunMemory.{load}
use Rattle.law_operands_fetched.proofs.run_memory.Laws.{Apart}
use Rattle.law_operands_fetched.specs.rtl_func.Shapes.{is_effect}
use Rattle.law_operands_fetched.specs.rtl_step.Effect.{effect_by, effect_of, effects_by, effects_of, one_effect, all_effects, register_by, set_effect}
use Rattle.law_operands_fetched.specs.rtl_step.Regs.{Regs, known_of}
use Rattle.law_operands_fetched.specs.rtl_step.declared.effect.Effect.{Effect}
use Rattle.law_operands_fetched.specs.rtl_step.declared.effect.Effect.TheVariants.{Sets, Stores}
use Rattle.law_operands_fetched.specs.rtl_step.declared.step.State.{State}
use Rattle.law_operands_fetched.specs.md_constr.Inputs as inputs
use Rattle.law_operands_fetched.specs.assign.declared.home.Home.TheVariants.{Slot}
use Rattle.law_operands_fetched.specs.reload_homes.FrameRefs.{sp_plus, frame_offset, framed}
use Rattle.law_operands_fetched.specs.reload_homes.Homes.{home_of, slot_offset}
use Rattle.law_operands_fetched.proofs.reload_homes.Rewrites.{framed_reference, framed_over}
use Rattle.law_operands_fetched.specs.law_homes.Placed as effects
use Rattle.law_operands_fetched.specs.law_homes.Placed.{BecomesInHomes}
use Rattle.law_operands_fetched.proofs.law_homes.After.{from_ends, some_bytes}
use Rattle.law_operands_fetched.proofs.law_homes.Plain.{Made, AllMade, made_none, made_more}
use Rattle.law_operands_fetched.proofs.law_homes.Setting.{Setting, base, StandsIn, slot_below, slot_no_local}
use Rattle.law_operands_fetched.proofs.law_homes.Stores.{load_each}
use Rattle.law_operands_fetched.proofs.law_operands_replaced.ElementTurns.{effect_code}
use Rattle.law_reload_moves.proofs.FramedTrees.{FrameCase, alone, sum, frame_case}
use Rattle.law_reload_moves.proofs.LeftRegisters.{Changes, set_there}
use Rattle.law_reload_moves.proofs.RowsThere.{effects_front, alone_front}
use Rattle.law_operands_fetched.proofs.law_operands_replaced.WholeTurns.{is_parallel}
use Rattle.law_reload_moves.proofs.ElementValues.{register_code}

-- ---- trees with references to the frame put in

no_reference : (x : Rtx) → FrameCase x → ((head_of x).code ≡ code.Reg) ⊎ ((head_of x).code ≡ code.Plus)
no_reference x (alone is number) = inl is
no_reference x (sum base constant is are) = inr is

-- an effect is no reference
pub effect_over : (size : ℕ) (x : Rtx) → is_effect x ≡ true → frame_offset x ≡ None
effect_over size x effect = by (frame_offset x) refl
  where
    by : (o : Option ℤ) → frame_offset x ≡ o → o ≡ None
    by None at = refl
    by (Some n) at = elim (no_reference x (frame_case x n at)) [
      | inl reg ↦ absurd (let e : false ≡ true = sym (ap (λ c. is_effect_class (class_of_code c)) reg) ∙ effect in let no : ⊥ = cc in no)
      | inr plus ↦ absurd (let e : false ≡ true = sym (ap (λ c. is_effect_class (class_of_code c)) plus) ∙ effect in let no : ⊥ = cc in no)
    ]

-- it keeps its head, and its parts have what is put in
pub effect_framed : (size : ℕ) (x : Rtx) → is_effect x ≡ true → (head_of (framed size x) ≡ head_of x) × (kids_of (framed size x) ≡ map (framed size) (kids_of x))
effect_framed size x effect =
    let e = framed_over size x (effect_over size x effect) in
    (ap head_of e ∙ head_of-tree (head_of x) (map (framed size) (kids_of x)), ap kids_of e ∙ kids_of-tree (head_of x) (map (framed size) (kids_of x)))

-- a register is no memory, also with references put in
reg_no_memory : (size : ℕ) (t : Rtx) → ((head_of t).code ≡ code.Reg) ⊎ ((head_of t).code ≡ code.Subreg) → (head_of (framed size t)).code ≡ code.Mem → ⊥
reg_no_memory size t register memory = by (frame_offset t) refl
  where
    place_code : (mode : Mode) (m : ℤ) → ((head_of (sp_plus mode m)).code ≡ code.Reg) ⊎ ((head_of (sp_plus mode m)).code ≡ code.Plus)
    place_code mode m = test (int_eq m (pos 0))
      where
        test : (b : Bool) → let y = if b then reg_of mode 2 else node_of code.Plus mode (reg_of mode 2 ∷ const_of m ∷ []) in
            ((head_of y).code ≡ code.Reg) ⊎ ((head_of y).code ≡ code.Plus)
        test true = inl (ap (λ (h : RtxHead). h.code) (head_of-tree _ _))
        test false = inr (ap (λ (h : RtxHead). h.code) (head_of-tree _ _))

    by : (o : Option ℤ) → frame_offset t ≡ o → ⊥
    by (Some n) at =
        let f = framed_reference size t n at in
        elim (place_code (head_of t).mode (int_wrap w64 (pos size +ℤ n))) [
          | inl reg ↦ (let no : code.Reg ≡ code.Mem = sym reg ∙ sym (ap (λ (x : Rtx). (head_of x).code) f) ∙ memory in let never : ⊥ = cc in never)
          | inr plus ↦ (let no : code.Plus ≡ code.Mem = sym plus ∙ sym (ap (λ (x : Rtx). (head_of x).code) f) ∙ memory in let never : ⊥ = cc in never)
        ]
    by None at =
        let same : (head_of t).code ≡ code.Mem = sym (ap (λ (x : Rtx). (head_of x).code) (framed_over size t at) ∙
        ap (λ (h : RtxHead). h.code) (head_of-tree (head_of t) (map (framed size) (kids_of t)))) ∙ memory in
        elim register [
          | inl reg ↦ (let no : code.Reg ≡ code.Mem = sym reg ∙ same in let never : ⊥ = cc in never)
          | inr sub ↦ (let no : code.Subreg ≡ code.Mem = sym sub ∙ same in let never : ⊥ = cc in never)
        ]

-- ---- elements

pub has_effect : (symbols : List SymbolAt) (regs : Regs) (m : List MemByte) (y : Rtx) (e : Effect) → effect_of symbols regs m y ≡ Some e → is_effect y ≡ true
has_effect symbols regs m y e does = elim (effect_code (head_of y).code (kids_of y) symbols regs m e does) [
  | inl s ↦ ap (λ c. is_effect_class (class_of_code c)) s.0
  | inr more ↦ elim more [
    | inl u ↦ ap (λ c. is_effect_class (class_of_code c)) u.0
    | inr c ↦ ap (λ c. is_effect_class (class_of_code c)) c.0
  ]
]

pub two_kids : (f : Rtx → Rtx) (xs : List Rtx) (t s : Rtx) → map f xs ≡ t ∷ s ∷ [] → (a : Rtx) × ((b : Rtx) × ((xs ≡ a ∷ b ∷ []) × (f a ≡ t)))
two_kids f [] t s is = absurd (let no : ⊥ = cc in no)
two_kids f (a ∷ []) t s is = absurd (let no : ⊥ = cc in no)
two_kids f (a ∷ b ∷ []) t s is = (a, (b, (refl, (let same : f a ≡ t = cc in same))))
two_kids f (a ∷ b ∷ c ∷ xs) t s is = absurd (let no : ⊥ = cc in no)

module _ (c : Setting) (place : ℕ) (i : Insn) (at : slice_get c.f.insns place ≡ Some i) (s u : State) (stands : StandsIn c place s u) where
  abbrev fr : Rtx → Rtx
  fr = framed c.layout.size

  -- what is stored in other memory
  abbrev pub IsAway : Rtx → Effect → Type 0
  IsAway v e = (t z : Rtx) (width : Width) (at value : ℕ) → (head_of v).code ≡ code.Set → kids_of v ≡ t ∷ z ∷ [] → (head_of t).code ≡ code.Mem →
      e ≡ Stores width at value → (reg : ℕ) → home_of c.homes reg ≡ Slot → Apart at (bytes_of width) (base c + slot_offset c.layout reg) 8

  abbrev pub AllAway : List Rtx → List Effect → Type 0
  AllAway [] es = Unit {0}
  AllAway (v ∷ vs) [] = Unit {0}
  AllAway (v ∷ vs) (e ∷ es) = IsAway v e × AllAway vs es

  -- memory of the function is in no slot
  store_away : (w : Width) (q : ℕ) → is_some (load w s.memory q) ≡ true → (reg : ℕ) → home_of c.homes reg ≡ Slot → Apart q (bytes_of w) (base c + slot_offset c.layout reg) 8
  store_away w q there reg home = from_ends q (bytes_of w) (base c + slot_offset c.layout reg) 8 (λ a least most begin last.
      false≢true (sym (slot_no_local c reg a home begin last) ∙ stands.outside a (load_each w s.memory q there a least most) (slot_below c reg a home begin last)))
      (some_bytes w) (omega arith)

  -- an effect of which the place isn't a register is a store
  filled : (y t z : Rtx) (e : Effect) (reg : ℕ) → is_effect y ≡ true → effect_of c.world.symbols s.regs s.memory y ≡ Some e → (head_of (fr y)).code ≡ code.Set →
      kids_of (fr y) ≡ t ∷ z ∷ [] → (head_of t).code ≡ code.Mem → Changes reg e → ⊥
  filled y t z e reg effect does is are memory changes =
      let f = effect_framed c.layout.size y effect in
      let set_is : (head_of y).code ≡ code.Set = ap (λ (h : RtxHead). h.code) (sym f.0) ∙ is in
      let k = two_kids fr (kids_of y) t z (sym f.1 ∙ are) in
      let set : set_effect c.world.symbols s.regs s.memory k.0 k.1.0 ≡ Some e =
      sym (ap (λ c'. effect_by c' (kids_of y) c.world.symbols s.regs s.memory) set_is ∙ ap (λ ks. effect_by code.Set ks c.world.symbols s.regs s.memory) k.1.1.0) ∙ does in
      let reg_is = set_there c.world.symbols s.regs s.memory k.0 k.1.0 e reg set changes in
      reg_no_memory c.layout.size k.0 (register_code (head_of k.0).code (head_of k.0).number (kids_of k.0) reg reg_is)
      (ap (λ (x : Rtx). (head_of x).code) k.1.1.1 ∙ memory)

  one_away : (y : Rtx) (e e' : Effect) → is_effect y ≡ true → effect_of c.world.symbols s.regs s.memory y ≡ Some e → BecomesInHomes c.homes c.layout (base c) e e' →
      Made c place i at s.memory e e' → IsAway (fr y) e'
  one_away y _ _ effect does (effects.sets reg hard known home) made t z width at' value is are memory same = absurd (let no : ⊥ = cc in no)
  one_away y _ _ effect does (effects.fills reg w v home) made t z width at' value is are memory same =
      absurd (filled y t z (Sets reg (known_of w v)) reg effect does is are memory refl)
  one_away y _ _ effect does (effects.unsets reg hard home) made t z width at' value is are memory same = absurd (let no : ⊥ = cc in no)
  one_away y _ _ effect does (effects.leaves reg home) made t z width at' value is are memory same = absurd (let no : ⊥ = cc in no)
  one_away y _ _ effect does (effects.stores w q v) made t z width at' value is are memory same =
      let wide : w ≡ width = cc in
      let there : q ≡ at' = cc in
      λ reg home. subst (λ a. Apart a (bytes_of width) (base c + slot_offset c.layout reg) 8) there
      (subst (λ w. Apart q (bytes_of w) (base c + slot_offset c.layout reg) 8) wide (store_away w q (made.stored w q v refl) reg home))
  one_away y _ _ effect does effects.nothing made t z width at' value is are memory same = absurd (let no : ⊥ = cc in no)

  all_away : (ys : List Rtx) (es es' : List Effect) → all_effects c.world.symbols s.regs s.memory ys ≡ Some es → AllMade c place i at s.memory es es' → AllAway (map fr ys) es'
  all_away [] es es' does made = tt
  all_away (y ∷ ys) _ _ does made_none = tt
  all_away (y ∷ ys) _ _ does (made_more e e' es es' made rest) =
      let f = effects_front (effect_of c.world.symbols s.regs s.memory y) (all_effects c.world.symbols s.regs s.memory ys) (e ∷ es) does in
      let here : e ≡ f.0 = (let both : e ∷ es ≡ f.0 ∷ f.1.0 = f.1.1.0 in cc) in
      let later : es ≡ f.1.0 = (let both : e ∷ es ≡ f.0 ∷ f.1.0 = f.1.1.0 in cc) in (
        one_away y e e' (has_effect c.world.symbols s.regs s.memory y e (f.1.1.1.0 ∙ ap Some (sym here))) (f.1.1.1.0 ∙ ap Some (sym here)) made.becomes made,
        all_away ys es es' (f.1.1.1.1 ∙ ap Some (sym later)) rest,
      )

  other_list : (d : Code) (x : Rtx) → (head_of x).code ≡ d → d ≢ code.Parallel → inputs.effects_of x ≡ x ∷ []
  other_list code.Parallel x is other = absurd (other refl)
  other_list _ x is other = ap (λ d. inputs.effects_by d x (kids_of x)) is

  other_effects : (d : Code) (x : Rtx) → (head_of x).code ≡ d → d ≢ code.Parallel → effects_of c.world.symbols s.regs s.memory x ≡ one_effect c.world.symbols s.regs s.memory x
  other_effects code.Parallel x is other = absurd (other refl)
  other_effects _ x is other = ap (λ d. effects_by d x c.world.symbols s.regs s.memory) is

  -- those of an instruction
  pub insn_away : (es es' : List Effect) → is_effect i.pattern ≡ true → effects_of c.world.symbols s.regs s.memory i.pattern ≡ Some es → AllMade c place i at s.memory es es' →
      AllAway (inputs.effects_of (fr i.pattern)) es'
  insn_away es es' effect does made = elim (is_parallel (head_of i.pattern).code) [
    | inl is ↦
        let f = effect_framed c.layout.size i.pattern effect in
        let there : (head_of (fr i.pattern)).code ≡ code.Parallel = ap (λ (h : RtxHead). h.code) f.0 ∙ is in
        subst (λ vs. AllAway vs es') (sym (ap (λ d. inputs.effects_by d (fr i.pattern) (kids_of (fr i.pattern))) there ∙ f.1))
        (all_away (kids_of i.pattern) es es' (sym (ap (λ d. effects_by d i.pattern c.world.symbols s.regs s.memory) is) ∙ does) made)
    | inr other ↦
        let f = effect_framed c.layout.size i.pattern effect in
        let there : (head_of (fr i.pattern)).code ≢ code.Parallel = λ e. other (sym (ap (λ (h : RtxHead). h.code) f.0) ∙ e) in
        let a = alone_front (effect_of c.world.symbols s.regs s.memory i.pattern) es (sym (other_effects (head_of i.pattern).code i.pattern refl other) ∙ does) in
        subst (λ vs. AllAway vs es') (sym (other_list (head_of (fr i.pattern)).code (fr i.pattern) refl there))
        (all_away (i.pattern ∷ []) es es'
        (ap (option_and_then (λ e. option_map (λ es. e ∷ es) (Some []))) a.1.1 ∙ ap Some (sym a.1.0)) made)
  ]
