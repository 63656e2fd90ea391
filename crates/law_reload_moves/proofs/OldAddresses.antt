-- The address of memory that an instruction of a function sets has a value there, and its registers are live.
use Rattle.std.proofs.Common.{◌≡◌, ◌≢◌, ◌⊎◌, inl, inr, ℕ, ◌<◌, ◌&&◌, if◌then◌else◌, Bool, true, false, List, [], ◌∷◌, map, Option, Some, None, refl, sym, ap, subst, ◌∙◌, arith}
use Rattle.std.proofs.lemmas.Bool.{and_parts, or_left, or_right}
use Rattle.std.specs.Int.{int_wrap, w64}
use Rattle.std.specs.List.{AllByRecursion, list_all, list_any}
use Rattle.std.specs.Ordering.{int_eq}
use Rattle.std.specs.Prelude.{ℤ, pos, ◌+ℤ◌, slice_get}
use Rattle.law_operands_fetched.specs.bits64.declared.Width.{Width}
use Rattle.law_operands_fetched.specs.bits64.declared.Width.TheVariants.{W64}
use Rattle.law_operands_fetched.specs.rtx_tree.Tree.{RtxHead, head_of, kids_of, node_of, reg_of, const_of, mentions_reg}
use Rattle.law_operands_fetched.specs.rtx_tree.declared.code.Code.{Code}
use Rattle.law_operands_fetched.specs.rtx_tree.declared.code.Code.TheVariants as code
use Rattle.law_operands_fetched.specs.rtx_tree.declared.code.Mode.{Mode}
use Rattle.law_operands_fetched.specs.rtx_tree.declared.function.Insn.{Insn}
use Rattle.law_operands_fetched.specs.rtx_tree.declared.tree.Rtx.{Rtx}
use Rattle.law_operands_fetched.proofs.rtx_tree.Trees.{head_of-tree, kids_of-tree}
use Rattle.law_operands_fetched.specs.rtl_func.Shapes.{is_effect, is_shaped}
use Rattle.law_operands_fetched.proofs.rtl_func.AllPass.{all_pass, within}
use Rattle.law_operands_fetched.specs.rtl_step.Effect.{effect_by, effect_of, effects_by, effects_of, all_effects, address_part, address_of, set_effect}
use Rattle.law_operands_fetched.specs.rtl_step.Value.{value_of}
use Rattle.law_operands_fetched.specs.rtl_step.declared.effect.Effect.{Effect}
use Rattle.law_operands_fetched.specs.rtl_step.declared.step.State.{State}
use Rattle.reg_uses.specs.Effects as uses
use Rattle.reg_uses.specs.Effects.{reads, place_reads, place_reads_by, effect_uses, effect_uses_by, pattern_uses}
use Rattle.reg_uses.specs.Uses.{insn_uses}
use Rattle.live.specs.Live.{AtUse}
use Rattle.law_operands_fetched.specs.md_constr.Inputs as inputs
use Rattle.law_operands_fetched.specs.reload_homes.FrameRefs.{sp_plus, frame_offset, framed}
use Rattle.law_operands_fetched.proofs.reload_homes.Rewrites.{framed_reference, framed_over}
use Rattle.law_operands_fetched.specs.law_homes.Placed.{all_sized}
use Rattle.law_operands_fetched.proofs.law_homes.Becoming.{positive_test}
use Rattle.law_operands_fetched.proofs.law_homes.Setting.{Setting, named_of, IsCounted, home_least}
use Rattle.law_operands_fetched.proofs.law_homes.Trees.{sized_kids, mentions_kid}
use Rattle.law_reload_moves.proofs.GivenSteady.{other_list, other_effects}
use Rattle.law_reload_moves.proofs.OutEffects.{IsPlaceSet, in_register, in_memory, set_out}
use Rattle.law_reload_moves.proofs.OutsideSlots.{effect_framed, has_effect, two_kids}
use Rattle.law_reload_moves.proofs.RowsThere.{effects_front, alone_front}
use Rattle.law_reload_moves.proofs.Touches.{one_kid}
use Rattle.law_operands_fetched.proofs.law_operands_replaced.WholeTurns.{is_parallel}

-- ---- memory with references to the frame put in was memory

reference_code : (mode : Mode) (m : ℤ) → (head_of (sp_plus mode m)).code ≡ code.Mem → ⊥
reference_code mode m = test (int_eq m (pos 0))
  where
    test : (b : Bool) → (head_of (if b then reg_of mode 2 else node_of code.Plus mode (reg_of mode 2 ∷ const_of m ∷ []))).code ≡ code.Mem → ⊥
    test true is = let e : code.Reg ≡ code.Mem = sym (ap (λ (h : RtxHead). h.code) (head_of-tree _ _)) ∙ is in let no : ⊥ = cc in no
    test false is = let e : code.Plus ≡ code.Mem = sym (ap (λ (h : RtxHead). h.code) (head_of-tree _ _)) ∙ is in let no : ⊥ = cc in no

memory_framed : (size : ℕ) (t : Rtx) → (head_of (framed size t)).code ≡ code.Mem →
    ((head_of t).code ≡ code.Mem) × (kids_of (framed size t) ≡ map (framed size) (kids_of t))
memory_framed size t memory = by (frame_offset t) refl
  where
    by : (o : Option ℤ) → frame_offset t ≡ o → ((head_of t).code ≡ code.Mem) × (kids_of (framed size t) ≡ map (framed size) (kids_of t))
    by (Some n) at = absurd (reference_code (head_of t).mode (int_wrap w64 (pos size +ℤ n))
        (sym (ap (λ (x : Rtx). (head_of x).code) (framed_reference size t n at)) ∙ memory))
    by None at =
        let f = framed_over size t at in (
          sym (ap (λ (x : Rtx). (head_of x).code) f ∙ ap (λ (h : RtxHead). h.code) (head_of-tree (head_of t) (map (framed size) (kids_of t)))) ∙ memory,
          ap kids_of f ∙ kids_of-tree (head_of t) (map (framed size) (kids_of t)),
        )

module _ (c : Setting) (place : ℕ) (i : Insn) (at : slice_get c.f.insns place ≡ Some i) (s : State) where
  abbrev fr : Rtx → Rtx
  fr = framed c.layout.size

  -- an address before references to the frame were put in
  pub record HasOld (b : Rtx) : Type 0 where
    pub old : Rtx
    pub framed_is : framed c.layout.size old ≡ b
    pub value : ℕ
    pub value_is : value_of c.world.symbols s.regs s.memory old W64 ≡ Some value
    pub sized : all_sized old ≡ true
    pub shaped : all_pass is_shaped old ≡ true
    pub counted : (reg : ℕ) → mentions_reg reg old ≡ true → (reg ≡ 32) ⊎ IsCounted c.f place reg

  -- what it sets, where that is memory
  abbrev pub IsBack : Rtx → Type 0
  IsBack v = (t z b : Rtx) → (head_of v).code ≡ code.Set → kids_of v ≡ t ∷ z ∷ [] → (head_of t).code ≡ code.Mem → kids_of t ≡ b ∷ [] → HasOld b

  abbrev pub AllBack : List Rtx → Type 0
  AllBack [] = Unit {0}
  AllBack (v ∷ vs) = IsBack v × AllBack vs

  -- an element of the pattern
  record IsElement (y : Rtx) : Type 0 where
    sized_too : all_sized y ≡ true
    shaped_too : all_pass is_shaped y ≡ true
    mentioned : (reg : ℕ) → mentions_reg reg y ≡ true → mentions_reg reg i.pattern ≡ true
    used : (reg : ℕ) → effect_uses reg y ≡ true → pattern_uses reg i.pattern ≡ true

  first_sized : (x a : Rtx) (kids : List Rtx) → kids_of x ≡ a ∷ kids → all_sized x ≡ true → all_sized a ≡ true
  first_sized x a kids are sized = (and_parts (all_sized a) (list_all all_sized kids) (ap (list_all all_sized) (sym are) ∙ sized_kids x sized)).0

  first_shaped : (x a : Rtx) (kids : List Rtx) → kids_of x ≡ a ∷ kids → all_pass is_shaped x ≡ true → all_pass is_shaped a ≡ true
  first_shaped x a kids are shaped =
      (and_parts (all_pass is_shaped a) (list_all (all_pass is_shaped) kids) (ap (list_all (all_pass is_shaped)) (sym are) ∙ within is_shaped x shaped)).0

  first_mentions : (x a : Rtx) (kids : List Rtx) (reg : ℕ) → kids_of x ≡ a ∷ kids → mentions_reg reg a ≡ true → mentions_reg reg x ≡ true
  first_mentions x a kids reg are has = mentions_kid x reg (ap (list_any (mentions_reg reg)) are ∙ or_left (mentions_reg reg a) _ has)

  -- the registers of an address are used
  address_used : (y t z a : Rtx) (reg : ℕ) → IsElement y → (head_of y).code ≡ code.Set → kids_of y ≡ t ∷ z ∷ [] → (head_of t).code ≡ code.Mem → kids_of t ≡ a ∷ [] →
      mentions_reg reg a ≡ true → (reg ≡ 32) ⊎ IsCounted c.f place reg
  address_used y t z a reg element is are memory kid has =
      let in_place = first_mentions t a [] reg kid has in
      elim (named_of c place i at reg (element.mentioned reg (first_mentions y t (z ∷ []) reg are in_place))) [
        | inl vars ↦ inl vars
        | inr named ↦
            let least = home_least reg named.has in
            let some : 0 < reg = omega (arith, least) in
            let read : reads reg t ≡ true = ap (λ b. b && mentions_reg reg t) (positive_test reg some) ∙ in_place in
            let used = element.used reg (ap (λ c'. effect_uses_by reg c' (kids_of y) y) is ∙ ap (λ ks. effect_uses_by reg code.Set ks y) are ∙
            or_left (place_reads reg t) _ (ap (λ c'. place_reads_by reg c' t) memory ∙ read)) in
            inr (record { named = named; live = AtUse place i at (or_left (insn_uses i reg) _ (or_left (pattern_uses reg i.pattern) _ used)) })
      ]

  address_value : (t a : Rtx) (e : Effect) (z : Rtx) → address_of t ≡ Some a → set_effect c.world.symbols s.regs s.memory t z ≡ Some e →
      (v : ℕ) × (value_of c.world.symbols s.regs s.memory a W64 ≡ Some v)
  address_value t a e z is does = let o = set_out c.world.symbols s.regs s.memory t z e does in by o.width o.value e o.place
    where
      by : (w : Width) (v : ℕ) (e : Effect) → IsPlaceSet c.world.symbols s.regs s.memory t w v e → (v : ℕ) × (value_of c.world.symbols s.regs s.memory a W64 ≡ Some v)
      by w v _ (in_register reg none there) = absurd (let e : ◌≡◌ {A = Option Rtx} None (Some a) = sym none ∙ is in let no : ⊥ = cc in no)
      by w v _ (in_memory b p there value has) =
          let same : b ≡ a = (let both : Some b ≡ Some a = sym there ∙ is in cc) in
          (p, ap (λ b. value_of c.world.symbols s.regs s.memory b W64) (sym same) ∙ value)

  one_back : (y : Rtx) (e : Effect) → IsElement y → effect_of c.world.symbols s.regs s.memory y ≡ Some e → IsBack (fr y)
  one_back y e element does t z b is are memory kid =
      let f = effect_framed c.layout.size y (has_effect c.world.symbols s.regs s.memory y e does) in
      let set_is : (head_of y).code ≡ code.Set = ap (λ (h : RtxHead). h.code) (sym f.0) ∙ is in
      let k = two_kids fr (kids_of y) t z (sym f.1 ∙ are) in
      let m = memory_framed c.layout.size k.0 (ap (λ (x : Rtx). (head_of x).code) k.1.1.1 ∙ memory) in
      let o = one_kid fr (kids_of k.0) b (sym m.1 ∙ ap kids_of k.1.1.1 ∙ kid) in
      let set : set_effect c.world.symbols s.regs s.memory k.0 k.1.0 ≡ Some e =
      sym (ap (λ c'. effect_by c' (kids_of y) c.world.symbols s.regs s.memory) set_is ∙ ap (λ ks. effect_by code.Set ks c.world.symbols s.regs s.memory) k.1.1.0) ∙ does in
      let v = address_value k.0 o.0 e k.1.0 (ap (λ c'. address_part c' (kids_of k.0)) m.0 ∙ ap (address_part code.Mem) o.1.0) set in record {
        old = o.0;
        framed_is = o.1.1;
        value = v.0;
        value_is = v.1;
        sized = first_sized k.0 o.0 [] o.1.0 (first_sized y k.0 (k.1.0 ∷ []) k.1.1.0 element.sized_too);
        shaped = first_shaped k.0 o.0 [] o.1.0 (first_shaped y k.0 (k.1.0 ∷ []) k.1.1.0 element.shaped_too);
        counted = λ reg has. address_used y k.0 k.1.0 o.0 reg element set_is k.1.1.0 m.0 o.1.0 has;
      }

  all_back : (ys : List Rtx) (es : List Effect) → AllByRecursion IsElement ys → all_effects c.world.symbols s.regs s.memory ys ≡ Some es → AllBack (map fr ys)
  all_back [] es elements does = tt
  all_back (y ∷ ys) es elements does =
      let f = effects_front (effect_of c.world.symbols s.regs s.memory y) (all_effects c.world.symbols s.regs s.memory ys) es does in
      (one_back y f.0 elements.0 f.1.1.1.0, all_back ys f.1.0 elements.1 f.1.1.1.1)

  each_element : (ys : List Rtx) → list_all all_sized ys ≡ true → list_all (all_pass is_shaped) ys ≡ true →
      ((reg : ℕ) → list_any (mentions_reg reg) ys ≡ true → mentions_reg reg i.pattern ≡ true) →
      ((reg : ℕ) → list_any (effect_uses reg) ys ≡ true → pattern_uses reg i.pattern ≡ true) → AllByRecursion IsElement ys
  each_element [] sizes shapes mentioned used = tt
  each_element (y ∷ ys) sizes shapes mentioned used =
      let both = and_parts (all_sized y) (list_all all_sized ys) sizes in
      let shape = and_parts (all_pass is_shaped y) (list_all (all_pass is_shaped) ys) shapes in (
        record {
          sized_too = both.0;
          shaped_too = shape.0;
          mentioned = λ reg has. mentioned reg (or_left (mentions_reg reg y) _ has);
          used = λ reg has. used reg (or_left (effect_uses reg y) _ has);
        },
        each_element ys both.1 shape.1 (λ reg has. mentioned reg (or_right (mentions_reg reg y) _ has)) (λ reg has. used reg (or_right (effect_uses reg y) _ has)),
      )

  other_uses : (d : Code) (x : Rtx) → (head_of x).code ≡ d → d ≢ code.Parallel → uses.effects_of x ≡ x ∷ []
  other_uses code.Parallel x is other = absurd (other refl)
  other_uses _ x is other = ap (λ d. uses.effects_by d (kids_of x) x) is

  -- those of the instruction
  pub insn_back : (es : List Effect) → is_effect i.pattern ≡ true → all_pass is_shaped i.pattern ≡ true → effects_of c.world.symbols s.regs s.memory i.pattern ≡ Some es →
      AllBack (inputs.effects_of (fr i.pattern))
  insn_back es effect shaped does = elim (is_parallel (head_of i.pattern).code) [
    | inl is ↦
        let f = effect_framed c.layout.size i.pattern effect in
        let there : (head_of (fr i.pattern)).code ≡ code.Parallel = ap (λ (h : RtxHead). h.code) f.0 ∙ is in
        let elements : uses.effects_of i.pattern ≡ kids_of i.pattern = ap (λ d. uses.effects_by d (kids_of i.pattern) i.pattern) is in
        subst AllBack (sym (ap (λ d. inputs.effects_by d (fr i.pattern) (kids_of (fr i.pattern))) there ∙ f.1))
        (all_back (kids_of i.pattern) es
        (each_element (kids_of i.pattern) (sized_kids i.pattern (c.can.sized place i at)) (within is_shaped i.pattern shaped) (λ reg has. mentions_kid i.pattern reg has)
        (λ reg has. ap (list_any (effect_uses reg)) elements ∙ has))
        (sym (ap (λ d. effects_by d i.pattern c.world.symbols s.regs s.memory) is) ∙ does))
    | inr other ↦
        let f = effect_framed c.layout.size i.pattern effect in
        let there : (head_of (fr i.pattern)).code ≢ code.Parallel = λ e. other (sym (ap (λ (h : RtxHead). h.code) f.0) ∙ e) in
        let a = alone_front (effect_of c.world.symbols s.regs s.memory i.pattern) es (sym (other_effects c.world.symbols s.regs s.memory (head_of i.pattern).code i.pattern refl other) ∙ does) in
        let elements = other_uses (head_of i.pattern).code i.pattern refl other in
        subst AllBack (sym (other_list (head_of (fr i.pattern)).code (fr i.pattern) refl there)) (
          one_back i.pattern a.0 (record {
            sized_too = c.can.sized place i at;
            shaped_too = shaped;
            mentioned = λ reg has. has;
            used = λ reg has. ap (list_any (effect_uses reg)) elements ∙ or_left (effect_uses reg i.pattern) false has;
          }) a.1.1,
          tt,
        )
  ]
