-- A constant that is stored, and one by which an operation computes, set into a new register before.
use Rattle.std.proofs.Common.{◌≡◌, ◌<◌, ◌^◌, ℕ, suc, pos, Bool, true, false, not, ◌&&◌, ◌||◌, List, [], ◌∷◌, Some, refl, sym, ap, subst, ◌∙◌}
use Rattle.std.proofs.lemmas.Bool.{and_from, and_parts}
use Rattle.std.specs.Prelude.{ℤ, slice_get}
use Rattle.std.specs.Int.{cast_unsigned, w64}
use Rattle.std.specs.List.{list_any, AllByRecursion}
use Rattle.bits64.specs.declared.Width.{Width}
use Rattle.rtx_tree.specs.Code.{class_of_code, is_place_class, is_value_class, is_constant_class}
use Rattle.rtx_tree.specs.declared.class.Class.TheVariants as class
use Rattle.rtx_tree.specs.declared.code.Code.{Code}
use Rattle.rtx_tree.specs.declared.code.Code.TheVariants as code
use Rattle.rtx_tree.specs.declared.code.Mode.{Mode}
use Rattle.rtx_tree.specs.declared.function.Function.{Function}
use Rattle.rtx_tree.specs.declared.function.Insn.{Insn}
use Rattle.rtx_tree.specs.declared.function.Kind.TheVariants.{Plain}
use Rattle.rtx_tree.specs.declared.tree.Rtx.{Rtx, out-Rtx, out-roll-Rtx}
use Rattle.rtx_tree.specs.Patterns.{set_rtx, is_pc, is_pc_code}
use Rattle.rtx_tree.specs.Registers.{pseudo}
use Rattle.rtx_tree.specs.Tree.{kids_of, node_of, const_of, mentions_reg}
use Rattle.rtl_func.specs.Effects.{holds_simple_by}
use Rattle.rtl_func.specs.Kinds.{is_jump_by}
use Rattle.rtl_func.specs.Shapes.{has_mode, same_mode, is_operand, is_place, is_bare, fits_row, is_shaped, is_call_class, mode_at}
use Rattle.rtl_func.proofs.AllPass as passing
use Rattle.rtl_chain.specs.Counts.{next_pseudo}
use Rattle.rtl_step.specs.Value.{width_of, operator_of}
use Rattle.md_operand.specs.Operand.{is_register, is_register_by, is_memory, is_memory_by}
use Rattle.md_operand.specs.Operand as operands
use Rattle.live.specs.Live.{AreLiveAfter}
use Rattle.insn_replace.specs.Replace.{made}
use Rattle.term_tree.specs.Tree.{Tree}
use Rattle.term_mean.specs.Sums.{constant}
use Rattle.sym_state.specs.State.{start, is_within}
use Rattle.sym_insns.specs.Shape as shape
use Rattle.sym_insns.specs.Shape.{is_natural}
use Rattle.sym_insns.specs.Value.{Made, of_operands, made_of}
use Rattle.sym_insns.specs.Effects.{set_effect, make}
use Rattle.equate.specs.Side.{Insns}
use Rattle.equate.specs.Equated.{Equated}
use Rattle.law_fresh_registers.specs.Fresh.{IsHandedNowhere}
use Rattle.law_fresh_registers.proofs.NotLive.{first_none, parts_none}
use Rattle.law_set_before.specs.Before.{CanBeHad}
use Rattle.law_plain_leaves.proofs.Leaves.{mode_is}
use Rattle.law_plain_leaves.proofs.Shaped.{two_of}
use Rattle.law_plain_matched.specs.Matched.{Register, Memory}
use Rattle.law_plain_equated.proofs.Wells.{IsWell, IsWellHere, well_tree, well_parts}
use Rattle.law_plain_equated.proofs.ReadBack.{set_to, made_spared}
use Rattle.law_plain_equated.proofs.News.{fresh, below, constant_made, fresh_made, fresh_operand, const_operand, same_itself, well_fresh, well_set}
use Rattle.law_plain_equated.proofs.Windows.{binary_made, parts_unnamed, parts_well, constant_before}

-- ---- what is set

register_by : (c : Code) (x : Rtx) (kids : List Rtx) → is_register_by c x kids ≡ true → (is_pc_code c ≡ false) × (is_place_class (class_of_code c) ≡ true)
register_by code.Reg x kids is = (refl, refl)
register_by code.Subreg x kids is = (refl, refl)
register_by _ x kids is = absurd (let no : ⊥ = cc in no)

memory_by : (c : Code) (kids : List Rtx) → is_memory_by c kids ≡ true → (is_pc_code c ≡ false) × (is_place_class (class_of_code c) ≡ true)
memory_by code.Mem kids is = (refl, refl)
memory_by _ kids is = absurd (let no : ⊥ = cc in no)

natural_nought : (c : Code) → is_natural c (pos 0) ≡ true
natural_nought code.Reg = refl
natural_nought _ = refl

module _ (f : Function) (place : ℕ) (i : Insn) (live : List ℕ) (at : slice_get f.insns place ≡ Some i) (are : AreLiveAfter f place live) (nowhere : IsHandedNowhere f (pseudo (next_pseudo f.insns))) (few : next_pseudo f.insns < 2 ^ 31)
    (plain : i.kind ≡ Plain) (shaped : shape.is_shaped i ≡ true) (m : Mode) (w : Width) (moded : has_mode m ≡ true) (wide : width_of m ≡ Some w) (z : ℤ) where
  abbrev next : ℕ
  next = next_pseudo f.insns

  abbrev value : Tree
  value = constant w (cast_unsigned w64 z)

  read_too : made_of (set_to (below next) value) [] (fresh m next) w ≡ made_of [] [] (const_of z) w
  read_too = fresh_made m next value w refl ∙ sym (constant_made z w)

  -- ---- a constant is stored

  module _ (target : Rtx) (memory : Memory m target) (pattern : i.pattern ≡ set_rtx target (const_of z)) where
    abbrev parts : AllByRecursion IsWell (target ∷ const_of z ∷ [])
    parts = parts_well f place i live at are nowhere few plain shaped target (const_of z) pattern

    memory_two : (is_memory target ≡ true) × (operands.has_mode m target ≡ true)
    memory_two = two_of (is_memory target) (operands.has_mode m target) memory

    memory_place : (is_pc target ≡ false) × (is_place target ≡ true)
    memory_place = memory_by (out-Rtx target).code (out-Rtx target).kids memory_two.0

    memory_mode : mode_at target ≡ m
    memory_mode = mode_is m (mode_at target) moded memory_two.1

    pub stored_before : is_within (make 0 (set_effect [] [] target (const_of z)) start) ≡ true → AllByRecursion CanBeHad (set_effect [] [] target (const_of z)).needs →
        Equated (i ∷ []) (Insns (made f i (set_rtx (fresh m next) (const_of z) ∷ set_rtx target (fresh m next) ∷ []))) live
    stored_before small had =
        let fresh_well = well_fresh m next moded few in
        constant_before f place i live at are nowhere few plain shaped target (const_of z) pattern m w z (fresh m next) w moded wide (ap width_of memory_mode ∙ wide) parts.1.0 (const_operand m z) fresh_well
        (well_set target (fresh m next) memory_place.0 memory_place.1 (ap (λ n. is_operand n (fresh m next)) memory_mode ∙ fresh_operand m next) parts.0 fresh_well) read_too small had

  -- ---- an operation on a register and a constant

  module _ (c : Code) (binary : class_of_code c ≡ class.Binary) (target a : Rtx) (is_target : Register m target) (pattern : i.pattern ≡ set_rtx target (node_of c m (a ∷ const_of z ∷ []))) where
    abbrev source : Rtx
    source = node_of c m (a ∷ const_of z ∷ [])

    abbrev other : Rtx
    other = node_of c m (a ∷ fresh m next ∷ [])

    abbrev wells : AllByRecursion IsWell (target ∷ source ∷ [])
    wells = parts_well f place i live at are nowhere few plain shaped target source pattern

    source_kids : kids_of source ≡ a ∷ const_of z ∷ []
    source_kids = ap (λ o. o.kids) (out-roll-Rtx _)

    inner : AllByRecursion IsWell (a ∷ const_of z ∷ [])
    inner = well_parts source (a ∷ const_of z ∷ []) source_kids wells.1.0

    -- the first operand is one of the mode, and has no new register
    fits : (is_operand m a && is_operand m (const_of z)) ≡ true
    fits =
        let whole = passing.itself is_shaped source wells.1.0.shaped in
        let rows : (is_bare (class_of_code c) 0 [] && fits_row (class_of_code c) m 0 (a ∷ const_of z ∷ [])) ≡ true =
        sym (ap (λ o. is_bare (class_of_code o.code) (cast_unsigned w64 o.number) o.name && fits_row (class_of_code o.code) o.mode (cast_unsigned w64 o.number) o.kids) (out-roll-Rtx _)) ∙ whole in
        let here : (has_mode m && (is_operand m a && is_operand m (const_of z))) ≡ true = ap (λ k. is_bare k 0 [] && fits_row k m 0 (a ∷ const_of z ∷ [])) (sym binary) ∙ rows in
        (and_parts (has_mode m) (is_operand m a && is_operand m (const_of z)) here).1

    operand : is_operand m a ≡ true
    operand = (and_parts (is_operand m a) (is_operand m (const_of z)) fits).0

    a_unnamed : mentions_reg (suc (below next)) a ≡ false
    a_unnamed =
        let reg = suc (below next) in
        let none = (parts_unnamed f place i live at are nowhere few plain shaped target source pattern).1 in
        first_none (mentions_reg reg a) (mentions_reg reg (const_of z) || false) (ap (list_any (mentions_reg reg)) (sym source_kids) ∙ parts_none reg source none)

    same : made_of (set_to (below next) value) [] other w ≡ made_of [] [] source w
    same =
        let regs = set_to (below next) value in
        binary_made c binary regs m a (fresh m next) w ∙
        (ap (λ (v : Made). of_operands [] (operator_of c) w v (made_of regs [] (fresh m next) w)) (made_spared (below next) value a w inner.0.natural a_unnamed) ∙
        (ap (λ (v : Made). of_operands [] (operator_of c) w (made_of [] [] a w) v) read_too ∙ sym (binary_made c binary [] m a (const_of z) w)))

    other_well : IsWell other
    other_well =
        let kids = a ∷ fresh m next ∷ [] in
        well_tree (record { code = c; mode = m; number = pos 0; name = [] }) kids
        (record {
          plain = ap (λ k. not (is_jump_by k (a ∷ fresh m next ∷ []) || is_call_class k)) binary;
          bare = ap (λ k. is_bare k 0 []) binary;
          fits = ap (λ k. fits_row k m 0 (a ∷ fresh m next ∷ [])) binary ∙ and_from (has_mode m) (is_operand m a && is_operand m (fresh m next)) moded (and_from (is_operand m a) (is_operand m (fresh m next)) operand (fresh_operand m next));
          natural = natural_nought c;
          simple = ap (λ k. holds_simple_by k (a ∷ fresh m next ∷ [])) binary;
        })
        (inner.0, (well_fresh m next moded few, tt))

    target_two : (is_register target ≡ true) × (operands.has_mode m target ≡ true)
    target_two = two_of (is_register target) (operands.has_mode m target) is_target

    target_place : (is_pc target ≡ false) × (is_place target ≡ true)
    target_place = register_by (out-Rtx target).code target (out-Rtx target).kids target_two.0

    target_mode : mode_at target ≡ m
    target_mode = mode_is m (mode_at target) moded target_two.1

    other_operand : is_operand (mode_at target) other ≡ true
    other_operand =
        ap (λ n. is_operand n other) target_mode ∙ (ap (λ o. is_value_class (class_of_code o.code) && (is_constant_class (class_of_code o.code) || same_mode m o.mode)) (out-roll-Rtx _) ∙
        (ap (λ k. is_value_class k && (is_constant_class k || same_mode m m)) binary ∙ same_itself m))

    pub computed_before : is_within (make 0 (set_effect [] [] target source) start) ≡ true → AllByRecursion CanBeHad (set_effect [] [] target source).needs →
        Equated (i ∷ []) (Insns (made f i (set_rtx (fresh m next) (const_of z) ∷ set_rtx target other ∷ []))) live
    computed_before small had =
        constant_before f place i live at are nowhere few plain shaped target source pattern m w z other w moded wide (ap width_of target_mode ∙ wide) inner.1.0 (const_operand m z) other_well
        (well_set target other target_place.0 target_place.1 other_operand wells.0 other_well) same small had
