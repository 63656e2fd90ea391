-- A constant that is set into a new register, and an instruction that has this register in its place, are
-- equated with the instruction, where its terms are within the limit and what it needs can be had.
use Rattle.std.proofs.Common.{◌≡◌, ◌<◌, ◌≤◌, ◌^◌, ℕ, suc, ◌+◌, pos, Bool, true, false, not, ◌&&◌, ◌||◌, List, [], ◌∷◌, Option, Some, None, refl, sym, ap, subst, ◌∙◌, arith}
use Rattle.std.proofs.lemmas.Bool.{and_from, and_parts}
use Rattle.std.specs.Prelude.{ℤ, slice_get}
use Rattle.std.specs.Int.{cast_unsigned, w64}
use Rattle.std.specs.List.{list_any, AllByRecursion}
use Rattle.bits64.specs.declared.Width.{Width}
use Rattle.bits64.specs.declared.Width.TheVariants.{W64}
use Rattle.rtx_tree.specs.Code.{class_of_code, is_value_class, is_constant_class}
use Rattle.rtx_tree.specs.declared.class.Class.TheVariants as class
use Rattle.rtx_tree.specs.declared.code.Code.{Code}
use Rattle.rtx_tree.specs.declared.code.Code.TheVariants as code
use Rattle.rtx_tree.specs.declared.code.Mode.{Mode}
use Rattle.rtx_tree.specs.declared.code.Mode.TheVariants.{Void}
use Rattle.rtx_tree.specs.declared.function.Function.{Function}
use Rattle.rtx_tree.specs.declared.function.Insn.{Insn}
use Rattle.rtx_tree.specs.declared.function.Kind.{Kind}
use Rattle.rtx_tree.specs.declared.function.Kind.TheVariants.{Plain}
use Rattle.rtx_tree.specs.declared.tree.Rtx.{Rtx, out-Rtx, out-roll-Rtx}
use Rattle.rtx_tree.specs.declared.tree.Rtx.TheFolds.{fold-roll-Rtx}
use Rattle.rtx_tree.specs.Patterns.{set_rtx, is_pc}
use Rattle.rtx_tree.specs.Registers.{pseudo, virtual_stack_vars}
use Rattle.rtx_tree.specs.RegSet.{has_reg}
use Rattle.rtx_tree.specs.Tree.{kids_of, node_of, const_of, mentions_reg}
use Rattle.rtl_func.specs.Shapes.{has_mode, is_operand, is_place, mode_at}
use Rattle.rtl_chain.specs.Counts.{greatest_uid, next_pseudo}
use Rattle.rtl_step.specs.Value.{width_of, operator_of}
use Rattle.rtl_step.specs.Effect.{address_of, address_part}
use Rattle.live.specs.Live.{AreLiveAfter}
use Rattle.new_insns.specs.Made.{insn_for}
use Rattle.insn_replace.specs.Replace.{made}
use Rattle.term_tree.specs.Tree.{Tree}
use Rattle.term_mean.specs.Sums.{constant}
use Rattle.sym_state.specs.State.{Changed, start, is_within}
use Rattle.sym_insns.specs.Shape as shape
use Rattle.sym_insns.specs.Shape.{fits_kind}
use Rattle.sym_insns.specs.Value.{Made, Reading, of_operands, made_by, reading_step, reading_of, made_of}
use Rattle.sym_insns.specs.Effects.{Effected, effects_of, set_effect, make}
use Rattle.equate.specs.Side.{Insns}
use Rattle.equate.specs.Equated.{Equated}
use Rattle.law_fresh_registers.specs.Fresh.{IsHandedNowhere}
use Rattle.law_fresh_registers.proofs.Unnamed.{new_unnamed}
use Rattle.law_fresh_registers.proofs.NotLive.{first_none, later_none, parts_none, new_not_live}
use Rattle.law_set_before.specs.Before.{CanBeHad, IsSetBefore}
use Rattle.law_set_before.proofs.Before.{set_before}
use Rattle.law_plain_equated.proofs.Wells.{IsWell, IsWellHere, well_tree, well_parts}
use Rattle.law_plain_equated.proofs.Plains.{well_insn, set_kind, made_fits}
use Rattle.law_plain_equated.proofs.ReadBack.{set_to, made_spared, set_same, set_effects}
use Rattle.law_plain_equated.proofs.News.{fresh, below, number_is, just, constant_made, fresh_made, first_sets, fresh_operand, well_fresh, well_set, well_fresh_set}

-- ---- parts

set_kids : (a b : Rtx) → kids_of (set_rtx a b) ≡ a ∷ b ∷ []
set_kids a b = ap (λ o. o.kids) (out-roll-Rtx _)

address_kids : (c : Code) (kids : List Rtx) (a : Rtx) → address_part c kids ≡ Some a → kids ≡ a ∷ []
address_kids code.Mem (b ∷ []) a is = let same : b ≡ a = cc in ap (λ x. x ∷ []) same
address_kids _ kids a is = absurd (let no : ⊥ = cc in no)

-- an operation on two operands
pub binary_made : (c : Code) → class_of_code c ≡ class.Binary → (regs : List Changed) (m : Mode) (a b : Rtx) (w : Width) →
    made_of regs [] (node_of c m (a ∷ b ∷ [])) w ≡ of_operands [] (operator_of c) w (made_of regs [] a w) (made_of regs [] b w)
binary_made c binary regs m a b w =
    ap (λ (r : Reading). r.made w) (fold-roll-Rtx Reading (reading_step regs []) (record { code = c; mode = m; number = pos 0; name = []; kids = a ∷ b ∷ [] })) ∙
    ap (λ k. made_by regs [] k c (pos 0) [] (reading_of regs [] a ∷ reading_of regs [] b ∷ []) w) binary

-- ---- a constant that is set before

module _ (f : Function) (place : ℕ) (i : Insn) (live : List ℕ) (at : slice_get f.insns place ≡ Some i) (are : AreLiveAfter f place live) (nowhere : IsHandedNowhere f (pseudo (next_pseudo f.insns))) (few : next_pseudo f.insns < 2 ^ 31)
    (plain : i.kind ≡ Plain) (shaped : shape.is_shaped i ≡ true) (target source : Rtx) (pattern : i.pattern ≡ set_rtx target source) where
  abbrev next : ℕ
  next = next_pseudo f.insns

  abbrev alone : Effected
  alone = set_effect [] [] target source

  -- ---- the instruction's own parts

  unnamed : mentions_reg (suc (below next)) (set_rtx target source) ≡ false
  unnamed = let least : next ≤ next = omega arith in ap (λ n. mentions_reg n (set_rtx target source)) (sym (number_is next)) ∙ (ap (mentions_reg (pseudo next)) (sym pattern) ∙ new_unnamed f next place i least at)

  pub parts_unnamed : (mentions_reg (suc (below next)) target ≡ false) × (mentions_reg (suc (below next)) source ≡ false)
  parts_unnamed =
      let reg = suc (below next) in
      let parts = ap (list_any (mentions_reg reg)) (sym (set_kids target source)) ∙ parts_none reg (set_rtx target source) unnamed in
      (first_none (mentions_reg reg target) (mentions_reg reg source || false) parts, first_none (mentions_reg reg source) false (later_none (mentions_reg reg target) (mentions_reg reg source || false) parts))

  whole_well : IsWell (set_rtx target source)
  whole_well = subst IsWell pattern (well_insn i plain shaped)

  pub parts_well : AllByRecursion IsWell (target ∷ source ∷ [])
  parts_well = well_parts (set_rtx target source) (target ∷ source ∷ []) (set_kids target source) whole_well

  spared : (t : Tree) (a : Rtx) → address_of target ≡ Some a → made_of (set_to (below next) t) [] a W64 ≡ made_of [] [] a W64
  spared t a is =
      let kids : kids_of target ≡ a ∷ [] = address_kids (out-Rtx target).code (kids_of target) a is in
      let well = (well_parts target (a ∷ []) kids parts_well.0).0 in
      let parts = ap (list_any (mentions_reg (suc (below next)))) (sym kids) ∙ parts_none (suc (below next)) target parts_unnamed.0 in
      made_spared (below next) t a W64 well.natural (first_none (mentions_reg (suc (below next)) a) false parts)

  dead : has_reg live (suc (below next)) ≡ false
  dead = let least : next ≤ next = omega arith in ap (has_reg live) (sym (number_is next)) ∙ new_not_live f next place live least nowhere are

  -- ---- both instructions

  module _ (m : Mode) (w : Width) (z : ℤ) (other : Rtx) (v : Width) (moded : has_mode m ≡ true) (wide : width_of m ≡ Some w) (target_wide : width_of (out-Rtx target).mode ≡ Some v)
      (constant_well : IsWell (const_of z)) (operand : is_operand m (const_of z) ≡ true) (other_well : IsWell other) (second_well : IsWell (set_rtx target other))
      (same : made_of (set_to (below next) (constant w (cast_unsigned w64 z))) [] other v ≡ made_of [] [] source v) (small : is_within (make 0 alone start) ≡ true) (had : AllByRecursion CanBeHad alone.needs) where
    abbrev value : Tree
    value = constant w (cast_unsigned w64 z)

    abbrev first : Insn
    first = insn_for i (greatest_uid f.insns + 1) (set_rtx (fresh m next) (const_of z))

    abbrev second : Insn
    second = insn_for i i.uid (set_rtx target other)

    first_well : IsWell (set_rtx (fresh m next) (const_of z))
    first_well = well_fresh_set m next (const_of z) moded few operand constant_well

    set : IsSetBefore (below next) value alone i first second
    set = record {
      plain = plain;
      first_plain = set_kind (fresh m next) (const_of z) first_well constant_well;
      second_plain = set_kind target other second_well other_well;
      fits = ap (λ (k : Kind). fits_kind k i true) plain ∙ shaped;
      first_fits = made_fits i (greatest_uid f.insns + 1) (fresh m next) (const_of z) false first_well constant_well;
      second_fits = made_fits i i.uid target other true second_well other_well;
      sets = first_sets m next z w wide;
      alone = ap (effects_of [] []) pattern ∙ set_effects [] target source;
      behind = set_effects (set_to (below next) value) target other ∙ ap (λ (e : Effected). e ∷ []) (set_same (set_to (below next) value) target other source v target_wide same (spared value));
      had = had;
      small_value = refl;
      small = small;
    }

    pub constant_before : Equated (i ∷ []) (Insns (made f i (set_rtx (fresh m next) (const_of z) ∷ set_rtx target other ∷ []))) live
    constant_before = let high : virtual_stack_vars < suc (below next) = omega arith in set_before (below next) value alone i first second live set high dead
