-- A branch on a comparison with a constant: the constant is set into a new register before, and the two are
-- equated with the branch, where its terms are within the limit and what it needs can be had.
use Rattle.std.proofs.Common.{◌≡◌, ◌<◌, ◌≤◌, ◌^◌, ℕ, suc, ◌+◌, pos, Bool, true, false, not, ◌&&◌, ◌||◌, List, [], ◌∷◌, Option, Some, None, is_some, refl, sym, ap, subst, ◌∙◌, arith}
use Rattle.std.proofs.lemmas.Bool.{and_from, and_parts}
use Rattle.std.specs.Prelude.{ℤ, slice_get, if◌then◌else◌, nat_le}
use Rattle.std.specs.Int.{cast_unsigned, w64}
use Rattle.std.specs.List.{list_all, list_any, AllByRecursion}
use Rattle.bits64.specs.declared.Width.{Width}
use Rattle.bits64.specs.declared.Width.TheVariants.{W8, W64}
use Rattle.rtx_tree.specs.Code.{class_of_code, is_effect_class, mode_bits}
use Rattle.rtx_tree.specs.declared.class.Class.TheVariants as class
use Rattle.rtx_tree.specs.declared.code.Code.{Code}
use Rattle.rtx_tree.specs.declared.code.Code.TheVariants as code
use Rattle.rtx_tree.specs.declared.code.Mode.TheVariants.{Void, DI}
use Rattle.rtx_tree.specs.declared.function.Function.{Function}
use Rattle.rtx_tree.specs.declared.function.Insn.{Insn}
use Rattle.rtx_tree.specs.declared.function.Kind.{Kind}
use Rattle.rtx_tree.specs.declared.function.Kind.TheVariants.{Plain, Jump, Call}
use Rattle.rtx_tree.specs.declared.tree.Rtx.{Rtx, out-Rtx, out-roll-Rtx}
use Rattle.rtx_tree.specs.declared.tree.Rtx.TheFolds.{fold-roll-Rtx, fold_out-Rtx}
use Rattle.rtx_tree.specs.Patterns.{set_rtx, is_pc_code}
use Rattle.rtx_tree.specs.Registers.{pseudo, virtual_stack_vars}
use Rattle.rtx_tree.specs.RegSet.{has_reg}
use Rattle.rtx_tree.proofs.Trees.{kids_of-tree}
use Rattle.rtx_tree.specs.Tree.{RtxHead, head_of, kids_of, tree_of, leaf_of, node_of, const_of, mentions_reg}
use Rattle.rtl_func.specs.Calls.{call_result_agrees}
use Rattle.rtl_func.specs.Effects.{parallels_hold_simple, holds_simple_by}
use Rattle.rtl_func.specs.Kinds.{kinds_agree, is_jump_by, is_jump_tree, is_call_tree, is_plain_tree}
use Rattle.rtl_func.specs.Modes.{shapes_agree}
use Rattle.rtl_func.specs.Shapes as shapes
use Rattle.rtl_func.specs.Shapes.{is_shaped, is_effect, is_place, is_operand, is_moded, are_compared, is_bare, fits_row, has_mode, class_at, mode_at, is_comparison_class, is_label_class, is_counter_class, is_jump_source_class, is_call_class}
use Rattle.rtl_func.proofs.AllPass.{all_pass, pass_out, itself}
use Rattle.rtl_chain.specs.Counts.{greatest_uid, next_pseudo}
use Rattle.rtl_step.specs.Value.{width_of, operator_of, relation_in, first_width}
use Rattle.reg_uses.specs.Uses.{is_return, is_return_code}
use Rattle.live.specs.Live.{AreLiveAfter}
use Rattle.new_insns.specs.Made.{kind_of, insn_for}
use Rattle.insn_replace.specs.Replace.{made}
use Rattle.term_tree.specs.Tree.{Tree}
use Rattle.term_mean.specs.Sums.{constant}
use Rattle.sym_state.specs.State.{Changed, State, start, is_within}
use Rattle.sym_state.specs.State.{Jump as Leads}
use Rattle.sym_insns.specs.Shape as shape
use Rattle.sym_insns.specs.Shape.{is_natural, all_natural, fits_kind}
use Rattle.sym_insns.proofs.Shapes.{natural_out}
use Rattle.sym_insns.specs.Value.{Made, Reading, of_compared, of_related, made_by, reading_step, reading_of, made_of}
use Rattle.sym_insns.specs.Effects.{after_jump, jump_by, jump_source, label_by, target_uid, has_target, jumps}
use Rattle.equate.specs.Side.{Insns}
use Rattle.equate.specs.Equated.{Equated}
use Rattle.law_fresh_registers.specs.Fresh.{IsHandedNowhere}
use Rattle.law_fresh_registers.proofs.Unnamed.{new_unnamed}
use Rattle.law_fresh_registers.proofs.NotLive.{first_none, later_none, parts_none, new_not_live}
use Rattle.law_set_before.specs.Before.{CanBeHad, IsSetBeforeJump, goes}
use Rattle.law_set_before.proofs.Jumps.{set_before_jump}
use Rattle.law_plain_matched.specs.Matched.{choice}
use Rattle.law_plain_equated.proofs.Wells.{IsWell, IsSound, sound_of, sound_tree, sound_parts}
use Rattle.law_plain_equated.proofs.Plains.{set_kind, made_fits}
use Rattle.law_plain_equated.proofs.ReadBack.{set_to, made_spared}
use Rattle.law_plain_equated.proofs.News.{fresh, below, number_is, constant_made, fresh_made, first_sets, fresh_operand, const_operand, well_fresh, well_fresh_set, or_first, or_later}

-- ---- what is read of a comparison

reading_width : (regs : List Changed) (x : Rtx) → (reading_of regs [] x).width ≡ width_of (mode_at x)
reading_width regs x = ap (λ (r : Reading). r.width) (fold_out-Rtx Reading (reading_step regs []) x)

pub comparison_made : (h : RtxHead) → class_of_code h.code ≡ class.Comparison → (regs : List Changed) (a b : Rtx) (w v : Width) → width_of (mode_at a) ≡ Some w →
    made_of regs [] (tree_of h (a ∷ b ∷ [])) v ≡ of_related [] (relation_in (operator_of h.code)) w v (made_of regs [] a w) (made_of regs [] b w)
comparison_made h compares regs a b w v wide =
    let one = reading_of regs [] a in
    let two = reading_of regs [] b in
    ap (λ (r : Reading). r.made v) (fold-roll-Rtx Reading (reading_step regs []) (record { code = h.code; mode = h.mode; number = h.number; name = h.name; kids = a ∷ b ∷ [] })) ∙
    (ap (λ k. made_by regs [] k h.code h.number h.name (one ∷ two ∷ []) v) compares ∙ ap (λ o. of_compared [] (first_width o two.width) h.code one two v) (reading_width regs a ∙ wide))

-- ---- what a branch does

abbrev pc : Rtx
pc = leaf_of code.Pc Void (pos 0)

abbrev label : Rtx → Rtx
label uid = node_of code.LabelRef Void (uid ∷ [])

abbrev pub on : Rtx → Rtx → Rtx
on test uid = set_rtx pc (choice test uid)

pub branch_goes : (index : ℕ) (test uid : Rtx) (s : State) → after_jump index (on test uid) s ≡ jumps index (made_of s.regs s.stores test W8) (label uid) s
branch_goes index test uid s =
    let source = choice test uid in
    ap (λ o. jump_by (out-Rtx (jump_source o.kids (on test uid))).code (out-Rtx (jump_source o.kids (on test uid))).kids (jump_source o.kids (on test uid)) index s) (out-roll-Rtx _) ∙
    ap (λ o. jump_by o.code o.kids source index s) (out-roll-Rtx _)

-- where it leads, whatever it tests
pub branch_target : (test uid : Rtx) → has_target (on test uid) ≡ is_some (target_uid (label uid))
branch_target test uid =
    let source = choice test uid in
    ap (λ o. is_some (target_uid (label_by (out-Rtx (jump_source o.kids (on test uid))).code (out-Rtx (jump_source o.kids (on test uid))).kids (jump_source o.kids (on test uid))))) (out-roll-Rtx _) ∙
    ap (λ o. is_some (target_uid (label_by o.code o.kids source))) (out-roll-Rtx _)

branch_stays : (test uid : Rtx) (i : Insn) → i.pattern ≡ on test uid → is_return i ≡ false
branch_stays test uid i is = ap (λ (x : Rtx). is_return_code (out-Rtx x).code) is ∙ ap (λ o. is_return_code o.code) (out-roll-Rtx _)

jump_tree : (test uid : Rtx) → is_jump_tree (on test uid) ≡ true
jump_tree test uid = ap (λ o. is_jump_by (class_of_code o.code) o.kids) (out-roll-Rtx _) ∙ ap (λ o. is_pc_code o.code) (out-roll-Rtx _)

branch_kind : (test uid : Rtx) → kind_of (on test uid) ≡ Jump
branch_kind test uid = ap (λ b. if b then Jump else (if is_call_tree (on test uid) then Call else Plain)) (jump_tree test uid)

-- ---- well-formed branches

choice_kids : (test uid : Rtx) → kids_of (choice test uid) ≡ test ∷ label uid ∷ pc ∷ []
choice_kids test uid = ap (λ o. o.kids) (out-roll-Rtx _)

set_kids : (a b : Rtx) → kids_of (set_rtx a b) ≡ a ∷ b ∷ []
set_kids a b = ap (λ o. o.kids) (out-roll-Rtx _)

-- with another test that is a comparison
branch_sound : (test other uid : Rtx) → is_comparison_class (class_at other) ≡ true → IsSound (on test uid) → IsSound other → IsSound (on other uid)
branch_sound test other uid compares whole sound =
    let outer = sound_parts (on test uid) (pc ∷ choice test uid ∷ []) (set_kids pc (choice test uid)) whole in
    let inner = sound_parts (choice test uid) (test ∷ label uid ∷ pc ∷ []) (choice_kids test uid) outer.1.0 in
    let labelled : is_label_class (class_at (label uid)) ≡ true = ap (λ o. is_label_class (class_of_code o.code)) (out-roll-Rtx _) in
    let counts : is_counter_class (class_at pc) ≡ true = ap (λ o. is_counter_class (class_of_code o.code)) (out-roll-Rtx _) in
    let jumped : is_jump_source_class (class_at (choice other uid)) ≡ true = ap (λ o. is_jump_source_class (class_of_code o.code)) (out-roll-Rtx _) in
    let chosen : IsSound (choice other uid) =
    sound_tree (record { code = code.IfThenElse; mode = Void; number = pos 0; name = [] }) (other ∷ label uid ∷ pc ∷ [])
    (record {
      bare = refl;
      fits = and_from (is_comparison_class (class_at other)) (is_label_class (class_at (label uid)) && is_counter_class (class_at pc)) compares (and_from (is_label_class (class_at (label uid))) (is_counter_class (class_at pc)) labelled counts);
      natural = refl;
      simple = refl;
    })
    (sound, (inner.1.0, (inner.1.1.0, tt))) in
    sound_tree (record { code = code.Set; mode = Void; number = pos 0; name = [] }) (pc ∷ choice other uid ∷ [])
    (record {
      bare = refl;
      fits = or_later (is_place pc && (is_operand (mode_at pc) (choice other uid) || is_call_class (class_at (choice other uid)))) (is_counter_class (class_at pc) && is_jump_source_class (class_at (choice other uid)))
          (and_from (is_counter_class (class_at pc)) (is_jump_source_class (class_at (choice other uid))) counts jumped);
      natural = refl;
      simple = refl;
    })
    (outer.0, (chosen, tt))

-- another second operand of a comparison
compared_sound : (h : RtxHead) (a b c : Rtx) → class_of_code h.code ≡ class.Comparison → (is_moded a && is_operand (mode_at a) c) ≡ true → IsSound (tree_of h (a ∷ b ∷ [])) → IsSound a → IsSound c → IsSound (tree_of h (a ∷ c ∷ []))
compared_sound h a b c compares operand whole first other =
    let n = cast_unsigned w64 h.number in
    let rows : (is_bare (class_of_code h.code) n h.name && fits_row (class_of_code h.code) h.mode n (a ∷ b ∷ [])) ≡ true =
    sym (ap (λ o. is_bare (class_of_code o.code) (cast_unsigned w64 o.number) o.name && fits_row (class_of_code o.code) o.mode (cast_unsigned w64 o.number) o.kids) (out-roll-Rtx _)) ∙ itself is_shaped (tree_of h (a ∷ b ∷ [])) whole.shaped in
    let two = and_parts (is_bare (class_of_code h.code) n h.name) (fits_row (class_of_code h.code) h.mode n (a ∷ b ∷ [])) rows in
    let wide = not (has_mode h.mode) || nat_le 32 (mode_bits h.mode) in
    let row : (wide && are_compared a b) ≡ true = ap (λ k. fits_row k h.mode n (a ∷ b ∷ [])) (sym compares) ∙ two.1 in
    let natural = and_parts (is_natural (head_of (tree_of h (a ∷ b ∷ []))).code (head_of (tree_of h (a ∷ b ∷ []))).number) _ (sym (natural_out (tree_of h (a ∷ b ∷ []))) ∙ whole.natural) in
    sound_tree h (a ∷ c ∷ [])
    (record {
      bare = two.0;
      fits = ap (λ k. fits_row k h.mode n (a ∷ c ∷ [])) compares ∙
          and_from wide (are_compared a c) (and_parts wide (are_compared a b) row).0 (or_first (is_moded a && is_operand (mode_at a) c) (shapes.is_constant a && is_moded c) operand);
      natural = sym (ap (λ o. is_natural o.code o.number) (out-roll-Rtx _)) ∙ natural.0;
      simple = ap (λ k. holds_simple_by k (a ∷ c ∷ [])) compares;
    })
    (first, (other, tt))

-- ---- the instruction

sound_insn : (i : Insn) → i.kind ≡ Jump → fits_kind i.kind i true ≡ true → IsSound i.pattern × (has_target i.pattern ≡ true)
sound_insn i leads fits =
    let p = i.pattern in
    let rest = all_natural p && (call_result_agrees i.kind p i.uses && parallels_hold_simple p) in
    let here : (shape.is_shaped i && (not (is_return i) && (has_target p && true))) ≡ true = ap (λ (k : Kind). fits_kind k i true) (sym leads) ∙ fits in
    let both = and_parts (shape.is_shaped i) (not (is_return i) && (has_target p && true)) here in
    let later = and_parts (not (is_return i)) (has_target p && true) both.1 in
    let first = and_parts (kinds_agree i.kind p) (shapes_agree p && rest) both.0 in
    let second = and_parts (shapes_agree p) rest first.1 in
    let third = and_parts (all_natural p) (call_result_agrees i.kind p i.uses && parallels_hold_simple p) second.1 in (
      record {
        shaped = (and_parts (is_effect p) (all_pass is_shaped p) second.0).1;
        natural = third.0;
        simple = (and_parts (call_result_agrees i.kind p i.uses) (parallels_hold_simple p) third.1).1;
      },
      (and_parts (has_target p) true later.1).0,
    )

branch_fits : (i : Insn) (test uid : Rtx) → i.kind ≡ Jump → i.pattern ≡ on test uid → IsSound (on test uid) → has_target (on test uid) ≡ true → fits_kind i.kind i true ≡ true
branch_fits i test uid leads pattern sound target =
    let p = i.pattern in
    let s : IsSound p = subst IsSound (sym pattern) sound in
    let effect : is_effect p ≡ true = ap is_effect pattern ∙ ap (λ o. is_effect_class (class_of_code o.code)) (out-roll-Rtx _) in
    ap (λ (k : Kind). fits_kind k i true) leads ∙
    and_from (shape.is_shaped i) _
    (and_from (kinds_agree i.kind p) _ (ap (λ (k : Kind). kinds_agree k p) leads ∙ (ap is_jump_tree pattern ∙ jump_tree test uid))
    (and_from (shapes_agree p) _ (and_from (is_effect p) (all_pass is_shaped p) effect s.shaped)
    (and_from (all_natural p) _ s.natural (and_from (call_result_agrees i.kind p i.uses) (parallels_hold_simple p) (ap (λ (k : Kind). call_result_agrees k p i.uses) leads) s.simple))))
    (and_from (not (is_return i)) _ (ap not (branch_stays test uid i pattern)) (and_from (has_target p) true (ap has_target pattern ∙ target) refl))

-- ---- the window

module _ (f : Function) (place : ℕ) (i : Insn) (live : List ℕ) (at : slice_get f.insns place ≡ Some i) (are : AreLiveAfter f place live) (nowhere : IsHandedNowhere f (pseudo (next_pseudo f.insns))) (few : next_pseudo f.insns < 2 ^ 31)
    (leads : i.kind ≡ Jump) (fits : fits_kind i.kind i true ≡ true) (h : RtxHead) (compares : class_of_code h.code ≡ class.Comparison) (a uid : Rtx) (z : ℤ) (pattern : i.pattern ≡ on (tree_of h (a ∷ const_of z ∷ [])) uid)
    (moded : is_moded a ≡ true) (mode : mode_at a ≡ DI) where
  abbrev next : ℕ
  next = next_pseudo f.insns

  abbrev reg : ℕ
  reg = suc (below next)

  abbrev old : Rtx
  old = tree_of h (a ∷ const_of z ∷ [])

  abbrev new_test : Rtx
  new_test = tree_of h (a ∷ fresh DI next ∷ [])

  abbrev value : Tree
  value = constant W64 (cast_unsigned w64 z)

  abbrev alone : Made
  alone = made_of [] [] old W8

  -- ---- its parts

  sound : IsSound (on old uid)
  sound = subst IsSound pattern (sound_insn i leads fits).0

  inside : IsSound old
  inside =
      let outer = sound_parts (on old uid) (pc ∷ choice old uid ∷ []) (set_kids pc (choice old uid)) sound in
      (sound_parts (choice old uid) (old ∷ label uid ∷ pc ∷ []) (choice_kids old uid) outer.1.0).0

  sides : AllByRecursion IsSound (a ∷ const_of z ∷ [])
  sides = sound_parts old (a ∷ const_of z ∷ []) (kids_of-tree h (a ∷ const_of z ∷ [])) inside

  unnamed : mentions_reg reg (on old uid) ≡ false
  unnamed = let least : next ≤ next = omega arith in ap (λ n. mentions_reg n (on old uid)) (sym (number_is next)) ∙ (ap (mentions_reg (pseudo next)) (sym pattern) ∙ new_unnamed f next place i least at)

  a_unnamed : mentions_reg reg a ≡ false
  a_unnamed =
      let outer = ap (list_any (mentions_reg reg)) (sym (set_kids pc (choice old uid))) ∙ parts_none reg (on old uid) unnamed in
      let chosen = first_none (mentions_reg reg (choice old uid)) false (later_none (mentions_reg reg pc) (mentions_reg reg (choice old uid) || false) outer) in
      let inner = ap (list_any (mentions_reg reg)) (sym (choice_kids old uid)) ∙ parts_none reg (choice old uid) chosen in
      let tested = first_none (mentions_reg reg old) (mentions_reg reg (label uid) || (mentions_reg reg pc || false)) inner in
      first_none (mentions_reg reg a) (mentions_reg reg (const_of z) || false) (ap (list_any (mentions_reg reg)) (sym (kids_of-tree h (a ∷ const_of z ∷ []))) ∙ parts_none reg old tested)

  -- ---- what it tests

  same : made_of (set_to (below next) value) [] new_test W8 ≡ alone
  same =
      let regs = set_to (below next) value in
      let wide : width_of (mode_at a) ≡ Some W64 = ap width_of mode in
      let r = relation_in (operator_of h.code) in
      comparison_made h compares regs a (fresh DI next) W64 W8 wide ∙
      (ap (λ (v : Made). of_related [] r W64 W8 v (made_of regs [] (fresh DI next) W64)) (made_spared (below next) value a W64 sides.0.natural a_unnamed) ∙
      (ap (λ (v : Made). of_related [] r W64 W8 (made_of [] [] a W64) v) (fresh_made DI next value W64 refl ∙ sym (constant_made z W64)) ∙ sym (comparison_made h compares [] a (const_of z) W64 W8 wide)))

  -- ---- both instructions

  abbrev first : Insn
  first = insn_for i (greatest_uid f.insns + 1) (set_rtx (fresh DI next) (const_of z))

  abbrev second : Insn
  second = insn_for i i.uid (on new_test uid)

  constant_well : IsWell (const_of z)
  constant_well = record {
    plain = pass_out is_plain_tree (const_of z) ∙ and_from (is_plain_tree (const_of z)) (list_all (all_pass is_plain_tree) (kids_of (const_of z))) (ap (λ o. not (is_jump_by (class_of_code o.code) o.kids || is_call_class (class_of_code o.code))) (out-roll-Rtx _))
        (ap (λ o. list_all (all_pass is_plain_tree) o.kids) (out-roll-Rtx _));
    shaped = sides.1.0.shaped;
    natural = sides.1.0.natural;
    simple = sides.1.0.simple;
  }

  first_well : IsWell (set_rtx (fresh DI next) (const_of z))
  first_well = well_fresh_set DI next (const_of z) refl few (const_operand DI z) constant_well

  new_sound : IsSound new_test
  new_sound =
      let fresh_sound = sound_of (fresh DI next) (well_fresh DI next refl few) in
      compared_sound h a (const_of z) (fresh DI next) compares (and_from (is_moded a) (is_operand (mode_at a) (fresh DI next)) moded (ap (λ n. is_operand n (fresh DI next)) mode ∙ fresh_operand DI next)) inside sides.0 fresh_sound

  second_sound : IsSound (on new_test uid)
  second_sound = branch_sound old new_test uid (ap (λ o. is_comparison_class (class_of_code o.code)) (out-roll-Rtx _) ∙ ap is_comparison_class compares) sound new_sound

  target : has_target (on new_test uid) ≡ true
  target = branch_target new_test uid ∙ (sym (branch_target old uid) ∙ (ap has_target (sym pattern) ∙ (sound_insn i leads fits).1))

  abbrev leads_to : Leads
  leads_to = record { condition = alone.term; target = target_uid (label uid) }

  set : is_within (goes leads_to alone.needs 0 start) ≡ true → AllByRecursion CanBeHad alone.needs → IsSetBeforeJump (below next) value leads_to alone.needs i first second
  set small had = record {
    jumps = leads;
    first_plain = set_kind (fresh DI next) (const_of z) first_well constant_well;
    second_jumps = branch_kind new_test uid;
    fits = fits;
    first_fits = made_fits i (greatest_uid f.insns + 1) (fresh DI next) (const_of z) false first_well constant_well;
    second_fits = branch_fits second new_test uid (branch_kind new_test uid) refl second_sound target;
    sets = first_sets DI next z W64 refl;
    alone = ap (λ (x : Rtx). after_jump 0 x start) pattern ∙ branch_goes 0 old uid start;
    behind = λ s regs stores. branch_goes 1 new_test uid s ∙ ap (λ (m : Made). jumps 1 m (label uid) s)
        (ap (λ r. made_of r s.stores new_test W8) regs ∙ (ap (λ st. made_of (set_to (below next) value) st new_test W8) stores ∙ same));
    had = had;
    small_value = refl;
    small = small;
  }

  dead : has_reg live reg ≡ false
  dead = let least : next ≤ next = omega arith in ap (has_reg live) (sym (number_is next)) ∙ new_not_live f next place live least nowhere are

  pub branched_before : is_within (goes leads_to alone.needs 0 start) ≡ true → AllByRecursion CanBeHad alone.needs → Equated (i ∷ []) (Insns (made f i (set_rtx (fresh DI next) (const_of z) ∷ on new_test uid ∷ []))) live
  branched_before small had =
      let high : virtual_stack_vars < reg = omega arith in set_before_jump (below next) value leads_to alone.needs i first second live (set small had) high dead
