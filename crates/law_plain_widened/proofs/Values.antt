-- A register that is set to a comparison in SI: the form, its operands, and what they come to.
use Rattle.std.proofs.Common.{◌≡◌, ℕ, ◌+◌, Bool, true, false, not, ◌&&◌, List, [], ◌∷◌, ◌++◌, codes, Option, Some, None, Ok, refl, ap, ◌∙◌}
use Rattle.std.proofs.lemmas.Bool.{and_from}
use Rattle.std.specs.Prelude.{slice_get, option_map, option_and_then, if◌then◌else◌}
use Rattle.std.specs.Option.{option_map_or}
use Rattle.std.specs.List.{list_all}
use Rattle.rtx_tree.specs.declared.class.Class.TheVariants as class
use Rattle.rtx_tree.specs.declared.code.Mode.{Mode}
use Rattle.rtx_tree.specs.declared.code.Mode.TheVariants.{Void, SI, DI}
use Rattle.rtx_tree.specs.declared.tree.Rtx.{Rtx, out-Rtx}
use Rattle.rtx_tree.specs.Code.{class_of_code, mode_or}
use Rattle.rtx_tree.specs.Patterns.{set_rtx}
use Rattle.rtx_tree.specs.Tree.{RtxHead, head_of, kids_of, tree_of}
use Rattle.rtx_tree.proofs.Trees.{head_of-tree, kids_of-tree}
use Rattle.rtl_func.specs.Shapes.{mode_at}
use Rattle.text_words.specs.Words.{fits_i64}
use Rattle.md_operand.specs.Operand.{is_comparison, is_comparison_code, is_register, register_operand}
use Rattle.md_operand.specs.Operand as operands
use Rattle.md_match.specs.Pattern.{Ops}
use Rattle.md_recog.specs.Match.{Accepts}
use Rattle.md_pred.specs.Holds.{holds}
use Rattle.gen_emit.specs.Emission.{emission}
use Rattle.plain_forms.specs.Conditions as condition
use Rattle.plain_forms.specs.Makers.{expand}
use Rattle.plain_forms.specs.Forms.{plain_forms}
use Rattle.rtx_open.proofs.Expressions.{rtx}
use Rattle.std_name.specs.declared.standard.Standard.{Standard}
use Rattle.std_name.specs.declared.standard.StandardOperand.{StandardOperand}
use Rattle.std_name.specs.Names.{standard_of, value_row, row, compared_mode}
use Rattle.std_name.specs.Operands.{fits, target, input, comparison, is_leaf, is_target, mode_in}
use Rattle.lower_insn.specs.declared.part.Prepared.{Prepared}
use Rattle.lower_insn.specs.Lowered.{IsMatched}
use Rattle.lower_insn.specs.Plan.{plan, planned, planned_as, planned_by, prepared_for, numbered, behind_addresses, emission_of}
use Rattle.lower_insn.specs.Settings.{prepared, unchanged, joined, nothing, input_set, with_tree, with_comparisons, addressed, fitted, fitted_one, fitted_at, replaced_by, takes, refuses}
use Rattle.law_plain_leaves.proofs.Shaped.{two_of}
use Rattle.law_plain_leaves.proofs.Leaves.{mode_is}
use Rattle.law_plain_matched.specs.Matched.{IsConstantOf, of_operands}
use Rattle.law_plain_matched.proofs.Found.{listed}
use Rattle.law_plain_planned.specs.Planned.{new}
use Rattle.law_plain_planned.proofs.Steps.{HasPlan, three_emitted, three_behind}
use Rattle.law_plain_planned.proofs.Named.{named_first}
use Rattle.law_plain_planned.proofs.Named as named
use Rattle.law_plain_planned.proofs.Registers.{Lawful, new_accepted}
use Rattle.law_plain_planned.proofs.Registers as registers
use Rattle.law_plain_planned.proofs.Fitted.{Addressless, of_register, all_addressed, stays, set_before, one_more}
use Rattle.law_plain_planned.proofs.Standard.{set_is, row_is, register_no_pc, register_leaf}
use Rattle.law_plain_planned.proofs.Operations.{const_mode, const_no_register, constant_set}
use Rattle.law_plain_planned.proofs.Branches.{class_is, comparison_addressed, register_class}
use Rattle.law_plain_widened.specs.Widened.{extends}
use Rattle.law_plain_widened.proofs.Placeholders.{r, widens, operator, value_set, value_patterns, comparison_taken, value_0, value_1, value_2, value_3}
use Rattle.law_plain_widened.proofs.Emits.{operands_of, with_new, three_patterns, emits_three}
use Rattle.law_plain_widened.proofs.Matches.{extension_matched}

module _ (m : Mode) (place test a other : Rtx) (next : ℕ) (is_place : register_operand m place ≡ true) (place_fits : fits_i64 (out-Rtx place).number ≡ true) (compares : is_comparison test ≡ true)
    (is_left : register_operand SI a ≡ true) (other_leaf : is_leaf other ≡ true) (other_addressed : Addressless (input SI other)) where
  abbrev of : Rtx → Rtx → Rtx
  of y z = of_operands test y z

  abbrev t : Rtx
  t = of a other

  abbrev set_on : Rtx → Rtx → Rtx
  set_on y z = set_rtx place (of y z)

  head_is : (y z : Rtx) → head_of (of y z) ≡ head_of test
  head_is y z = head_of-tree (head_of test) (y ∷ z ∷ [])

  here_class : class_of_code (head_of t).code ≡ class.Comparison
  here_class = ap (λ (h : RtxHead). class_of_code h.code) (head_is a other) ∙ class_is (class_of_code (head_of test).code) compares

  compares_too : (y : Rtx) → head_of y ≡ head_of test → is_comparison y ≡ true
  compares_too y same = ap (λ (h : RtxHead). is_comparison_code h.code) same ∙ compares

  place_register : is_register place ≡ true
  place_register = (two_of (is_register place) (operands.has_mode m place) is_place).0

  left_register : is_register a ≡ true
  left_register = (two_of (is_register a) (operands.has_mode SI a) is_left).0

  -- ---- the name

  abbrev all_in : Mode → List StandardOperand
  all_in n = target place ∷ comparison t ∷ input n a ∷ input n other ∷ []

  abbrev all : List StandardOperand
  all = all_in SI

  mode_of_left : compared_mode a other ≡ SI
  mode_of_left =
      ap (λ b. if b then mode_at other else mode_at a) (register_class (out-Rtx a).code a (out-Rtx a).kids left_register) ∙
      mode_is SI (mode_at a) refl (two_of (is_register a) (operands.has_mode SI a) is_left).1

  all_fit : list_all fits all ≡ true
  all_fit =
      and_from (is_target place) _ (registers.is_target place place_fits place_register) (and_from (is_leaf a) _ (register_leaf a left_register) (and_from (is_leaf other) true other_leaf refl))

  standard : standard_of (set_on a other) ≡ Some (record { name = codes "cstoresi4"; operands = all })
  standard =
      set_is place t (register_no_pc place place_register) ∙
      (ap (λ k. value_row k place t (kids_of t)) here_class ∙
      (ap (λ ks. value_row class.Comparison place t ks) (kids_of-tree (head_of test) (a ∷ other ∷ [])) ∙
      (ap (λ n. row (codes "cstore") (n ∷ []) (codes "4") (all_in n)) mode_of_left ∙ row_is (codes "cstore") (SI ∷ []) (codes "4") all refl all_fit)))

  -- ---- its operands

  abbrev accepts : Accepts
  accepts = holds plain_forms

  place_stays : fitted_one accepts value_patterns false 0 (target place) next ≡ Some (unchanged (target place) next)
  place_stays = stays accepts value_patterns 0 (target place) next r Void value_0 (and_from (is_register place) true place_register refl)

  test_stays : fitted_one accepts value_patterns false 1 (comparison t) next ≡ Some (unchanged (comparison t) next)
  test_stays =
      let x = comparison t in
      ap (λ (o : Option Rtx). option_map_or (fitted_at accepts false x next) o (Some (unchanged x next))) value_1 ∙
      ap (λ b. if b then replaced_by x.role (mode_or x.mode (head_of (rtx (operator 1))).mode) x next else Some (unchanged x next)) (comparison_taken 1 t (compares_too t (head_is a other)))

  left_stays : fitted_one accepts value_patterns false 2 (input SI a) next ≡ Some (unchanged (input SI a) next)
  left_stays = stays accepts value_patterns 2 (input SI a) next r SI value_2 is_left

  none_addressed : addressed all next ≡ prepared [] all [] next
  none_addressed =
      all_addressed all next (
        of_register (target place) place_register,
        (
          (λ n. comparison_addressed (out-Rtx t).code (kids_of t) (comparison t) n here_class),
          (of_register (input SI a) left_register, (other_addressed, tt)),
        ),
      )

  -- the first three, and what the last comes to
  fit : (last : Prepared) → fitted_one accepts value_patterns false 3 (input SI other) next ≡ Some last →
      fitted accepts value_patterns false 0 all next ≡
      Some (joined (unchanged (target place) next) (joined (unchanged (comparison t) next) (joined (unchanged (input SI a) next) (joined last (nothing last.next)))))
  fit last is =
      one_more accepts value_patterns 0 (target place) (comparison t ∷ input SI a ∷ input SI other ∷ []) next (unchanged (target place) next) _ place_stays
      (one_more accepts value_patterns 1 (comparison t) (input SI a ∷ input SI other ∷ []) next (unchanged (comparison t) next) _ test_stays
      (one_more accepts value_patterns 2 (input SI a) (input SI other ∷ []) next (unchanged (input SI a) next) _ left_stays
      (one_more accepts value_patterns 3 (input SI other) [] next last (nothing last.next) is refl)))

  -- the comparison is made of the operands
  abbrev again : Rtx → Rtx
  again y = tree_of (head_of t) (a ∷ y ∷ [])

  again_head : (y : Rtx) → head_of (again y) ≡ head_of test
  again_head y = head_of-tree (head_of t) (a ∷ y ∷ []) ∙ head_is a other

  takes_it : (y : Rtx) → takes accepts value_patterns 1 (again y) ≡ true
  takes_it y =
      ap (λ (o : Option Rtx). option_map_or (λ p. not (refuses accepts p (again y))) o true) value_1 ∙ ap not (comparison_taken 1 (again y) (compares_too (again y) (again_head y)))

  at : slice_get listed 92 ≡ Some (expand (codes "cstoresi4") (rtx (widens 4 2) ∷ rtx (widens 5 3) ∷ rtx value_set ∷ []) condition.makes_registers)
  at = refl

  planned_with : (ready : Prepared) → prepared_for accepts value_patterns false all next ≡ Some ready → planned plain_forms false (set_on a other) next ≡ Some (plan 92 ready)
  planned_with ready is =
      let std : Standard = record { name = codes "cstoresi4"; operands = all } in
      ap (option_and_then (planned_as plain_forms false next)) standard ∙
      (ap (option_and_then (planned_by plain_forms false std next)) (named_first (codes "cstoresi4") 92 named.stores_si (numbered all)) ∙
      (ap (λ (xs : List Rtx). option_map (plan 92) (prepared_for accepts xs false all next)) (three_patterns 92 (codes "cstoresi4") (widens 4 2) (widens 5 3) value_set at) ∙ ap (option_map (plan 92)) is))

  -- ---- what it comes to

  abbrev first : ℕ → Rtx
  first n = set_rtx (new DI n) (extends a)

  abbrev second : Rtx → ℕ → Rtx
  second y n = set_rtx (new DI (n + 1)) (extends y)

  abbrev third : ℕ → Rtx
  third n = set_on (new DI n) (new DI (n + 1))

  emits : (y : Rtx) (n : ℕ) → Lawful (first n) → Lawful (second y n) → Lawful (third n) →
      emission_of plain_forms 92 (operands_of place (again y) a y) n ≡ Some (emission (first n ∷ second y n ∷ third n ∷ []) (n + 1 + 1))
  emits y n one two three =
      emits_three 92 (codes "cstoresi4") (widens 4 2) (widens 5 3) value_set at place (again y) a y n (first n) (second y n) (third n) refl refl
      (ap (λ (h : RtxHead). Some (set_rtx place (tree_of h (new DI n ∷ new DI (n + 1) ∷ [])))) (again_head y)) one two three

  -- ---- both are registers

  module _ (is_right : register_operand SI other ≡ true) where
    abbrev ready : Prepared
    ready = prepared [] (target place ∷ with_tree (comparison t) (again other) ∷ input SI a ∷ input SI other ∷ []) [] next

    prepares : prepared_for accepts value_patterns false all next ≡ Some ready
    prepares =
        ap (λ (p : Prepared). option_and_then (with_comparisons accepts value_patterns) (option_map (behind_addresses p) (fitted accepts value_patterns false 0 p.operands p.next))) none_addressed ∙
        (ap (λ (o : Option Prepared). option_and_then (with_comparisons accepts value_patterns) (option_map (behind_addresses (prepared [] all [] next)) o))
        (fit (unchanged (input SI other) next) (stays accepts value_patterns 3 (input SI other) next r SI value_3 is_right)) ∙ ap (λ b. if b && true then Some ready else None) (takes_it other))

    pub registers_planned : IsMatched plain_forms (third next) → Lawful (first next) → Lawful (second other next) → Lawful (third next) → HasPlan (set_on a other) next (first next ∷ second other next ∷ third next ∷ [])
    registers_planned is_matched one two three = record {
      plan = plan 92 ready;
      is = planned_with ready prepares;
      comes = λ uids answer lowers.
          three_emitted uids (set_on a other) (first next) (second other next) (third next) 92 (operands_of place (again other) a other) 0 next (next + 1 + 1) answer (emits other next one two three)
          (extension_matched next a is_left) (extension_matched (next + 1) other is_right) is_matched lowers;
    }

  -- ---- the second is a constant

  module _ (k : IsConstantOf SI other) where
    abbrev fresh : Rtx
    fresh = new SI next

    abbrev ready_with : Prepared
    ready_with = prepared (set_rtx fresh other ∷ []) (target place ∷ with_tree (comparison t) (again fresh) ∷ input SI a ∷ with_tree (input SI other) fresh ∷ []) [] (next + 1)

    refused : accepts r other SI ≡ false
    refused = ap (register_operand SI) k.is ∙ const_no_register SI k.value

    prepares_with : prepared_for accepts value_patterns false all next ≡ Some ready_with
    prepares_with =
        ap (λ (p : Prepared). option_and_then (with_comparisons accepts value_patterns) (option_map (behind_addresses p) (fitted accepts value_patterns false 0 p.operands p.next))) none_addressed ∙
        (ap (λ (o : Option Prepared). option_and_then (with_comparisons accepts value_patterns) (option_map (behind_addresses (prepared [] all [] next)) o))
        (fit (input_set SI (input SI other) next) (set_before accepts value_patterns 3 (input SI other) next r SI value_3 refused refl (ap (mode_in SI) k.is ∙ const_mode SI k.value) refl)) ∙
        ap (λ b. if b && true then Some ready_with else None) (takes_it fresh))

    pub constant_planned : IsMatched plain_forms (third (next + 1)) → Lawful (first (next + 1)) → Lawful (second fresh (next + 1)) → Lawful (third (next + 1)) →
        HasPlan (set_on a other) next (set_rtx fresh other ∷ first (next + 1) ∷ second fresh (next + 1) ∷ third (next + 1) ∷ [])
    constant_planned is_matched one two three = record {
      plan = plan 92 ready_with;
      is = planned_with ready_with prepares_with;
      comes = λ uids answer lowers.
          three_behind uids (set_on a other) (set_rtx fresh other) (first (next + 1)) (second fresh (next + 1)) (third (next + 1)) 92 (operands_of place (again fresh) a fresh) 0 (next + 1) (next + 1 + 1 + 1) answer
          (emits fresh (next + 1) one two three) (constant_set SI next other tt k) (extension_matched (next + 1) a is_left) (extension_matched (next + 1 + 1) fresh (new_accepted SI next)) is_matched lowers;
    }
