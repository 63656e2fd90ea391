-- A branch on a comparison with a constant other than 0: the constant is set into a new register before.
use Rattle.std.proofs.Common.{◌≡◌, ◌<◌, ◌^◌, ℕ, ◌+◌, pos, Bool, true, false, not, ◌&&◌, ◌||◌, List, [], ◌∷◌, ◌++◌, codes, Option, Some, None, Ok, refl, sym, ap, subst, ◌∙◌}
use Rattle.std.proofs.lemmas.Bool.{and_from}
use Rattle.std.specs.Prelude.{ℤ, slice_get, find, flat_map, option_map, option_and_then, if◌then◌else◌}
use Rattle.std.specs.Option.{option_map_or}
use Rattle.std.specs.Ordering.{int_eq}
use Rattle.std.specs.List.{list_all}
use Rattle.rtx_tree.specs.declared.class.Class.{Class}
use Rattle.rtx_tree.specs.declared.class.Class.TheVariants as class
use Rattle.rtx_tree.specs.declared.code.Code.{Code}
use Rattle.rtx_tree.specs.declared.code.Code.TheVariants as code
use Rattle.rtx_tree.specs.declared.code.Mode.{Mode}
use Rattle.rtx_tree.specs.declared.code.Mode.TheVariants.{Void, DI}
use Rattle.rtx_tree.specs.declared.tree.Rtx.{Rtx, out-Rtx, out-roll-Rtx}
use Rattle.rtx_tree.specs.Code.{class_of_code, is_comparison_class}
use Rattle.rtx_tree.specs.Patterns.{set_rtx, is_pc_code}
use Rattle.rtx_tree.specs.Tree.{RtxHead, head_of, kids_of, tree_of, leaf_of, node_of, const_of}
use Rattle.rtx_tree.proofs.Trees.{head_of-tree, kids_of-tree}
use Rattle.rtl_func.specs.Shapes.{is_constant_class, mode_at}
use Rattle.rtl_func.specs.Shapes as shapes
use Rattle.md_operand.specs.Operand.{is_constant, is_constant_code, is_comparison, is_comparison_code, is_register, is_register_by, register_operand, accepts_mode}
use Rattle.md_operand.specs.Operand as operands
use Rattle.md_match.specs.Pattern.{Ops, gives, gives_number, placeholders}
use Rattle.md_recog.specs.Match.{Accepts, names_predicate}
use Rattle.md_text.specs.declared.template.Print.TheVariants as print
use Rattle.md_text.specs.declared.template.Template.TheVariants.{One}
use Rattle.md_pred.specs.Holds.{holds}
use Rattle.gen_emit.specs.declared.emission.Emission.{Emission}
use Rattle.gen_emit.specs.Emission.{emission}
use Rattle.form_needs.specs.Needs.{lower_facts}
use Rattle.pred_expr.specs.Texts.{always}
use Rattle.plain_forms.specs.Makers.{insn}
use Rattle.plain_forms.specs.Parts as parts
use Rattle.plain_forms.specs.Forms as plain
use Rattle.plain_forms.specs.Forms.{plain_forms}
use Rattle.rtx_open.proofs.Expressions.{Written, rtx, outside_is}
use Rattle.std_name.specs.declared.standard.Standard.{Standard}
use Rattle.std_name.specs.declared.standard.StandardOperand.{StandardOperand}
use Rattle.std_name.specs.Names.{standard_of, pattern_row, go_row, value_row, branch_by, row, row_where, compared, compared_mode, letters}
use Rattle.std_name.specs.Operands.{fits, input, comparison, fixed, is_leaf, mode_in}
use Rattle.lower_insn.specs.declared.part.Prepared.{Prepared}
use Rattle.lower_insn.specs.Lowered.{IsMatched, IsUnmatched}
use Rattle.lower_insn.specs.Plan.{plan, planned, planned_as, planned_by, prepared_for, numbered, behind_addresses, emission_of}
use Rattle.lower_insn.specs.Settings.{prepared, unchanged, joined, nothing, input_set, with_tree, with_comparisons, with_operands, addressed, addressed_by, fitted, fitted_at, fitted_one, replaced_by, refuses, takes}
use Rattle.rtx_tree.specs.Code.{mode_or}
use Rattle.law_plain_leaves.proofs.Shaped.{two_of}
use Rattle.law_plain_leaves.proofs.Leaves.{mode_is}
use Rattle.law_plain_operands.proofs.Plain.{have_plain}
use Rattle.law_plain_matches.proofs.Patterns.{operand, filled}
use Rattle.law_plain_taken.proofs.Conditions.{always_met}
use Rattle.law_plain_taken.proofs.Takes.{register_for_0}
use Rattle.law_plain_taken.proofs.Leads as leads
use Rattle.law_plain_taken.proofs.Leads.{tests, branch_pattern, branch_made}
use Rattle.law_plain_matched.specs.Matched.{IsNonzero, choice, of_operands}
use Rattle.law_plain_matched.proofs.Found.{listed, matched, among_jumps}
use Rattle.law_plain_planned.specs.Planned.{new}
use Rattle.law_plain_planned.proofs.Steps.{HasPlan, one_before}
use Rattle.law_plain_planned.proofs.Named.{named_first}
use Rattle.law_plain_planned.proofs.Named as named
use Rattle.law_plain_planned.proofs.Registers.{Lawful, new_accepted}
use Rattle.law_plain_planned.proofs.Fitted.{of_register, of_constant, all_addressed, placeholders_are, step_find, gives_other, stays, set_before, one_more}
use Rattle.law_plain_planned.proofs.Standard.{row_is, register_leaf, constant_leaf}
use Rattle.law_plain_planned.proofs.Operations.{const_constant, const_mode, constant_set}
use Rattle.law_plain_planned.proofs.Emitted.{pattern_at, emits_one}

-- ---- codes

pub class_is : (k : Class) → is_comparison_class k ≡ true → k ≡ class.Comparison
class_is class.Comparison is = refl
class_is _ is = absurd (let no : ⊥ = cc in no)

pub comparison_addressed : (c : Code) (kids : List Rtx) (operand : StandardOperand) (next : ℕ) → class_of_code c ≡ class.Comparison → addressed_by c kids operand next ≡ unchanged operand next
comparison_addressed code.Mem kids operand next is = absurd (let no : ⊥ = cc in no)
comparison_addressed _ kids operand next is = refl

pub constant_class : (c : Code) → is_constant_code c ≡ true → is_constant_class (class_of_code c) ≡ true
constant_class code.ConstInt is = refl
constant_class _ is = absurd (let no : ⊥ = cc in no)

pub register_class : (c : Code) (x : Rtx) (kids : List Rtx) → is_register_by c x kids ≡ true → is_constant_class (class_of_code c) ≡ false
register_class code.Reg x kids is = refl
register_class code.Subreg x kids is = refl
register_class _ x kids is = absurd (let no : ⊥ = cc in no)

abbrev pub pc : Rtx
pc = leaf_of code.Pc Void (pos 0)

module _ (test a other uid : Rtx) (next : ℕ) (compares : is_comparison test ≡ true) (is_left : register_operand DI a ≡ true) (nonzero : IsNonzero DI other) (uid_constant : is_constant uid ≡ true) where
  -- the comparison of a register and another operand
  abbrev of : Rtx → Rtx
  of y = tree_of (head_of test) (a ∷ y ∷ [])

  head_is : (y : Rtx) → head_of (of y) ≡ head_of test
  head_is y = head_of-tree (head_of test) (a ∷ y ∷ [])

  kids_are : (y : Rtx) → kids_of (of y) ≡ a ∷ y ∷ []
  kids_are y = kids_of-tree (head_of test) (a ∷ y ∷ [])

  of_class : class_of_code (head_of test).code ≡ class.Comparison
  of_class = class_is (class_of_code (head_of test).code) compares

  here_class : (y : Rtx) → class_of_code (head_of (of y)).code ≡ class.Comparison
  here_class y = ap (λ (h : RtxHead). class_of_code h.code) (head_is y) ∙ of_class

  abbrev label : Rtx
  label = node_of code.LabelRef Void (uid ∷ [])

  abbrev branch_on : Rtx → Rtx
  branch_on t = set_rtx pc (choice t uid)

  abbrev z : ℤ
  z = nonzero.constant.value

  is_const : is_constant other ≡ true
  is_const = ap is_constant nonzero.constant.is ∙ const_constant z

  left_is_register : is_register a ≡ true
  left_is_register = (two_of (is_register a) (operands.has_mode DI a) is_left).0

  -- ---- the name

  abbrev all_in : Mode → List StandardOperand
  all_in n = comparison (of other) ∷ input n a ∷ input n other ∷ fixed uid ∷ []

  abbrev all : List StandardOperand
  all = all_in DI

  abbrev named_row : Mode → Option Standard
  named_row n = row (codes "cbranch") (n ∷ []) (codes "4") (all_in n)

  mode_of_left : compared_mode a other ≡ DI
  mode_of_left =
      ap (λ b. if b then mode_at other else mode_at a) (register_class (out-Rtx a).code a (out-Rtx a).kids left_is_register) ∙
      mode_is DI (mode_at a) refl (two_of (is_register a) (operands.has_mode DI a) is_left).1

  all_fit : list_all fits all ≡ true
  all_fit = and_from (is_leaf a) _ (register_leaf a left_is_register) (and_from (is_leaf other) true (constant_leaf other is_const) refl)

  standard : standard_of (branch_on (of other)) ≡ Some (record { name = codes "cbranchdi4"; operands = all })
  standard =
      let t = of other in
      let source = choice t uid in
      ap (λ o. pattern_row (class_of_code o.code) o.kids) (out-roll-Rtx _) ∙
      (ap (λ o. if is_pc_code o.code then go_row (class_of_code (out-Rtx source).code) (kids_of source) else value_row (class_of_code (out-Rtx source).code) pc source (kids_of source)) (out-roll-Rtx _) ∙
      (ap (λ o. go_row (class_of_code o.code) o.kids) (out-roll-Rtx _) ∙
      (ap (λ o. row_where (is_pc_code o.code) (branch_by (class_of_code (out-Rtx t).code) t (kids_of t) (class_of_code (out-Rtx label).code) (kids_of label))) (out-roll-Rtx _) ∙
      (ap (λ o. branch_by (class_of_code (out-Rtx t).code) t (kids_of t) (class_of_code o.code) o.kids) (out-roll-Rtx _) ∙
      (ap (λ r. branch_by r t (kids_of t) class.Label (uid ∷ [])) (here_class other) ∙
      (ap (λ ks. branch_by class.Comparison t ks class.Label (uid ∷ [])) (kids_are other) ∙
      (ap (λ b. row_where b (named_row (compared_mode a other))) (constant_class (out-Rtx uid).code uid_constant) ∙
      (ap named_row mode_of_left ∙ row_is (codes "cbranch") (DI ∷ []) (codes "4") all refl all_fit))))))))

  -- ---- its operands

  abbrev accepts : Accepts
  accepts = holds plain_forms

  abbrev test_name : List ℕ
  test_name = codes "ordered_comparison_operator"

  abbrev r : List ℕ
  r = codes "register_operand"

  abbrev s : List ℕ
  s = codes "reg_or_0_operand"

  abbrev pattern : Written
  pattern = branch_pattern test_name r DI s DI

  abbrev patterns : List Rtx
  patterns = rtx pattern ∷ []

  abbrev operator : Rtx
  operator = rtx (tests test_name r DI s DI)

  abbrev first : Rtx
  first = rtx (operand r 1 DI)

  abbrev second : Rtx
  second = rtx (operand s 2 DI)

  abbrev fourth : Rtx
  fourth = rtx (operand [] 3 Void)

  abbrev ps : List Rtx
  ps = operator ∷ first ∷ second ∷ fourth ∷ []

  operator_gives : (j : ℕ) → gives_number j operator ≡ int_eq (pos 0) (pos j)
  operator_gives j = ap (λ o. gives o.code && int_eq o.number (pos j)) (outside_is (tests test_name r DI s DI))

  found : (j : ℕ) (p : Rtx) → find (gives_number j) ps ≡ Some p → find (gives_number j) (flat_map placeholders patterns) ≡ Some p
  found j p is = ap (find (gives_number j)) (placeholders_are pattern ps refl) ∙ is

  found_0 : find (gives_number 0) (flat_map placeholders patterns) ≡ Some operator
  found_0 = found 0 operator (step_find 0 operator (first ∷ second ∷ fourth ∷ []) true (operator_gives 0))

  found_1 : find (gives_number 1) (flat_map placeholders patterns) ≡ Some first
  found_1 = found 1 first (step_find 1 operator (first ∷ second ∷ fourth ∷ []) false (operator_gives 1) ∙ step_find 1 first (second ∷ fourth ∷ []) true (gives_other r 1 DI 1))

  found_2 : find (gives_number 2) (flat_map placeholders patterns) ≡ Some second
  found_2 =
      found 2 second (step_find 2 operator (first ∷ second ∷ fourth ∷ []) false (operator_gives 2) ∙
      (step_find 2 first (second ∷ fourth ∷ []) false (gives_other r 1 DI 2) ∙ step_find 2 second (fourth ∷ []) true (gives_other s 2 DI 2)))

  found_3 : find (gives_number 3) (flat_map placeholders patterns) ≡ Some fourth
  found_3 =
      found 3 fourth (step_find 3 operator (first ∷ second ∷ fourth ∷ []) false (operator_gives 3) ∙
      (step_find 3 first (second ∷ fourth ∷ []) false (gives_other r 1 DI 3) ∙ (step_find 3 second (fourth ∷ []) false (gives_other s 2 DI 3) ∙ step_find 3 fourth [] true (gives_other [] 3 Void 3))))

  -- a comparison is taken
  compared_taken : (y : Rtx) → head_of y ≡ head_of test → refuses accepts operator y ≡ false
  compared_taken y same =
      ap (λ o. names_predicate o.code && not (accepts o.name y o.mode)) (outside_is (tests test_name r DI s DI)) ∙
      ap not (and_from (is_comparison y) true (ap (λ (h : RtxHead). is_comparison_code h.code) same ∙ compares) refl)

  operator_stays : fitted_one accepts patterns false 0 (comparison (of other)) next ≡ Some (unchanged (comparison (of other)) next)
  operator_stays =
      let x = comparison (of other) in
      ap (λ (o : Option Rtx). option_map_or (fitted_at accepts false x next) o (Some (unchanged x next))) found_0 ∙
      ap (λ b. if b then replaced_by x.role (mode_or x.mode (head_of operator).mode) x next else Some (unchanged x next)) (compared_taken (of other) (head_is other))

  none_addressed : addressed all next ≡ prepared [] all [] next
  none_addressed =
      all_addressed all next (
        (λ n. comparison_addressed (out-Rtx (of other)).code (kids_of (of other)) (comparison (of other)) n (here_class other)),
        (of_register (input DI a) left_is_register, (of_constant (input DI other) is_const, (of_constant (fixed uid) uid_constant, tt))),
      )

  abbrev third : StandardOperand
  third = input DI other

  abbrev wanted : Prepared
  wanted =
      joined (unchanged (comparison (of other)) next) (joined (unchanged (input DI a) next) (joined (input_set DI third next) (joined (unchanged (fixed uid) (next + 1)) (nothing (next + 1)))))

  -- the constant is not 0, as else the branch would be matched
  taken : (y : Rtx) → accepts s y DI ≡ true → IsMatched plain_forms (branch_on (of y))
  taken y is =
      let whole : of y ≡ tree_of (head_of (of y)) (a ∷ y ∷ []) = ap (λ (h : RtxHead). tree_of h (a ∷ y ∷ [])) (sym (head_is y)) in
      let accepted : (is_comparison (of y) && true) ≡ true = and_from (is_comparison (of y)) true (ap (λ (h : RtxHead). is_comparison_code h.code) (head_is y) ∙ compares) refl in
      subst (λ t. IsMatched plain_forms (branch_on t)) (sym whole)
      (matched plain_forms (insn (codes "cbranchdi4") (plain.branches (parts.comparison 0 (parts.register 1 DI) (parts.register_or_0 2 DI))) (parts.takes 1 (parts.r ∷ []) ∷ parts.takes 2 (parts.rJ ∷ []) ∷ parts.takes 3 [] ∷ []) (One plain.branch_line)) _
      (branch_made (of y) a y uid) _ (among_jumps 0 _ refl) refl refl
      (leads.branch (holds plain_forms) lower_facts always test_name r DI s DI (of y) a y uid whole accepted is_left is refl (always_met (holds plain_forms) lower_facts (Some (of y) ∷ Some a ∷ Some y ∷ Some uid ∷ []))))

  no_zero : IsUnmatched plain_forms (branch_on (of other)) → accepts s other DI ≡ false
  no_zero unmatched = go (accepts s other DI) refl
    where
      go : (b : Bool) → accepts s other DI ≡ b → accepts s other DI ≡ false
      go true is = let found = taken other is in absurd (unmatched found.form found.operands found.matches)
      go false is = is

  fit : IsUnmatched plain_forms (branch_on (of other)) → fitted accepts patterns false 0 all next ≡ Some wanted
  fit unmatched =
      one_more accepts patterns 0 (comparison (of other)) (input DI a ∷ third ∷ fixed uid ∷ []) next (unchanged (comparison (of other)) next) _ operator_stays
      (one_more accepts patterns 1 (input DI a) (third ∷ fixed uid ∷ []) next (unchanged (input DI a) next) _ (stays accepts patterns 1 (input DI a) next r DI found_1 is_left)
      (one_more accepts patterns 2 third (fixed uid ∷ []) next (input_set DI third next) _
      (set_before accepts patterns 2 third next s DI found_2 (no_zero unmatched) refl (ap (mode_in DI) nonzero.constant.is ∙ const_mode DI z) refl)
      (one_more accepts patterns 3 (fixed uid) [] (next + 1) (unchanged (fixed uid) (next + 1)) (nothing (next + 1)) (stays accepts patterns 3 (fixed uid) (next + 1) [] Void found_3 refl) refl)))

  -- the comparison is made of the new register
  abbrev fresh : Rtx
  fresh = new DI next

  abbrev again : Rtx
  again = tree_of (head_of (of other)) (a ∷ fresh ∷ [])

  again_head : head_of again ≡ head_of test
  again_head = head_of-tree (head_of (of other)) (a ∷ fresh ∷ []) ∙ head_is other

  abbrev ready : Prepared
  ready =
      prepared (set_rtx fresh other ∷ []) (with_tree (comparison (of other)) again ∷ input DI a ∷ with_tree third fresh ∷ fixed uid ∷ []) [] (next + 1)

  abbrev behind : Prepared
  behind = prepared (set_rtx fresh other ∷ []) (comparison (of other) ∷ input DI a ∷ with_tree third fresh ∷ fixed uid ∷ []) [] (next + 1)

  takes_it : takes accepts patterns 0 again ≡ true
  takes_it = ap (λ (o : Option Rtx). option_map_or (λ p. not (refuses accepts p again)) o true) found_0 ∙ ap not (compared_taken again again_head)

  is_ready : IsUnmatched plain_forms (branch_on (of other)) → prepared_for accepts patterns false all next ≡ Some ready
  is_ready unmatched =
      ap (λ (p : Prepared). option_and_then (with_comparisons accepts patterns) (option_map (behind_addresses p) (fitted accepts patterns false 0 p.operands p.next))) none_addressed ∙
      (ap (λ (o : Option Prepared). option_and_then (with_comparisons accepts patterns) (option_map (behind_addresses (prepared [] all [] next)) o)) (fit unmatched) ∙
      ap (λ b. if b && true then Some ready else None) takes_it)

  line_at : slice_get listed 93 ≡ Some (insn (codes "cbranchdi4") (rtx pattern) (parts.takes 1 (parts.r ∷ []) ∷ parts.takes 2 (parts.rJ ∷ []) ∷ parts.takes 3 [] ∷ []) (One plain.branch_line))
  line_at = refl

  is_planned : IsUnmatched plain_forms (branch_on (of other)) → planned plain_forms false (branch_on (of other)) next ≡ Some (plan 93 ready)
  is_planned unmatched =
      let std : Standard = record { name = codes "cbranchdi4"; operands = all } in
      ap (option_and_then (planned_as plain_forms false next)) standard ∙
      (ap (option_and_then (planned_by plain_forms false std next)) (named_first (codes "cbranchdi4") 93 named.branches_di (numbered all)) ∙
      (ap (λ (xs : List Rtx). option_map (plan 93) (prepared_for accepts xs false all next))
      (pattern_at 93 (codes "cbranchdi4") pattern (parts.takes 1 (parts.r ∷ []) ∷ parts.takes 2 (parts.rJ ∷ []) ∷ parts.takes 3 [] ∷ []) (One plain.branch_line) line_at) ∙ ap (option_map (plan 93)) (is_ready unmatched)))

  -- ---- what it comes to

  abbrev ops : Ops
  ops = Some again ∷ Some a ∷ Some fresh ∷ Some uid ∷ []

  abbrev made : Rtx
  made = branch_on (of fresh)

  made_filled : filled ops pattern ≡ Some made
  made_filled =
      let same : filled ops pattern ≡ Some (branch_made again a fresh uid) = refl in
      same ∙ ap (λ (h : RtxHead). Some (branch_on (tree_of h (a ∷ fresh ∷ [])))) again_head

  pub branch_planned : Lawful made → IsUnmatched plain_forms (branch_on (of other)) → HasPlan (branch_on (of other)) next (set_rtx fresh other ∷ made ∷ [])
  branch_planned lawful unmatched = record {
    plan = plan 93 ready;
    is = is_planned unmatched;
    comes = λ uids answer lowers.
        one_before uids (branch_on (of other)) (set_rtx fresh other) made 93 ops 0 (next + 1) answer
        (emits_one 93 (codes "cbranchdi4") pattern (parts.takes 1 (parts.r ∷ []) ∷ parts.takes 2 (parts.rJ ∷ []) ∷ parts.takes 3 [] ∷ []) (One plain.branch_line) line_at ops made (next + 1) made_filled lawful)
        (constant_set DI next other tt nonzero.constant) (taken fresh (register_for_0 plain_forms have_plain DI fresh (new_accepted DI next))) lowers;
  }
