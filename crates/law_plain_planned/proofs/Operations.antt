-- A difference, a product, a quotient or a remainder by a constant: the constant is set into a new register before.
use Rattle.std.proofs.Common.{◌≡◌, ◌<◌, ◌^◌, ℕ, ◌+◌, pos, Bool, true, false, not, ◌&&◌, ◌||◌, List, [], ◌∷◌, ◌++◌, codes, Option, Some, None, Ok, refl, sym, ap, subst, ◌∙◌}
use Rattle.std.proofs.lemmas.Bool.{and_from}
use Rattle.std.specs.Prelude.{ℤ, slice_get, find, flat_map, option_map, option_and_then, if◌then◌else◌}
use Rattle.std.specs.List.{list_all}
use Rattle.rtx_tree.specs.declared.class.Class.TheVariants as class
use Rattle.rtx_tree.specs.declared.code.Code.{Code}
use Rattle.rtx_tree.specs.declared.code.Code.TheVariants as code
use Rattle.rtx_tree.specs.declared.code.Mode.{Mode}
use Rattle.rtx_tree.specs.declared.code.Mode.TheVariants.{Void, SI, DI}
use Rattle.rtx_tree.specs.declared.tree.Rtx.{Rtx, out-Rtx, out-roll-Rtx}
use Rattle.rtx_tree.specs.Code.{class_of_code, mode_or}
use Rattle.rtx_tree.specs.Patterns.{set_rtx}
use Rattle.rtx_tree.specs.Tree.{node_of, const_of}
use Rattle.rtl_func.specs.Shapes.{has_mode}
use Rattle.md_operand.specs.Operand.{is_constant, is_constant_code, is_register, is_register_by, register_operand}
use Rattle.md_operand.specs.Operand as operands
use Rattle.md_match.specs.Pattern.{Ops, role_of, gives_number, placeholders, placeholders_as, instantiated_as, all_some}
use Rattle.md_match.specs.declared.role.Role.TheVariants.{Itself}
use Rattle.md_recog.specs.Match.{Accepts}
use Rattle.md_text.specs.declared.template.Template.{Template}
use Rattle.md_forms.specs.declared.form.OperandConstraint.{OperandConstraint}
use Rattle.md_pred.specs.Holds.{holds}
use Rattle.plain_forms.specs.Makers.{insn, sets, of_two}
use Rattle.plain_forms.specs.Parts as parts
use Rattle.plain_forms.specs.Forms as plain
use Rattle.plain_forms.specs.Forms.{plain_forms}
use Rattle.rtx_open.proofs.Expressions.{Written, node, none, with, rtx}
use Rattle.text_words.specs.Words.{fits_i64}
use Rattle.std_name.specs.declared.standard.Standard.{Standard}
use Rattle.std_name.specs.declared.standard.StandardOperand.{StandardOperand}
use Rattle.std_name.specs.Names.{standard_of}
use Rattle.std_name.specs.Operands.{fits, target, input, is_leaf, is_target, mode_in, mode_by}
use Rattle.lower_insn.specs.declared.part.Plan.{Plan}
use Rattle.lower_insn.specs.declared.part.Prepared.{Prepared}
use Rattle.lower_insn.specs.Lowered.{IsMatched, IsUnmatched}
use Rattle.lower_insn.specs.Plan.{plan, planned, planned_as, planned_by, prepared_for, numbered, behind_addresses}
use Rattle.lower_insn.specs.Settings.{prepared, unchanged, joined, nothing, input_set, with_tree, with_comparisons, addressed, fitted}
use Rattle.law_plain_leaves.proofs.Shaped.{two_of}
use Rattle.law_plain_operands.proofs.Plain.{have_plain}
use Rattle.law_plain_matches.proofs.Patterns.{operand, asked, filled}
use Rattle.law_plain_matches.proofs.Sets.{set_of}
use Rattle.law_plain_taken.proofs.Takes.{register_for_0}
use Rattle.law_plain_matched.specs.Matched.{IsConstantOf, takes_registers, is_word, Register}
use Rattle.law_plain_matched.proofs.Found.{Has, listed, among_arithmetic}
use Rattle.law_plain_matched.proofs.Moves as moves
use Rattle.law_plain_matched.proofs.Operations.{binary_matched}
use Rattle.law_plain_planned.specs.Planned.{new}
use Rattle.law_plain_planned.proofs.Steps.{HasPlan, one_before}
use Rattle.law_plain_planned.proofs.Named.{IsNamed, named_first}
use Rattle.law_plain_planned.proofs.Named as named
use Rattle.law_plain_planned.proofs.Registers.{Lawful, new_accepted}
use Rattle.law_plain_planned.proofs.Registers as registers
use Rattle.law_plain_planned.proofs.Fitted.{Addressless, of_register, of_constant, all_addressed, placeholders_are, three_ps, find_0, find_1, find_2, stays, set_before, one_more}
use Rattle.law_plain_planned.proofs.Standard.{binary_is, binary_name, binary_operands, register_no_pc, register_leaf, constant_leaf}
use Rattle.law_plain_planned.proofs.Emitted.{pattern_at, emits_one}

-- ---- a constant

pub const_constant : (z : ℤ) → is_constant (const_of z) ≡ true
const_constant z = ap (λ o. is_constant_code o.code) (out-roll-Rtx _)

pub const_no_register : (m : Mode) (z : ℤ) → register_operand m (const_of z) ≡ false
const_no_register m z = ap (λ o. is_register_by o.code (const_of z) o.kids && operands.has_mode m (const_of z)) (out-roll-Rtx _)

pub const_mode : (m : Mode) (z : ℤ) → mode_in m (const_of z) ≡ m
const_mode m z = ap (λ o. mode_by (class_of_code o.code) m o.mode) (out-roll-Rtx _)

-- a mode of words
word_moded : (m : Mode) → is_word m ≡ true → (list_all has_mode (m ∷ []) ≡ true) × (mode_or m m ≡ m) × (moves.IsMoved m)
word_moded SI is = (refl, refl, tt)
word_moded DI is = (refl, refl, tt)
word_moded _ is = absurd (let no : ⊥ = cc in no)

-- a constant is set into a new register
pub constant_set : (m : Mode) (next : ℕ) (x : Rtx) → moves.IsMoved m → IsConstantOf m x → IsMatched plain_forms (set_rtx (new m next) x)
constant_set m next x moved k =
    let place = new_accepted m next in
    let constant : operands.const_int_operand m x ≡ true =
    ap (operands.const_int_operand m) k.is ∙ and_from (is_constant (const_of k.value)) (operands.is_extended m (out-Rtx (const_of k.value)).number) (const_constant k.value) (ap (λ o. operands.is_extended m o.number) (out-roll-Rtx _) ∙ k.within) in
    moves.moved m moved (new m next) x (moves.register_set m (new m next) place) (moves.constant_moved m x constant)
    (moves.first_true (register_operand m (new m next)) (holds plain_forms (codes "reg_or_0_operand") x m) place)

-- ---- an operation

module _ (c : Code) (m : Mode) (word : is_word m ≡ true) (role : role_of c ≡ Itself) (binary : class_of_code c ≡ class.Binary) (q : List ℕ) (left : (y : Rtx) → register_operand m y ≡ true → holds plain_forms q y m ≡ true)
    (k : ℕ) (name : List ℕ) (constraints : List OperandConstraint) (template : Template) (first : IsNamed (binary_name c m) k)
    (at : slice_get listed k ≡ Some (insn name (sets m (of_two c m (parts.operand q 1 m) (parts.register 2 m))) constraints template))
    (has : Has plain_forms (insn name (sets m (of_two c m (parts.operand q 1 m) (parts.register 2 m))) constraints template)) where
  abbrev pattern : Written
  pattern = set_of (operand (codes "register_operand") 0 m) (node c m (pos 0) [] (with (operand q 1 m) (with (operand (codes "register_operand") 2 m) none)))

  abbrev ps : List Rtx
  ps = three_ps (codes "register_operand") m q m (codes "register_operand") m

  asked_ps : asked pattern ≡ ps
  asked_ps =
      let a = rtx (operand q 1 m) in
      let b = rtx (operand (codes "register_operand") 2 m) in
      ap (λ x. rtx (operand (codes "register_operand") 0 m) ∷ (placeholders_as x (node_of c m (a ∷ b ∷ [])) (a ∷ b ∷ []) ++ [])) role

  module _ (target_tree a other : Rtx) (next : ℕ) (is_target_register : register_operand m target_tree ≡ true) (fits_target : fits_i64 (out-Rtx target_tree).number ≡ true) (is_left : register_operand m a ≡ true) (constant : IsConstantOf m other) where
    abbrev insn_is : Rtx
    insn_is = set_rtx target_tree (node_of c m (a ∷ other ∷ []))

    abbrev made : Rtx
    made = set_rtx target_tree (node_of c m (a ∷ new m next ∷ []))

    abbrev all : List StandardOperand
    all = binary_operands m target_tree a other

    abbrev third : StandardOperand
    third = input m other

    is_const : is_constant other ≡ true
    is_const = ap is_constant constant.is ∙ const_constant constant.value

    target_is_register : is_register target_tree ≡ true
    target_is_register = (two_of (is_register target_tree) (operands.has_mode m target_tree) is_target_register).0

    left_is_register : is_register a ≡ true
    left_is_register = (two_of (is_register a) (operands.has_mode m a) is_left).0

    all_fit : list_all fits all ≡ true
    all_fit =
        and_from (is_target target_tree) _ (registers.is_target target_tree fits_target target_is_register)
        (and_from (is_leaf a) _ (register_leaf a left_is_register) (and_from (is_leaf other) true (constant_leaf other is_const) refl))

    standard : standard_of insn_is ≡ Some (record { name = binary_name c m; operands = all })
    standard = binary_is c m target_tree a other binary (register_no_pc target_tree target_is_register) (word_moded m word).0 all_fit

    -- the operands
    abbrev accepts : Accepts
    accepts = holds plain_forms

    abbrev patterns : List Rtx
    patterns = rtx pattern ∷ []

    abbrev wanted : Prepared
    wanted = joined (unchanged (target target_tree) next) (joined (unchanged (input m a) next) (joined (input_set m third next) (nothing (next + 1))))

    none_addressed : addressed all next ≡ prepared [] all [] next
    none_addressed = all_addressed all next (of_register (target target_tree) target_is_register, (of_register (input m a) left_is_register, (of_constant third is_const, tt)))

    found : (j : ℕ) (p : Rtx) → find (gives_number j) ps ≡ Some p → find (gives_number j) (flat_map placeholders patterns) ≡ Some p
    found j p is = ap (find (gives_number j)) (placeholders_are pattern ps asked_ps) ∙ is

    refused : accepts (codes "register_operand") other m ≡ false
    refused = ap (register_operand m) constant.is ∙ const_no_register m constant.value

    fit : fitted accepts patterns false 0 all next ≡ Some wanted
    fit =
        let r = codes "register_operand" in
        one_more accepts patterns 0 (target target_tree) (input m a ∷ third ∷ []) next (unchanged (target target_tree) next) _ (stays accepts patterns 0 (target target_tree) next r m (found 0 _ (find_0 r m q m r m)) is_target_register)
        (one_more accepts patterns 1 (input m a) (third ∷ []) next (unchanged (input m a) next) _ (stays accepts patterns 1 (input m a) next q m (found 1 _ (find_1 r m q m r m)) (left a is_left))
        (one_more accepts patterns 2 third [] next (input_set m third next) (nothing (next + 1))
        (set_before accepts patterns 2 third next r m (found 2 _ (find_2 r m q m r m)) refused refl (ap (mode_in m) constant.is ∙ const_mode m constant.value) (word_moded m word).1) refl))

    abbrev made_ready : Prepared
    made_ready = prepared (set_rtx (new m next) other ∷ []) (target target_tree ∷ input m a ∷ with_tree third (new m next) ∷ []) [] (next + 1)

    ready : prepared_for accepts patterns false all next ≡ Some made_ready
    ready =
        ap (λ (p : Prepared). option_and_then (with_comparisons accepts patterns) (option_map (behind_addresses p) (fitted accepts patterns false 0 p.operands p.next))) none_addressed ∙
        ap (λ (o : Option Prepared). option_and_then (with_comparisons accepts patterns) (option_map (behind_addresses (prepared [] all [] next)) o)) fit

    is_planned : planned plain_forms false insn_is next ≡ Some (plan k made_ready)
    is_planned =
        let std : Standard = record { name = binary_name c m; operands = all } in
        ap (option_and_then (planned_as plain_forms false next)) standard ∙
        (ap (option_and_then (planned_by plain_forms false std next)) (named_first (binary_name c m) k first (numbered all)) ∙
        (ap (λ (xs : List Rtx). option_map (plan k) (prepared_for accepts xs false all next)) (pattern_at k name pattern constraints template at) ∙ ap (option_map (plan k)) ready))

    -- what it comes to
    abbrev set_of_two : Option Rtx → Option Rtx
    set_of_two x = option_map (λ xs. node_of code.Set Void xs) (all_some (Some target_tree ∷ x ∷ []))

    abbrev ops : Ops
    ops = Some target_tree ∷ Some a ∷ Some (new m next) ∷ []

    made_filled : filled ops pattern ≡ Some made
    made_filled = ap (λ r. set_of_two (instantiated_as r ops (record { code = c; mode = m; number = pos 0; name = [] }) (Some (a ∷ new m next ∷ [])))) role

    pub operation_planned : Lawful made → HasPlan insn_is next (set_rtx (new m next) other ∷ made ∷ [])
    operation_planned lawful = record {
      plan = plan k made_ready;
      is = is_planned;
      comes = λ uids answer lowers.
          one_before uids insn_is (set_rtx (new m next) other) made k ops 0 (next + 1) answer (emits_one k name pattern constraints template at ops made (next + 1) made_filled lawful)
          (constant_set m next other (word_moded m word).2 constant)
          (binary_matched name m c role q m constraints template (codes "register_operand") m has target_tree a (new m next) is_target_register (left a is_left) (new_accepted m next)) lowers;
    }
