-- A constant other than 0 is stored: it is set into a new register before.
use Rattle.std.proofs.Common.{◌≡◌, ◌<◌, ◌^◌, ℕ, ◌+◌, pos, Bool, true, false, not, ◌&&◌, ◌||◌, List, [], ◌∷◌, ◌++◌, codes, Option, Some, None, Ok, refl, sym, ap, subst, ◌∙◌}
use Rattle.std.proofs.lemmas.Bool.{and_from}
use Rattle.std.specs.Prelude.{ℤ, slice_get, find, flat_map, option_map, option_and_then, if◌then◌else◌}
use Rattle.std.specs.Int.{cast_unsigned, w64}
use Rattle.std.specs.List.{list_all}
use Rattle.rtx_tree.specs.declared.code.Code.{Code}
use Rattle.rtx_tree.specs.declared.code.Code.TheVariants as code
use Rattle.rtx_tree.specs.declared.code.Mode.{Mode}
use Rattle.rtx_tree.specs.declared.code.Mode.TheVariants.{Void, QI, HI, SI, DI}
use Rattle.rtx_tree.specs.declared.tree.Rtx.{Rtx, out-Rtx, out-roll-Rtx}
use Rattle.rtx_tree.specs.Code.{class_of_code, is_place_class}
use Rattle.rtx_tree.specs.Patterns.{set_rtx}
use Rattle.rtx_tree.specs.Tree.{const_of, kids_of}
use Rattle.rtl_func.specs.Shapes.{has_mode, mode_at, number_at}
use Rattle.md_operand.specs.Operand.{accepts, is_constant, is_constant_code, is_memory, is_memory_by, is_register_by, register_operand, memory_operand}
use Rattle.md_operand.specs.Operand as operands
use Rattle.md_operand.specs.declared.built_in.BuiltIn.TheVariants as own
use Rattle.md_match.specs.Pattern.{Ops, gives_number, placeholders}
use Rattle.md_recog.specs.Match.{Accepts}
use Rattle.md_pred.specs.Holds.{holds}
use Rattle.gen_emit.specs.Values.{is_register, is_register_code}
use Rattle.plain_forms.specs.Forms as plain
use Rattle.plain_forms.specs.Forms.{plain_forms}
use Rattle.rtx_open.proofs.Expressions.{Written, rtx}
use Rattle.std_name.specs.declared.standard.Standard.{Standard}
use Rattle.std_name.specs.declared.standard.StandardOperand.{StandardOperand}
use Rattle.std_name.specs.Names.{standard_of, value_row, row, row_where, letters, move_row}
use Rattle.std_name.specs.Operands.{fits, target, input, is_leaf, is_target, is_vars, is_vars_by}
use Rattle.lower_insn.specs.declared.part.Prepared.{Prepared}
use Rattle.lower_insn.specs.Lowered.{IsMatched, IsUnmatched}
use Rattle.lower_insn.specs.Plan.{plan, planned, planned_as, planned_by, prepared_for, numbered, behind_addresses}
use Rattle.lower_insn.specs.Settings.{prepared, unchanged, joined, nothing, address_set, addressed_by, addressed, fitted, with_comparisons}
use Rattle.law_plain_leaves.proofs.Shaped.{two_of}
use Rattle.law_plain_leaves.proofs.Leaves.{mode_is}
use Rattle.law_plain_operands.proofs.Plain.{have_plain}
use Rattle.law_plain_matches.proofs.Patterns.{operand}
use Rattle.law_plain_matches.proofs.Sets.{set_of}
use Rattle.law_plain_taken.proofs.Takes.{register_for_0}
use Rattle.law_plain_matched.specs.Matched.{IsNonzero, is_some_mode}
use Rattle.law_plain_matched.proofs.Found.{listed}
use Rattle.law_plain_matched.proofs.Moves as moves
use Rattle.law_plain_planned.specs.Planned.{new}
use Rattle.law_plain_planned.proofs.Steps.{HasPlan, both_emitted}
use Rattle.law_plain_planned.proofs.Named.{IsNamed, named_first}
use Rattle.law_plain_planned.proofs.Named as named
use Rattle.law_plain_planned.proofs.Registers.{Lawful, new_accepted}
use Rattle.law_plain_planned.proofs.Fitted.{Addressless, of_constant, all_addressed, placeholders_are, step_find, gives_other, stays, one_more}
use Rattle.law_plain_planned.proofs.Standard.{set_is, row_is, memory_no_pc, constant_leaf}
use Rattle.law_plain_planned.proofs.Operations.{const_constant, constant_set}
use Rattle.law_plain_planned.proofs.Forced.{move_pattern, emits_both}

-- ---- memory

memory_register : (c : Code) (x : Rtx) (kids : List Rtx) → is_memory_by c kids ≡ true → is_register_by c x kids ≡ false
memory_register code.Mem x kids is = refl
memory_register _ x kids is = absurd (let no : ⊥ = cc in no)

memory_target : (c : Code) (kids : List Rtx) (n : ℕ) → is_memory_by c kids ≡ true → (is_place_class (class_of_code c) && not (is_vars_by (class_of_code c) n)) ≡ true
memory_target code.Mem kids n is = refl
memory_target _ kids n is = absurd (let no : ⊥ = cc in no)

memory_addressed : (c : Code) (kids : List Rtx) (operand : StandardOperand) (next : ℕ) → is_memory_by c kids ≡ true → addressed_by c kids operand next ≡ unchanged operand next
memory_addressed code.Mem (address ∷ []) operand next is = ap (λ b. if b then unchanged operand next else address_set operand address next) is
memory_addressed code.Mem [] operand next is = absurd (let no : ⊥ = cc in no)
memory_addressed code.Mem (a ∷ b ∷ kids) operand next is = absurd (let no : ⊥ = cc in no)
memory_addressed _ kids operand next is = absurd (let no : ⊥ = cc in no)

-- ---- modes

moded : (m : Mode) → moves.IsMoved m → has_mode m ≡ true
moded Void never = absurd never
moded QI is = refl
moded HI is = refl
moded SI is = refl
moded DI is = refl

-- ---- a constant

const_vars : (z : ℤ) → not (is_vars (const_of z)) ≡ true
const_vars z = ap (λ o. not (is_vars_by (class_of_code o.code) (cast_unsigned w64 o.number))) (out-roll-Rtx _)

const_no_register : (z : ℤ) → is_register (const_of z) ≡ false
const_no_register z = ap (λ o. is_register_code o.code) (out-roll-Rtx _)

module _ (m : Mode) (moved : moves.IsMoved m) (k : ℕ) (first : IsNamed (codes "mov" ++ (flat_map letters (m ∷ []) ++ [])) k) (at : slice_get listed k ≡ Some (plain.moved m))
    (place c : Rtx) (next : ℕ) (memory : accepts own.Memory m place ≡ true) (nonzero : IsNonzero m c) where
  abbrev insn_is : Rtx
  insn_is = set_rtx place c

  abbrev z : ℤ
  z = nonzero.constant.value

  abbrev of_memory : (is_memory place ≡ true) × (operands.has_mode m place ≡ true)
  of_memory = two_of (is_memory place) (operands.has_mode m place) memory

  place_mode : mode_at place ≡ m
  place_mode = mode_is m (mode_at place) (moded m moved) of_memory.1

  is_const : is_constant c ≡ true
  is_const = ap is_constant nonzero.constant.is ∙ const_constant z

  -- ---- the name

  abbrev all_in : Mode → List StandardOperand
  all_in n = target place ∷ input n c ∷ []

  abbrev all : List StandardOperand
  all = all_in m

  all_fit : list_all fits all ≡ true
  all_fit = and_from (is_target place) _ (memory_target (out-Rtx place).code (out-Rtx place).kids (number_at place) of_memory.0) (and_from (is_leaf c) true (constant_leaf c is_const) refl)

  abbrev name : List ℕ
  name = codes "mov" ++ (flat_map letters (m ∷ []) ++ [])

  abbrev moved_row : Rtx → Option Standard
  moved_row y = row_where (not (is_vars y)) (row (codes "mov") (mode_at place ∷ []) [] (target place ∷ input (mode_at place) y ∷ []))

  standard : standard_of insn_is ≡ Some (record { name = name; operands = all })
  standard =
      set_is place c (memory_no_pc place of_memory.0) ∙ (ap (λ y. value_row (class_of_code (out-Rtx y).code) place y (kids_of y)) nonzero.constant.is ∙
      (ap (λ o. value_row (class_of_code o.code) place (const_of z) o.kids) (out-roll-Rtx _) ∙ (ap moved_row (sym nonzero.constant.is) ∙
      (ap (λ b. row_where b (row (codes "mov") (mode_at place ∷ []) [] (all_in (mode_at place)))) (ap (λ y. not (is_vars y)) nonzero.constant.is ∙ const_vars z) ∙
      (ap (λ n. row (codes "mov") (n ∷ []) [] (all_in n)) place_mode ∙ row_is (codes "mov") (m ∷ []) [] all (and_from (has_mode m) true (moded m moved) refl) all_fit)))))

  -- ---- its operands

  abbrev takes : Accepts
  takes = holds plain_forms

  abbrev pattern : Written
  pattern = set_of (operand (codes "nonimmediate_operand") 0 m) (operand (codes "general_operand") 1 m)

  abbrev patterns : List Rtx
  patterns = rtx pattern ∷ []

  abbrev p : Rtx
  p = rtx (operand (codes "nonimmediate_operand") 0 m)

  abbrev q : Rtx
  q = rtx (operand (codes "general_operand") 1 m)

  found_0 : find (gives_number 0) (flat_map placeholders patterns) ≡ Some p
  found_0 = ap (find (gives_number 0)) (placeholders_are pattern (p ∷ q ∷ []) refl) ∙ step_find 0 p (q ∷ []) true (gives_other (codes "nonimmediate_operand") 0 m 0)

  found_1 : find (gives_number 1) (flat_map placeholders patterns) ≡ Some q
  found_1 =
      ap (find (gives_number 1)) (placeholders_are pattern (p ∷ q ∷ []) refl) ∙
      (step_find 1 p (q ∷ []) false (gives_other (codes "nonimmediate_operand") 0 m 1) ∙ step_find 1 q [] true (gives_other (codes "general_operand") 1 m 1))

  none_addressed : addressed all next ≡ prepared [] all [] next
  none_addressed = all_addressed all next ((λ n. memory_addressed (out-Rtx place).code (kids_of place) (target place) n of_memory.0), (of_constant (input m c) is_const, tt))

  constant_taken : accepts own.ConstInt m c ≡ true
  constant_taken =
      ap (operands.const_int_operand m) nonzero.constant.is ∙
      and_from (is_constant (const_of z)) (operands.is_extended m (out-Rtx (const_of z)).number) (const_constant z) (ap (λ o. operands.is_extended m o.number) (out-roll-Rtx _) ∙ nonzero.constant.within)

  fit : fitted takes patterns false 0 all next ≡ Some (joined (unchanged (target place) next) (joined (unchanged (input m c) next) (nothing next)))
  fit =
      one_more takes patterns 0 (target place) (input m c ∷ []) next (unchanged (target place) next) _
      (stays takes patterns 0 (target place) next (codes "nonimmediate_operand") m found_0 (moves.memory_set m place memory))
      (one_more takes patterns 1 (input m c) [] next (unchanged (input m c) next) (nothing next)
      (stays takes patterns 1 (input m c) next (codes "general_operand") m found_1 (moves.constant_moved m c constant_taken)) refl)

  abbrev ready : Prepared
  ready = prepared [] all [] next

  is_ready : prepared_for takes patterns false all next ≡ Some ready
  is_ready =
      ap (λ (x : Prepared). option_and_then (with_comparisons takes patterns) (option_map (behind_addresses x) (fitted takes patterns false 0 x.operands x.next))) none_addressed ∙
      ap (λ (o : Option Prepared). option_and_then (with_comparisons takes patterns) (option_map (behind_addresses (prepared [] all [] next)) o)) fit

  is_planned : planned plain_forms false insn_is next ≡ Some (plan k ready)
  is_planned =
      let std : Standard = record { name = name; operands = all } in
      ap (option_and_then (planned_as plain_forms false next)) standard ∙
      (ap (option_and_then (planned_by plain_forms false std next)) (named_first name k first (numbered all)) ∙
      (ap (λ (xs : List Rtx). option_map (plan k) (prepared_for takes xs false all next)) (move_pattern m k at place c next) ∙ ap (option_map (plan k)) is_ready))

  -- ---- what it comes to

  no_register : takes (codes "register_operand") place m ≡ false
  no_register = ap (λ b. b && operands.has_mode m place) (memory_register (out-Rtx place).code place (out-Rtx place).kids of_memory.0)

  -- the constant is not 0, as else the move would be matched
  no_zero : IsUnmatched plain_forms insn_is → takes (codes "reg_or_0_operand") c m ≡ false
  no_zero unmatched = go (takes (codes "reg_or_0_operand") c m) refl
    where
      never : takes (codes "reg_or_0_operand") c m ≡ true → ⊥
      never is =
          let found : IsMatched plain_forms insn_is =
          moves.moved m moved place c (moves.memory_set m place memory) (moves.constant_moved m c constant_taken) (moves.second_true (register_operand m place) (takes (codes "reg_or_0_operand") c m) is) in
          unmatched found.form found.operands found.matches

      go : (b : Bool) → takes (codes "reg_or_0_operand") c m ≡ b → takes (codes "reg_or_0_operand") c m ≡ false
      go true is = absurd (never is)
      go false is = is

  abbrev before : Rtx
  before = set_rtx (new m next) c

  abbrev stored : Rtx
  stored = set_rtx place (new m next)

  stored_matched : IsMatched plain_forms stored
  stored_matched =
      let fresh = new_accepted m next in
      moves.moved m moved place (new m next) (moves.memory_set m place memory) (moves.register_moved m (new m next) fresh)
      (moves.second_true (register_operand m place) (takes (codes "reg_or_0_operand") (new m next) m) (register_for_0 plain_forms have_plain m (new m next) fresh))

  pub store_planned : Lawful before → Lawful stored → IsUnmatched plain_forms insn_is → HasPlan insn_is next (before ∷ stored ∷ [])
  store_planned one other unmatched = record {
    plan = plan k ready;
    is = is_planned;
    comes = λ uids answer lowers.
        both_emitted uids insn_is before stored k (Some place ∷ Some c ∷ []) 0 next (next + 1) answer
        (emits_both m k at place c next no_register (no_zero unmatched) (ap is_register nonzero.constant.is ∙ const_no_register z) one other)
        (constant_set m next c moved nonzero.constant) stored_matched lowers;
  }
