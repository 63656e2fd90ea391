-- Comparisons of values in SI are lowered to comparisons of their extensions.
use Rattle.std.proofs.Common.{◌≡◌, ◌<◌, ◌^◌, ℕ, ◌+◌, pos, true, List, [], ◌∷◌, refl, sym, ap, subst, ◌∙◌, arith}
use Rattle.rtx_tree.specs.declared.code.Code.TheVariants.{SignExtend}
use Rattle.rtx_tree.specs.declared.code.Mode.{Mode}
use Rattle.rtx_tree.specs.declared.code.Mode.TheVariants.{SI, DI}
use Rattle.rtx_tree.specs.declared.tree.Rtx.{Rtx, out-Rtx}
use Rattle.rtx_tree.specs.Patterns.{set_rtx}
use Rattle.rtx_tree.specs.Tree.{RtxHead, head_of, tree_of}
use Rattle.rtx_tree.proofs.Trees.{head_of-tree, kids_of-tree}
use Rattle.rtl_func.specs.Calls.{has_argument}
use Rattle.rtl_func.specs.Shapes.{is_shaped}
use Rattle.text_words.specs.Words.{fits_i64}
use Rattle.md_operand.specs.Operand.{accepts, is_comparison, is_constant, is_register, register_operand}
use Rattle.md_operand.specs.Operand as operands
use Rattle.md_operand.specs.declared.built_in.BuiltIn.TheVariants as own
use Rattle.plain_forms.specs.Forms.{plain_forms}
use Rattle.std_name.specs.Operands.{input, is_leaf}
use Rattle.law_plain_leaves.specs.Machine.{Throughout, AreShaped, ArePrintable, is_printable}
use Rattle.law_plain_leaves.proofs.Shaped.{Each, two_of, parts, itself}
use Rattle.law_plain_leaves.proofs.Apart.{number_fits}
use Rattle.law_plain_matched.specs.Matched.{IsConstantOf, Register, is_word, of_operands, choice}
use Rattle.law_plain_planned.specs.Planned.{new, branch_on}
use Rattle.law_plain_planned.proofs.Steps.{HasPlan, expands}
use Rattle.law_plain_planned.proofs.Registers.{Lawful, stands_by, lawful_tree, new_lawful}
use Rattle.law_plain_planned.proofs.Fitted.{Addressless, of_register, of_constant}
use Rattle.law_plain_planned.proofs.Standard.{register_leaf, constant_leaf}
use Rattle.law_plain_planned.proofs.Operations.{const_constant}
use Rattle.law_plain_planned.proofs.Branches.{pc}
use Rattle.law_plain_planned.proofs.Planned.{set_parts, set_lawful, branch_lawful, choice_parts}
use Rattle.law_plain_widened.specs.Widened.{Comparing, comparing, extends, widened, IsWidened, PlainWidens}
use Rattle.law_plain_widened.proofs.Matches.{value_matched, branch_matched}
use Rattle.law_plain_widened.proofs.Values as values
use Rattle.law_plain_widened.proofs.Branches as branches

-- ---- operands that a comparison may have

right_register : (b : Rtx) → Register SI b → is_register b ≡ true
right_register b is = (two_of (is_register b) (operands.has_mode SI b) is).0

constant_is : (k : Rtx) → IsConstantOf SI k → is_constant k ≡ true
constant_is k c = ap is_constant c.is ∙ const_constant c.value

-- ---- trees whose hard registers are a0 to a7

compared_parts : (h : RtxHead) (a b : Rtx) → Throughout has_argument (tree_of h (a ∷ b ∷ [])) → Throughout has_argument a × Throughout has_argument b
compared_parts h a b all =
    let each = subst (Each has_argument) (kids_of-tree h (a ∷ b ∷ [])) (parts has_argument (tree_of h (a ∷ b ∷ [])) all) in
    (each.0, each.1.0)

both_lawful : (h : RtxHead) (a b c d : Rtx) → Throughout has_argument (tree_of h (a ∷ b ∷ [])) → Lawful c → Lawful d → Lawful (tree_of h (c ∷ d ∷ []))
both_lawful h a b c d all one other =
    let whole = tree_of h (a ∷ b ∷ []) in
    let stands : stands_by h.code h.number ≡ true = sym (ap (λ (g : RtxHead). stands_by g.code g.number) (head_of-tree h (a ∷ b ∷ []))) ∙ itself has_argument whole all in
    lawful_tree h (c ∷ d ∷ []) stands (one, (other, tt))

extends_lawful : (n : ℕ) (a : Rtx) → n < 2 ^ 62 → Lawful a → Lawful (set_rtx (new DI n) (extends a))
extends_lawful n a small lawful =
    set_lawful (new DI n) (extends a) (new_lawful DI n small) (lawful_tree (record { code = SignExtend; mode = DI; number = pos 0; name = [] }) (a ∷ []) refl (lawful, tt))

-- ---- what compares

module _ (next : ℕ) (small : next + 2 < 2 ^ 62) where
  here : next < 2 ^ 62
  here = omega (arith, small)

  after : next + 1 < 2 ^ 62
  after = omega (arith, small)

  last : next + 1 + 1 < 2 ^ 62
  last = omega (arith, small)

  -- the comparison, with new registers
  module _ (test a b : Rtx) (lawful : Throughout has_argument (of_operands test a b)) where
    fresh_lawful : (n k : ℕ) → n < 2 ^ 62 → k < 2 ^ 62 → Lawful (of_operands test (new DI n) (new DI k))
    fresh_lawful n k one other = both_lawful (head_of test) a b (new DI n) (new DI k) lawful (new_lawful DI n one) (new_lawful DI k other)

  -- a register is set to it
  module _ (m : Mode) (place test : Rtx) (word : is_word m ≡ true) (is_place : Register m place) (compares : accepts own.Comparison m test ≡ true) where
    compares_it : is_comparison test ≡ true
    compares_it = (two_of (is_comparison test) (operands.has_mode m test) compares).0

    module _ (a b : Rtx) (left : Register SI a) (shaped : AreShaped (set_rtx place (of_operands test a b))) (printable : ArePrintable (set_rtx place (of_operands test a b)))
        (lawful : Throughout has_argument (set_rtx place (of_operands test a b))) where
      abbrev t : Rtx
      t = of_operands test a b

      abbrev two : Throughout has_argument place × Throughout has_argument t
      two = set_parts has_argument place t lawful

      abbrev printed : Throughout is_printable place × Throughout is_printable t
      printed = set_parts is_printable place t printable

      abbrev shapes : Throughout is_shaped place × Throughout is_shaped t
      shapes = set_parts is_shaped place t shaped

      place_fits : fits_i64 (out-Rtx place).number ≡ true
      place_fits = number_fits place (itself is_printable place printed.0)

      whole_lawful : (n k : ℕ) → n < 2 ^ 62 → k < 2 ^ 62 → Lawful (set_rtx place (of_operands test (new DI n) (new DI k)))
      whole_lawful n k one other = set_lawful place (of_operands test (new DI n) (new DI k)) two.0 (fresh_lawful test a b two.1 n k one other)

      value_registers : Register SI b → HasPlan (set_rtx place t) next (widened next (Comparing.value m place test word is_place compares) a b)
      value_registers right =
          let is_right = right_register b right in
          let sides = compared_parts (head_of test) a b two.1 in
          values.registers_planned m place test a b next is_place place_fits compares_it left (register_leaf b is_right) (of_register (input SI b) is_right) right
          (value_matched m word place test is_place compares a b shapes.1 printed.1 next (next + 1)) (extends_lawful next a here sides.0) (extends_lawful (next + 1) b after sides.1) (whole_lawful next (next + 1) here after)

      value_constant : IsConstantOf SI b → HasPlan (set_rtx place t) next (set_rtx (new SI next) b ∷ widened (next + 1) (Comparing.value m place test word is_place compares) a (new SI next))
      value_constant k =
          let is_const = constant_is b k in
          let sides = compared_parts (head_of test) a b two.1 in
          values.constant_planned m place test a b next is_place place_fits compares_it left (constant_leaf b is_const) (of_constant (input SI b) is_const) k
          (value_matched m word place test is_place compares a b shapes.1 printed.1 (next + 1) (next + 1 + 1)) (extends_lawful (next + 1) a after sides.0) (extends_lawful (next + 1 + 1) (new SI next) last (new_lawful SI next here))
          (whole_lawful (next + 1) (next + 1 + 1) after last)

  -- a branch on it
  module _ (test uid : Rtx) (uid_constant : is_constant uid ≡ true) (compares : is_comparison test ≡ true) (a b : Rtx) (left : Register SI a) (lawful : Throughout has_argument (branch_on (of_operands test a b) uid)) where
    abbrev compared : Rtx
    compared = of_operands test a b

    test_lawful : Throughout has_argument compared
    test_lawful = (choice_parts compared uid (set_parts has_argument pc (choice compared uid) lawful).1).0

    branched_lawful : (n k : ℕ) → n < 2 ^ 62 → k < 2 ^ 62 → Lawful (branch_on (of_operands test (new DI n) (new DI k)) uid)
    branched_lawful n k one other = branch_lawful compared (of_operands test (new DI n) (new DI k)) uid lawful (λ all. fresh_lawful test a b all n k one other)

    branch_registers : Register SI b → HasPlan (branch_on compared uid) next (widened next (Comparing.branch test uid uid_constant compares) a b)
    branch_registers right =
        let is_right = right_register b right in
        let sides = compared_parts (head_of test) a b test_lawful in
        branches.registers_planned test a b uid next compares left uid_constant (register_leaf b is_right) (of_register (input SI b) is_right) right
        (branch_matched test uid compares next (next + 1)) (extends_lawful next a here sides.0) (extends_lawful (next + 1) b after sides.1) (branched_lawful next (next + 1) here after)

    branch_constant : IsConstantOf SI b → HasPlan (branch_on compared uid) next (set_rtx (new SI next) b ∷ widened (next + 1) (Comparing.branch test uid uid_constant compares) a (new SI next))
    branch_constant k =
        let is_const = constant_is b k in
        let sides = compared_parts (head_of test) a b test_lawful in
        branches.constant_planned test a b uid next compares left uid_constant (constant_leaf b is_const) (of_constant (input SI b) is_const) k
        (branch_matched test uid compares (next + 1) (next + 1 + 1)) (extends_lawful (next + 1) a after sides.0) (extends_lawful (next + 1 + 1) (new SI next) last (new_lawful SI next here))
        (branched_lawful (next + 1) (next + 1 + 1) after last)

-- ---- the law

plan_of : (next : ℕ) (x : Rtx) (sequence : List Rtx) → next + 2 < 2 ^ 62 → IsWidened next x sequence → AreShaped x → ArePrintable x → Throughout has_argument x → HasPlan x next sequence
plan_of next _ _ small (IsWidened.registers (Comparing.value m place test word is_place compares) a b left right) shaped printable lawful =
    value_registers next small m place test word is_place compares a b left shaped printable lawful right
plan_of next _ _ small (IsWidened.registers (Comparing.branch test uid label compares) a b left right) shaped printable lawful =
    branch_registers next small test uid label compares a b left lawful right
plan_of next _ _ small (IsWidened.constant (Comparing.value m place test word is_place compares) a k left is) shaped printable lawful =
    value_constant next small m place test word is_place compares a k left shaped printable lawful is
plan_of next _ _ small (IsWidened.constant (Comparing.branch test uid label compares) a k left is) shaped printable lawful =
    branch_constant next small test uid label compares a k left lawful is

pub plain_widens : PlainWidens
plain_widens i greatest next sequence answer planned small shaped printable lawful lowers =
    expands i greatest next sequence answer (λ unmatched. plan_of next i.pattern sequence small planned shaped printable lawful) lowers
