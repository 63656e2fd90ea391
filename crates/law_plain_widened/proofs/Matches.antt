-- What is emitted is matched: a sign extension into a new register, and comparisons of such registers.
use Rattle.std.proofs.Common.{◌≡◌, ℕ, pos, true, ◌&&◌, List, [], ◌∷◌, codes, Some, refl, sym, ap, subst, ◌∙◌}
use Rattle.std.proofs.lemmas.Bool.{and_from}
use Rattle.rtx_tree.specs.declared.code.Code.{Code}
use Rattle.rtx_tree.specs.declared.code.Code.TheVariants as code
use Rattle.rtx_tree.specs.declared.code.Mode.{Mode}
use Rattle.rtx_tree.specs.declared.code.Mode.TheVariants.{SI, DI}
use Rattle.rtx_tree.specs.declared.tree.Rtx.{Rtx, out-Rtx}
use Rattle.rtx_tree.specs.Patterns.{set_rtx}
use Rattle.rtx_tree.specs.Tree.{RtxHead, head_of, tree_of, node_of}
use Rattle.rtx_tree.proofs.Trees.{head_of-tree, kids_of-tree}
use Rattle.rtl_func.specs.Shapes.{is_shaped}
use Rattle.md_operand.specs.Operand.{accepts, is_comparison, is_comparison_code, is_constant, register_operand, const_int_operand}
use Rattle.md_operand.specs.Operand as operands
use Rattle.md_operand.specs.declared.built_in.BuiltIn.TheVariants as own
use Rattle.md_text.specs.declared.template.Template.TheVariants.{One, Each}
use Rattle.md_pred.specs.Holds.{holds}
use Rattle.form_needs.specs.Needs.{lower_facts}
use Rattle.pred_expr.specs.Texts.{always}
use Rattle.lower_insn.specs.Lowered.{IsMatched}
use Rattle.plain_forms.specs.Makers.{insn}
use Rattle.plain_forms.specs.Parts as parts
use Rattle.plain_forms.specs.Forms as plain
use Rattle.plain_forms.specs.Forms.{plain_forms}
use Rattle.law_plain_leaves.specs.Machine.{Throughout, AreShaped, ArePrintable, is_printable}
use Rattle.law_plain_leaves.proofs.Shaped.{two_of, itself}
use Rattle.law_plain_leaves.proofs.Leaves.{IsMode, mode_is}
use Rattle.law_plain_operands.proofs.Plain.{have_plain}
use Rattle.law_plain_taken.proofs.Conditions.{always_met}
use Rattle.law_plain_taken.proofs.Takes.{register_or_int, register_for_0}
use Rattle.law_plain_taken.proofs.Nodes.{operation_is}
use Rattle.law_plain_taken.proofs.Leads as leads
use Rattle.law_plain_taken.proofs.Leads.{branch_made}
use Rattle.law_plain_matched.specs.Matched.{Register, is_word, of_operands}
use Rattle.law_plain_matched.proofs.Found.{matched, among_extensions, among_jumps}
use Rattle.law_plain_matched.proofs.Moves as moves
use Rattle.law_plain_matched.proofs.Operations.{unary_matched, binary_matched}
use Rattle.law_plain_matched.proofs.Comparisons.{IsCompared, compared_si, compared_di}
use Rattle.law_plain_planned.specs.Planned.{new, branch_on}
use Rattle.law_plain_planned.proofs.Registers.{new_accepted}
use Rattle.law_plain_widened.specs.Widened.{extends}

-- ---- an extension

pub extension_matched : (n : ℕ) (a : Rtx) → register_operand SI a ≡ true → IsMatched plain_forms (set_rtx (new DI n) (extends a))
extension_matched n a is =
    let e = plain.extension (codes "extendsidi2") code.SignExtend DI SI (parts.on_two (codes "sext.w")) (parts.on_two (codes "lw")) in
    unary_matched (codes "extendsidi2") DI code.SignExtend refl (codes "nonimmediate_operand") SI parts.extended (Each (parts.on_two (codes "sext.w") ∷ parts.on_two (codes "lw") ∷ [])) (among_extensions 0 e refl)
    (new DI n) a (new_accepted DI n) (moves.register_set SI a is)

-- ---- a comparison that a register is set to

word_moded : (m : Mode) → is_word m ≡ true → IsMode m
word_moded SI is = refl
word_moded DI is = refl
word_moded _ is = absurd (let no : ⊥ = cc in no)

form_of : (m : Mode) → is_word m ≡ true → (c : Code) → is_comparison_code c ≡ true → IsCompared m c
form_of SI is = compared_si
form_of DI is = compared_di
form_of _ is = λ c compares. absurd (let no : ⊥ = cc in no)

module _ (m : Mode) (word : is_word m ≡ true) (place test : Rtx) (is_place : Register m place) (compares : accepts own.Comparison m test ≡ true) where
  abbrev c : Code
  c = (head_of test).code

  abbrev two : (is_comparison test ≡ true) × (operands.has_mode m test ≡ true)
  two = two_of (is_comparison test) (operands.has_mode m test) compares

  abbrev f : IsCompared m c
  f = form_of m word c two.0

  -- a well-formed comparison has no number and no name
  module _ (a b : Rtx) (shaped : AreShaped (of_operands test a b)) (printable : ArePrintable (of_operands test a b)) where
    abbrev there : Rtx
    there = of_operands test a b

    abbrev bare : RtxHead
    bare = record { code = c; mode = m; number = pos 0; name = [] }

    head_there : head_of there ≡ head_of test
    head_there = head_of-tree (head_of test) (a ∷ b ∷ [])

    whole : there ≡ node_of c m (a ∷ b ∷ [])
    whole =
        operation_is there c m (a ∷ b ∷ []) f.class (itself is_shaped there shaped) (itself is_printable there printable) (ap (λ (h : RtxHead). h.code) head_there)
        (ap (λ (h : RtxHead). h.mode) head_there ∙ mode_is m (out-Rtx test).mode (word_moded m word) two.1) (kids_of-tree (head_of test) (a ∷ b ∷ []))

    head_is : head_of test ≡ bare
    head_is = sym head_there ∙ (ap head_of whole ∙ head_of-tree bare (a ∷ b ∷ []))

    pub value_matched : (n k : ℕ) → IsMatched plain_forms (set_rtx place (of_operands test (new DI n) (new DI k)))
    value_matched n k =
        let made : of_operands test (new DI n) (new DI k) ≡ node_of c m (new DI n ∷ new DI k ∷ []) = ap (λ (h : RtxHead). tree_of h (new DI n ∷ new DI k ∷ [])) head_is in
        let second = register_or_int plain_forms have_plain DI (new DI k) (moves.first_true (register_operand DI (new DI k)) (const_int_operand DI (new DI k)) (new_accepted DI k)) in
        subst (λ t. IsMatched plain_forms (set_rtx place t)) (sym made)
        (binary_matched f.name m c f.role (codes "register_operand") DI f.constraints f.template (codes "reg_or_int_operand") DI f.has place (new DI n) (new DI k) is_place (new_accepted DI n) second)

-- ---- a branch on one

pub branch_matched : (test uid : Rtx) → is_comparison test ≡ true → (n k : ℕ) → IsMatched plain_forms (branch_on (of_operands test (new DI n) (new DI k)) uid)
branch_matched test uid compares n k =
    let a = new DI n in
    let b = new DI k in
    let t = of_operands test a b in
    let same : head_of t ≡ head_of test = head_of-tree (head_of test) (a ∷ b ∷ []) in
    let whole : t ≡ tree_of (head_of t) (a ∷ b ∷ []) = ap (λ (h : RtxHead). tree_of h (a ∷ b ∷ [])) (sym same) in
    let accepted : (is_comparison t && true) ≡ true = and_from (is_comparison t) true (ap (λ (h : RtxHead). is_comparison_code h.code) same ∙ compares) refl in
    subst (λ u. IsMatched plain_forms (branch_on u uid)) (sym whole)
    (matched plain_forms (insn (codes "cbranchdi4") (plain.branches (parts.comparison 0 (parts.register 1 DI) (parts.register_or_0 2 DI))) (parts.takes 1 (parts.r ∷ []) ∷ parts.takes 2 (parts.rJ ∷ []) ∷ parts.takes 3 [] ∷ []) (One plain.branch_line)) _
    (branch_made t a b uid) _ (among_jumps 0 _ refl) refl refl
    (leads.branch (holds plain_forms) lower_facts always (codes "ordered_comparison_operator") (codes "register_operand") DI (codes "reg_or_0_operand") DI t a b uid whole accepted (new_accepted DI n)
    (register_for_0 plain_forms have_plain DI b (new_accepted DI k)) refl (always_met (holds plain_forms) lower_facts (Some t ∷ Some a ∷ Some b ∷ Some uid ∷ []))))
