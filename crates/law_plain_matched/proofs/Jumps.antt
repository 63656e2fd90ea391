-- Jumps, calls and returns are matched, and branches on operands in DI but where the second is a constant other than 0; a use and a clobber alone are notes.
use Rattle.std.proofs.Common.{◌≡◌, inl, inr, ℕ, zero, suc, pos, negsuc, Bool, true, false, ◌||◌, List, [], ◌∷◌, codes, Some, refl, sym, ap, subst, ◌∙◌}
use Rattle.std.specs.Prelude.{ℤ}
use Rattle.rtx_tree.specs.declared.code.Code.{Code}
use Rattle.rtx_tree.specs.declared.code.Code.TheVariants as code
use Rattle.rtx_tree.specs.declared.code.Mode.TheVariants.{Void, SI, DI}
use Rattle.rtx_tree.specs.declared.tree.Rtx.{Rtx, out-Rtx}
use Rattle.rtx_tree.specs.Patterns.{set_rtx, return_rtx}
use Rattle.rtx_tree.specs.Tree.{head_of, tree_of, leaf_of, const_of, kids_of}
use Rattle.rtl_func.specs.Shapes as shapes
use Rattle.md_operand.specs.Operand.{is_symbol, is_comparison, has_mode, register_operand, const_int_operand}
use Rattle.md_pred.specs.Holds.{holds}
use Rattle.form_needs.specs.Needs.{is_note, lower_facts}
use Rattle.lower_insn.specs.Lowered.{IsMatched, is_note_tree}
use Rattle.pred_expr.specs.Texts.{always}
use Rattle.plain_forms.specs.Parts as parts
use Rattle.plain_forms.specs.Makers.{insn, sets}
use Rattle.plain_forms.specs.Forms as plain
use Rattle.plain_forms.specs.Forms.{plain_forms}
use Rattle.md_text.specs.declared.template.Print.TheVariants as print
use Rattle.md_text.specs.declared.template.Piece.TheVariants.{Operand}
use Rattle.md_text.specs.declared.template.Template.TheVariants.{One, Each}
use Rattle.plain_shape.specs.Plain.{is_part, is_use_by, is_clobber_by, is_jump_by, is_branch_by, is_return_by, is_call}
use Rattle.plain_shape.specs.declared.shape.Part.{Part}
use Rattle.plain_shape.specs.declared.shape.Part.TheVariants as part
use Rattle.plain_shape.specs.declared.shape.Source.TheVariants as source
use Rattle.law_plain_leaves.proofs.Shaped.{two_of, itself}
use Rattle.law_plain_leaves.proofs.Leaves.{symbol_is}
use Rattle.law_plain_matches.proofs.Leads.{label_of, call_of}
use Rattle.law_plain_operands.proofs.Plain.{have_plain}
use Rattle.law_plain_matched.specs.Matched.{IsConstantOf, IsExpanded, is_nought, choice}
use Rattle.law_plain_taken.proofs.Nodes.{return_is}
use Rattle.law_plain_matched.proofs.Found.{matched, among_jumps}
use Rattle.law_plain_taken.proofs.Conditions.{always_met}
use Rattle.law_plain_taken.proofs.Leads as leads
use Rattle.law_plain_taken.proofs.Takes.{register_for_0, zero_for_0, register_called, symbol_called}
use Rattle.law_plain_matched.proofs.Shapes.{IsWell, IsSetOf, IsBranchOn, is_jump_to, is_branch_on, is_call_to, constant_of}
use Rattle.law_plain_matched.proofs.Moves.{Comes}

found : (x y : Rtx) → x ≡ y → IsMatched plain_forms y → Comes x
found x y is here = inl (subst (IsMatched plain_forms) (sym is) here)

module _ (x : Rtx) (w : IsWell x) where
  -- ---- a jump

  pub jump : is_jump_by (out-Rtx x).code (kids_of x) ≡ true → Comes x
  jump is =
      let j = is_jump_to x is w in
      let target = set_rtx (leaf_of code.Pc Void (pos 0)) (label_of j.uid) in
      found x target j.is
      (matched plain_forms (insn (codes "jump") (set_rtx plain.pc (parts.label 0)) (parts.takes 0 [] ∷ []) (One (parts.line (parts.text (codes "j")) (Operand print.Label 0 ∷ [])))) _ target _ (among_jumps 2 _ refl) refl refl
      (leads.jump (holds plain_forms) lower_facts always j.uid refl (always_met (holds plain_forms) lower_facts (Some j.uid ∷ []))))

  -- ---- a return

  return_code : (c : Code) (kids : List Rtx) → is_return_by c kids ≡ true → c ≡ code.Return
  return_code code.Return kids is = refl
  return_code _ kids is = absurd (let no : ⊥ = cc in no)

  pub return : is_return_by (out-Rtx x).code (kids_of x) ≡ true → Comes x
  return is =
      found x return_rtx (return_is x w.shaped w.printable (return_code (out-Rtx x).code (kids_of x) is))
      (matched plain_forms (insn (codes "return") return_rtx [] (One (parts.text (codes "ret")))) _ return_rtx [] (among_jumps 5 _ refl) refl refl (leads.returns (holds plain_forms) lower_facts always (always_met (holds plain_forms) lower_facts [])))

  -- ---- calls

  pub symbol_target : (a : Rtx) → IsWell a → is_symbol a ≡ true → holds plain_forms (codes "call_operand") a DI ≡ true
  symbol_target a well is =
      ap (λ y. holds plain_forms (codes "call_operand") y DI) (symbol_is a (itself shapes.is_shaped a well.shaped) is) ∙ symbol_called plain_forms have_plain (out-Rtx a).number (out-Rtx a).name

  called : (part : Part) → ((a : Rtx) → IsWell a → is_part part a ≡ true → holds plain_forms (codes "call_operand") a DI ≡ true) → is_call part x ≡ true → Comes x
  called part takes is =
      let c = is_call_to part x is w in
      found x (call_of c.at c.size) c.is
      (matched plain_forms (insn (codes "call") (plain.call_of 0 1) (parts.takes 0 (parts.s ∷ parts.r ∷ []) ∷ parts.takes 1 [] ∷ []) (Each (plain.call_lines 0))) _ (call_of c.at c.size) _ (among_jumps 3 _ refl) refl refl
      (leads.call (holds plain_forms) lower_facts always (codes "call_operand") DI c.at c.size (takes c.at c.well_at c.is_at) refl (always_met (holds plain_forms) lower_facts (Some c.at ∷ Some c.size ∷ []))))

  pub calls_symbol : is_call part.Symbol x ≡ true → Comes x
  calls_symbol = called part.Symbol symbol_target

  pub calls_register : is_call (part.Register DI) x ≡ true → Comes x
  calls_register = called (part.Register DI) (λ a well is. register_called plain_forms have_plain a is)

  called_for : (at : Part) → ((a : Rtx) → IsWell a → is_part at a ≡ true → holds plain_forms (codes "call_operand") a DI ≡ true) → IsSetOf part.AnyRegister (source.Call at) x → Comes x
  called_for at takes s =
      let c = is_call_to at s.source s.is_from s.well_source in
      let target = set_rtx s.place (call_of c.at c.size) in
      found x target (s.is ∙ ap (set_rtx s.place) c.is)
      (matched plain_forms (insn (codes "call_value") (sets Void (plain.call_of 1 2)) (parts.gives 0 (parts.r ∷ parts.r ∷ []) ∷ parts.takes 1 (parts.s ∷ parts.r ∷ []) ∷ parts.takes 2 [] ∷ []) (Each (plain.call_lines 1))) _ target _ (among_jumps 4 _ refl) refl refl
      (leads.call_for (holds plain_forms) lower_facts always (codes "register_operand") Void (codes "call_operand") DI s.place c.at c.size s.is_target (takes c.at c.well_at c.is_at) refl (always_met (holds plain_forms) lower_facts (Some s.place ∷ Some c.at ∷ Some c.size ∷ []))))

  pub symbol_called_for : IsSetOf part.AnyRegister (source.Call part.Symbol) x → Comes x
  symbol_called_for = called_for part.Symbol symbol_target

  pub register_called_for : IsSetOf part.AnyRegister (source.Call (part.Register DI)) x → Comes x
  register_called_for = called_for (part.Register DI) (λ a well is. register_called plain_forms have_plain a is)

  -- ---- branches

  pub branch_narrow : is_branch_by SI (out-Rtx x).code (kids_of x) ≡ true → Comes x
  branch_narrow is =
      let b = is_branch_on SI x is w in
      let compares = (two_of (is_comparison b.test) (has_mode Void b.test) b.of.accepted).0 in
      inr (inr (IsExpanded.branches_narrow b.test b.of.left b.of.right b.uid b.constant compares b.of.is_left b.of.is_right (b.is ∙ ap (λ t. set_rtx (leaf_of code.Pc Void (pos 0)) (choice t b.uid)) b.of.whole)))

  branches : (b : IsBranchOn DI x) → x ≡ set_rtx (leaf_of code.Pc Void (pos 0)) (choice (tree_of (head_of b.test) (b.of.left ∷ b.of.right ∷ [])) b.uid)
  branches b = b.is ∙ ap (λ t. set_rtx (leaf_of code.Pc Void (pos 0)) (choice t b.uid)) b.of.whole

  taken : (b : IsBranchOn DI x) → holds plain_forms (codes "reg_or_0_operand") b.of.right DI ≡ true → Comes x
  taken b right =
      found x (set_rtx (leaf_of code.Pc Void (pos 0)) (choice (tree_of (head_of b.test) (b.of.left ∷ b.of.right ∷ [])) b.uid)) (branches b)
      (matched plain_forms (insn (codes "cbranchdi4") (plain.branches (parts.comparison 0 (parts.register 1 DI) (parts.register_or_0 2 DI))) (parts.takes 1 (parts.r ∷ []) ∷ parts.takes 2 (parts.rJ ∷ []) ∷ parts.takes 3 [] ∷ []) (One plain.branch_line)) _
      (set_rtx (leaf_of code.Pc Void (pos 0)) (choice (tree_of (head_of b.test) (b.of.left ∷ b.of.right ∷ [])) b.uid)) _ (among_jumps 0 _ refl) refl refl
      (leads.branch (holds plain_forms) lower_facts always (codes "ordered_comparison_operator") (codes "register_operand") DI (codes "reg_or_0_operand") DI b.test b.of.left b.of.right b.uid b.of.whole b.of.accepted b.of.is_left right refl
      (always_met (holds plain_forms) lower_facts (Some b.test ∷ Some b.of.left ∷ Some b.of.right ∷ Some b.uid ∷ []))))

  pub branch_wide : is_branch_by DI (out-Rtx x).code (kids_of x) ≡ true → Comes x
  branch_wide is = by_right (is_branch_on DI x is w)
    where
      by_value : (b : IsBranchOn DI x) (c : IsConstantOf DI b.of.right) (z : ℤ) → c.value ≡ z → Comes x
      by_value b c (pos zero) same = taken b (ap (λ y. holds plain_forms (codes "reg_or_0_operand") y DI) (c.is ∙ ap const_of same) ∙ zero_for_0 plain_forms have_plain DI)
      by_value b c (pos (suc n)) same =
          inr (inr (IsExpanded.branches b.test b.of.left b.of.right b.uid b.constant (two_of (is_comparison b.test) (has_mode Void b.test) b.of.accepted).0 b.of.is_left (record { constant = c; other = ap is_nought same }) (branches b)))
      by_value b c (negsuc n) same =
          inr (inr (IsExpanded.branches b.test b.of.left b.of.right b.uid b.constant (two_of (is_comparison b.test) (has_mode Void b.test) b.of.accepted).0 b.of.is_left (record { constant = c; other = ap is_nought same }) (branches b)))

      by_register : (b : IsBranchOn DI x) (r : Bool) → register_operand DI b.of.right ≡ r → (r || const_int_operand DI b.of.right) ≡ true → Comes x
      by_register b true here is = taken b (register_for_0 plain_forms have_plain DI b.of.right here)
      by_register b false here is = let c = constant_of DI b.of.right is b.of.well_right in by_value b c c.value refl

      by_right : IsBranchOn DI x → Comes x
      by_right b = by_register b (register_operand DI b.of.right) refl b.of.is_right

  -- ---- notes

  use_code : (part : Part) (c : Code) (kids : List Rtx) → is_use_by part c kids ≡ true → is_note c ≡ true
  use_code part code.Use kids is = refl
  use_code part _ kids is = absurd (let no : ⊥ = cc in no)

  clobber_code : (part : Part) (c : Code) (kids : List Rtx) → is_clobber_by part c kids ≡ true → is_note c ≡ true
  clobber_code part code.Clobber kids is = refl
  clobber_code part _ kids is = absurd (let no : ⊥ = cc in no)

  pub use_alone : (part : Part) → is_use_by part (out-Rtx x).code (kids_of x) ≡ true → Comes x
  use_alone part is = inr (inl (use_code part (out-Rtx x).code (kids_of x) is))

  pub clobber_alone : (part : Part) → is_clobber_by part (out-Rtx x).code (kids_of x) ≡ true → Comes x
  clobber_alone part is = inr (inl (clobber_code part (out-Rtx x).code (kids_of x) is))
