-- Comparisons of operands in DI are matched; of operands in SI, lowering makes them.
use Rattle.std.proofs.Common.{◌≡◌, inl, inr, ℕ, true, ◌&&◌, List, [], ◌∷◌, codes, refl, sym, ap, subst, ◌∙◌}
use Rattle.rtx_tree.specs.declared.code.Code.{Code}
use Rattle.rtx_tree.specs.declared.code.Code.TheVariants as code
use Rattle.rtx_tree.specs.declared.code.Mode.{Mode}
use Rattle.rtx_tree.specs.declared.code.Mode.TheVariants.{SI, DI}
use Rattle.rtx_tree.specs.declared.tree.Rtx.{Rtx, out-Rtx}
use Rattle.rtx_tree.specs.Code.{class_of_code}
use Rattle.rtx_tree.specs.Patterns.{set_rtx}
use Rattle.rtx_tree.specs.Tree.{node_of}
use Rattle.rtl_func.specs.Shapes as shapes
use Rattle.md_operand.specs.Operand.{is_comparison, is_comparison_code, has_mode, accepts}
use Rattle.md_operand.specs.declared.built_in.BuiltIn.TheVariants as own
use Rattle.md_match.specs.Pattern.{role_of}
use Rattle.md_match.specs.declared.role.Role.TheVariants.{Itself}
use Rattle.md_text.specs.declared.template.Template.{Template}
use Rattle.md_forms.specs.declared.form.OperandConstraint.{OperandConstraint}
use Rattle.lower_insn.specs.Lowered.{IsMatched}
use Rattle.plain_forms.specs.Makers.{insn, sets}
use Rattle.plain_forms.specs.Forms as plain
use Rattle.plain_forms.specs.Forms.{plain_forms}
use Rattle.plain_shape.specs.declared.shape.Part.TheVariants as part
use Rattle.plain_shape.specs.declared.shape.Source.TheVariants as source
use Rattle.law_plain_leaves.specs.Machine.{is_printable}
use Rattle.law_plain_leaves.proofs.Shaped.{two_of, itself}
use Rattle.law_plain_leaves.proofs.Leaves.{IsMode, mode_is}
use Rattle.law_plain_operands.proofs.Plain.{have_plain}
use Rattle.law_plain_matched.specs.Matched.{IsExpanded, is_word}
use Rattle.law_plain_taken.proofs.Nodes.{IsOperation, operation_is}
use Rattle.law_plain_matched.proofs.Found.{Has, among_comparisons}
use Rattle.law_plain_taken.proofs.Takes.{register_or_int}
use Rattle.law_plain_matched.proofs.Shapes.{IsSetOf, IsTestOf, is_test_of}
use Rattle.law_plain_matched.proofs.Operations.{binary_matched}
use Rattle.law_plain_matched.proofs.Moves.{Comes}

-- ---- the form of a comparison

-- by its code and the mode of its value
pub record IsCompared (to : Mode) (c : Code) : Type 0 where
  pub name : List ℕ
  pub constraints : List OperandConstraint
  pub template : Template
  pub role : role_of c ≡ Itself
  pub class : IsOperation (class_of_code c)
  pub has : Has plain_forms (insn name (sets to (plain.compared to c)) constraints template)

pub compared_si : (c : Code) → is_comparison_code c ≡ true → IsCompared SI c
compared_si code.Lt is = record { name = _; constraints = _; template = _; role = refl; class = (refl, refl); has = among_comparisons 0 (plain.less SI code.Lt) refl }
compared_si code.Ltu is = record { name = _; constraints = _; template = _; role = refl; class = (refl, refl); has = among_comparisons 1 (plain.less SI code.Ltu) refl }
compared_si code.Gt is = record { name = _; constraints = _; template = _; role = refl; class = (refl, refl); has = among_comparisons 4 (plain.more SI code.Gt) refl }
compared_si code.Gtu is = record { name = _; constraints = _; template = _; role = refl; class = (refl, refl); has = among_comparisons 5 (plain.more SI code.Gtu) refl }
compared_si code.Ge is = record { name = _; constraints = _; template = _; role = refl; class = (refl, refl); has = among_comparisons 8 (plain.at_least SI code.Ge) refl }
compared_si code.Geu is = record { name = _; constraints = _; template = _; role = refl; class = (refl, refl); has = among_comparisons 9 (plain.at_least SI code.Geu) refl }
compared_si code.Le is = record { name = _; constraints = _; template = _; role = refl; class = (refl, refl); has = among_comparisons 12 (plain.at_most SI code.Le) refl }
compared_si code.Leu is = record { name = _; constraints = _; template = _; role = refl; class = (refl, refl); has = among_comparisons 13 (plain.at_most SI code.Leu) refl }
compared_si code.Eq is = record { name = _; constraints = _; template = _; role = refl; class = (refl, refl); has = among_comparisons 20 (plain.equals SI code.Eq) refl }
compared_si code.Ne is = record { name = _; constraints = _; template = _; role = refl; class = (refl, refl); has = among_comparisons 21 (plain.equals SI code.Ne) refl }
compared_si _ is = absurd (let no : ⊥ = cc in no)

pub compared_di : (c : Code) → is_comparison_code c ≡ true → IsCompared DI c
compared_di code.Lt is = record { name = _; constraints = _; template = _; role = refl; class = (refl, refl); has = among_comparisons 2 (plain.less DI code.Lt) refl }
compared_di code.Ltu is = record { name = _; constraints = _; template = _; role = refl; class = (refl, refl); has = among_comparisons 3 (plain.less DI code.Ltu) refl }
compared_di code.Gt is = record { name = _; constraints = _; template = _; role = refl; class = (refl, refl); has = among_comparisons 6 (plain.more DI code.Gt) refl }
compared_di code.Gtu is = record { name = _; constraints = _; template = _; role = refl; class = (refl, refl); has = among_comparisons 7 (plain.more DI code.Gtu) refl }
compared_di code.Ge is = record { name = _; constraints = _; template = _; role = refl; class = (refl, refl); has = among_comparisons 10 (plain.at_least DI code.Ge) refl }
compared_di code.Geu is = record { name = _; constraints = _; template = _; role = refl; class = (refl, refl); has = among_comparisons 11 (plain.at_least DI code.Geu) refl }
compared_di code.Le is = record { name = _; constraints = _; template = _; role = refl; class = (refl, refl); has = among_comparisons 14 (plain.at_most DI code.Le) refl }
compared_di code.Leu is = record { name = _; constraints = _; template = _; role = refl; class = (refl, refl); has = among_comparisons 15 (plain.at_most DI code.Leu) refl }
compared_di code.Eq is = record { name = _; constraints = _; template = _; role = refl; class = (refl, refl); has = among_comparisons 22 (plain.equals DI code.Eq) refl }
compared_di code.Ne is = record { name = _; constraints = _; template = _; role = refl; class = (refl, refl); has = among_comparisons 23 (plain.equals DI code.Ne) refl }
compared_di _ is = absurd (let no : ⊥ = cc in no)

-- ---- the shapes

module _ (to : Mode) (moded : IsMode to) (x : Rtx) where
  pub wide : ((c : Code) → is_comparison_code c ≡ true → IsCompared to c) → IsSetOf (part.Register to) (source.Comparison to DI) x → Comes x
  wide compared s =
      let t = is_test_of to DI s.source s.is_from s.well_source in
      let c = (out-Rtx s.source).code in
      let two = two_of (is_comparison s.source) (has_mode to s.source) t.accepted in
      let f = compared c two.0 in
      let is = operation_is s.source c to (t.left ∷ t.right ∷ []) f.class (itself shapes.is_shaped s.source s.well_source.shaped) (itself is_printable s.source s.well_source.printable) refl (mode_is to (out-Rtx s.source).mode moded two.1) t.kids_are in
      inl (subst (IsMatched plain_forms) (sym (s.is ∙ ap (set_rtx s.place) is))
      (binary_matched f.name to c f.role (codes "register_operand") DI f.constraints f.template (codes "reg_or_int_operand") DI f.has s.place t.left t.right s.is_target t.is_left (register_or_int plain_forms have_plain DI t.right t.is_right)))

  pub narrow : is_word to ≡ true → IsSetOf (part.Register to) (source.Comparison to SI) x → Comes x
  narrow word s =
      let t = is_test_of to SI s.source s.is_from s.well_source in
      inr (inr (IsExpanded.compares_narrow to s.place s.source t.left t.right word s.is_target t.accepted t.is_left t.is_right (s.is ∙ ap (set_rtx s.place) t.whole)))

module _ (x : Rtx) where
  pub si_di : IsSetOf (part.Register SI) (source.Comparison SI DI) x → Comes x
  si_di = wide SI refl x compared_si

  pub di_di : IsSetOf (part.Register DI) (source.Comparison DI DI) x → Comes x
  di_di = wide DI refl x compared_di

  pub si_si : IsSetOf (part.Register SI) (source.Comparison SI SI) x → Comes x
  si_si = narrow SI refl x refl

  pub di_si : IsSetOf (part.Register DI) (source.Comparison DI SI) x → Comes x
  di_si = narrow DI refl x refl
