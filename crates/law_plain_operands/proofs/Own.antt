-- The predicates that the manual has.
use Rattle.std.proofs.Common.{◌≡◌, List, [], codes, true, refl}
use Rattle.rtx_tree.specs.declared.code.Mode.{Mode}
use Rattle.rtx_tree.specs.declared.tree.Rtx.{Rtx}
use Rattle.md_forms.specs.declared.form.Entry.{Entry}
use Rattle.md_operand.specs.Operand.{accepts}
use Rattle.md_operand.specs.declared.built_in.BuiltIn.TheVariants as own
use Rattle.md_pred.specs.Holds.{holds}

module _ (forms : List Entry) (x : Rtx) (m : Mode) where
  pub anything : holds forms [] x m ≡ true
  anything = refl

  pub register : holds forms (codes "register_operand") x m ≡ accepts own.Register m x
  register = refl

  pub constant : holds forms (codes "const_int_operand") x m ≡ accepts own.ConstInt m x
  constant = refl

  pub nonimmediate : holds forms (codes "nonimmediate_operand") x m ≡ accepts own.Nonimmediate m x
  nonimmediate = refl

  pub general : holds forms (codes "general_operand") x m ≡ accepts own.General m x
  general = refl

  pub frame : holds forms (codes "frame_operand") x m ≡ accepts own.Frame m x
  frame = refl

  pub comparison : holds forms (codes "ordered_comparison_operator") x m ≡ accepts own.OrderedComparison m x
  comparison = refl
