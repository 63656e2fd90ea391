-- What the first alternative of the plain forms' constraints asks of each operand.
use Rattle.std.proofs.Common.{◌≡◌, ℕ, Bool, true, false, ◌&&◌, List, [], Some, refl, ap, ◌∙◌}
use Rattle.std.specs.Option.{option_map_or}
use Rattle.rtx_tree.specs.declared.tree.Rtx.{Rtx}
use Rattle.md_text.specs.declared.constraint.Member.{Member}
use Rattle.md_text.specs.declared.constraint.Direction.{Direction}
use Rattle.md_text.specs.declared.constraint.Direction.TheVariants.{Input, Output}
use Rattle.md_forms.specs.declared.form.Entry.{Entry}
use Rattle.md_forms.specs.declared.form.Form.{Form}
use Rattle.md_forms.specs.declared.form.OperandConstraint.{OperandConstraint}
use Rattle.reload_fit.specs.md_desc.md_attr.Alternatives.{form_at}
use Rattle.reload_fit.specs.md_desc.md_pred.Holds.{holds}
use Rattle.reload_operands.specs.md_constr.Admits.{name_admits}
use Rattle.reload_operands.specs.md_constr.Fits.{each_of, constraint_admits}
use Rattle.reload_fit.specs.Fitting.{asked_in, constraints_of, asks_of}
use Rattle.plain_forms.specs.Parts.{alternative, r, rJ, unary, binary, with_zero, from_zero, or_constant, extended}
use Rattle.law_plain_standing.proofs.Asked.{IsAsked, Meets}

pub and_true : (b : Bool) → (b && true) ≡ b
and_true true = refl
and_true false = refl

-- by the constraints of the form
pub record AsksIn (forms : List Entry) (constraints : List OperandConstraint) (alt k : ℕ) (ms : List Member) : Type 0 where
  pub direction : Direction
  pub asked : asked_in constraints alt k ≡ Some (alternative direction ms)
  pub admits : (x : Rtx) → each_of k (constraint_admits (name_admits forms (holds forms)) [] alt x) constraints ≡ Meets forms x ms

module _ (forms : List Entry) (form : ℕ) (f : Form) (at : form_at forms form ≡ Some f) where
  pub constraints_are : constraints_of forms form ≡ f.constraints
  constraints_are = ap (λ o. option_map_or (λ (f : Form). f.constraints) o []) at

  pub asks : (alt k : ℕ) (ms : List Member) → AsksIn forms f.constraints alt k ms → IsAsked forms (asks_of forms form alt) k ms
  asks alt k ms a = record {
    direction = a.direction;
    asked_is = ap (λ cs. asked_in cs alt k) constraints_are ∙ a.asked;
    admits_is = λ x. ap (λ o. option_map_or (λ (f : Form). each_of k (constraint_admits (name_admits forms (holds forms)) [] alt x) f.constraints) o false) at ∙ a.admits x;
  }

-- ---- the first alternative

module _ (forms : List Entry) where
  abbrev First : List OperandConstraint → ℕ → List Member → Type 0
  First constraints k ms = AsksIn forms constraints 0 k ms

  -- =r  r
  pub unary_0 : First unary 0 r
  unary_0 = record { direction = Output; asked = refl; admits = λ x. and_true (Meets forms x r) }

  pub unary_1 : First unary 1 r
  unary_1 = record { direction = Input; asked = refl; admits = λ x. and_true (Meets forms x r) }

  -- =r,r  r,m
  pub extended_0 : First extended 0 r
  extended_0 = record { direction = Output; asked = refl; admits = λ x. and_true (Meets forms x r) }

  pub extended_1 : First extended 1 r
  extended_1 = record { direction = Input; asked = refl; admits = λ x. and_true (Meets forms x r) }

  -- =r  r  r
  pub binary_0 : First binary 0 r
  binary_0 = record { direction = Output; asked = refl; admits = λ x. and_true (Meets forms x r) }

  pub binary_1 : First binary 1 r
  binary_1 = record { direction = Input; asked = refl; admits = λ x. and_true (Meets forms x r) }

  pub binary_2 : First binary 2 r
  binary_2 = record { direction = Input; asked = refl; admits = λ x. and_true (Meets forms x r) }

  -- =r  r  rJ
  pub with_zero_0 : First with_zero 0 r
  with_zero_0 = record { direction = Output; asked = refl; admits = λ x. and_true (Meets forms x r) }

  pub with_zero_1 : First with_zero 1 r
  with_zero_1 = record { direction = Input; asked = refl; admits = λ x. and_true (Meets forms x r) }

  pub with_zero_2 : First with_zero 2 rJ
  with_zero_2 = record { direction = Input; asked = refl; admits = λ x. and_true (Meets forms x rJ) }

  -- =r  rJ  r
  pub from_zero_0 : First from_zero 0 r
  from_zero_0 = record { direction = Output; asked = refl; admits = λ x. and_true (Meets forms x r) }

  pub from_zero_1 : First from_zero 1 rJ
  from_zero_1 = record { direction = Input; asked = refl; admits = λ x. and_true (Meets forms x rJ) }

  pub from_zero_2 : First from_zero 2 r
  from_zero_2 = record { direction = Input; asked = refl; admits = λ x. and_true (Meets forms x r) }

  -- =r,r  r,r  r,NAME
  module _ (name : List ℕ) where
    pub or_constant_0 : First (or_constant name) 0 r
    or_constant_0 = record { direction = Output; asked = refl; admits = λ x. and_true (Meets forms x r) }

    pub or_constant_1 : First (or_constant name) 1 r
    or_constant_1 = record { direction = Input; asked = refl; admits = λ x. and_true (Meets forms x r) }

    pub or_constant_2 : First (or_constant name) 2 r
    or_constant_2 = record { direction = Input; asked = refl; admits = λ x. and_true (Meets forms x r) }
