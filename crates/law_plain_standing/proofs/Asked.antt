-- What is asked of an operand by the letters of the plain forms.
use Rattle.std.proofs.Common.{◌≡◌, ◌⊎◌, inl, inr, ℕ, pos, Bool, true, false, ◌&&◌, ◌||◌, List, [], ◌∷◌, codes, Option, Some, None, refl, sym, ap, ◌∙◌}
use Rattle.std.specs.List.{list_any}
use Rattle.std.specs.Ordering.{int_eq}
use Rattle.rtx_tree.specs.declared.tree.Rtx.{Rtx}
use Rattle.md_text.specs.declared.constraint.Member.{Member}
use Rattle.md_text.specs.declared.constraint.Direction.{Direction}
use Rattle.md_operand.specs.Operand.{is_register, is_constant, is_memory}
use Rattle.md_forms.specs.declared.form.Entry.{Entry}
use Rattle.reload_fit.specs.md_desc.md_pred.Holds.{holds}
use Rattle.reload_operands.specs.md_constr.Admits.{name_admits}
use Rattle.reload_operands.specs.md_constr.Fits.{meets}
use Rattle.reload_operands.specs.declared.operand.Operand.{Operand}
use Rattle.reload_moves.specs.declared.fitting.Digit.{Digit}
use Rattle.reload_fit.specs.Fitting.{Asks, asks_address, is_digit, digits_among}
use Rattle.plain_forms.specs.Parts.{alternative, r, m, n, s, rJ, defined}
use Rattle.law_plain_operands.specs.Have.{HavePlain}
use Rattle.law_plain_operands.proofs.Tests.{IsConstantWith}
use Rattle.law_plain_operands.proofs.Members.{register_or_zero}

-- letters without a digit, and none for an address
pub record AreLetters (ms : List Member) : Type 0 where
  pub digitless : list_any is_digit ms ≡ false
  pub addressless : list_any asks_address ms ≡ false
  pub undigited : (lone : Bool) (operands : List Operand) (x : Operand) → digits_among lone operands x ms ≡ []

pub letters_r : AreLetters r
letters_r = record { digitless = refl; addressless = refl; undigited = λ lone operands x. refl }

pub letters_m : AreLetters m
letters_m = record { digitless = refl; addressless = refl; undigited = λ lone operands x. refl }

pub letters_n : AreLetters n
letters_n = record { digitless = refl; addressless = refl; undigited = λ lone operands x. refl }

pub letters_s : AreLetters s
letters_s = record { digitless = refl; addressless = refl; undigited = λ lone operands x. refl }

pub letters_rJ : AreLetters rJ
letters_rJ = record { digitless = refl; addressless = refl; undigited = λ lone operands x. refl }

-- an alternative asks this of the operand with a number
pub record IsAsked (forms : List Entry) (asks : Asks) (k : ℕ) (ms : List Member) : Type 0 where
  pub direction : Direction
  pub asked_is : asks.asked k ≡ Some (alternative direction ms)
  pub admits_is : (x : Rtx) → asks.admits k x ≡ meets (name_admits forms (holds forms)) [] x ms

-- ---- what letters admit

abbrev pub Meets : List Entry → Rtx → List Member → Bool
Meets forms x ms = meets (name_admits forms (holds forms)) [] x ms

-- they admit registers, and no memory that is none
pub record TakeRegisters (forms : List Entry) (ms : List Member) : Type 0 where
  pub letters : AreLetters ms
  pub registers : (x : Rtx) → is_register x ≡ true → Meets forms x ms ≡ true
  pub others : (x : Rtx) → is_register x ≡ false → is_constant x ≡ false → Meets forms x ms ≡ false

first_true : (p q : Bool) → p ≡ true → (p || q) ≡ true
first_true true q is = refl
first_true false q is = cc

pub take_r : (forms : List Entry) → TakeRegisters forms r
take_r forms = record {
  letters = letters_r;
  registers = λ x is. first_true (is_register x) false is;
  others = λ x is fixed. ap (λ b. b || false) is;
}

module _ (forms : List Entry) (have : HavePlain forms) where
  never : (x : Rtx) (b : Bool) → Meets forms x rJ ≡ b → is_register x ≡ false → is_constant x ≡ false → b ≡ false
  never x false is free fixed = refl
  never x true is free fixed = absurd (refuted (register_or_zero forms (holds forms) [] x have is))
    where
      refuted : (is_register x ≡ true) ⊎ IsConstantWith (λ z. int_eq z (pos 0)) x → ⊥
      refuted (inl registered) = let no : ⊥ = cc in no
      refuted (inr c) = let constant : is_constant x ≡ true = c.constant in let no : ⊥ = cc in no

  pub take_rJ : TakeRegisters forms rJ
  take_rJ = record {
    letters = letters_rJ;
    registers = λ x is. first_true (is_register x) (name_admits forms (holds forms) (codes "J") x || false) is;
    others = λ x is fixed. never x (Meets forms x rJ) refl is fixed;
  }
