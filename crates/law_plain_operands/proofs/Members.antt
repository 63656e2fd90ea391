-- What the members of the plain forms' alternatives admit.
use Rattle.std.proofs.Common.{◌≡◌, ◌⊎◌, inl, inr, pos, negsuc, Bool, true, false, ◌||◌, List, codes, refl}
use Rattle.std.specs.Ordering.{int_eq}
use Rattle.rtx_tree.specs.declared.tree.Rtx.{Rtx}
use Rattle.md_operand.specs.Operand.{is_register, is_memory, is_constant, is_symbol}
use Rattle.pred_rows.specs.Tests.{Accepts}
use Rattle.md_forms.specs.declared.form.Entry.{Entry}
use Rattle.md_constr.specs.Admits.{name_admits}
use Rattle.md_match.specs.Pattern.{Ops}
use Rattle.md_text.specs.declared.constraint.Member.{Member}
use Rattle.md_constr.specs.Fits.{meets}
use Rattle.plain_forms.specs.Parts.{r, m, n, s, rJ, defined}
use Rattle.law_plain_operands.specs.Have.{HavePlain}
use Rattle.law_plain_operands.proofs.Tests.{IsConstantWith, is_in}
use Rattle.law_plain_operands.proofs.Constraints as constraints

alone : (p : Bool) → (p || false) ≡ true → p ≡ true
alone true is = refl
alone false is = cc

either : (p q : Bool) → (p || (q || false)) ≡ true → (p ≡ true) ⊎ (q ≡ true)
either true q is = inl refl
either false true is = inr refl
either false false is = cc

module _ (forms : List Entry) (accepts : Accepts) (operands : Ops) (x : Rtx) where
  -- an operand meets some members
  abbrev Meets : List Member → Type 0
  Meets members = meets (name_admits forms accepts) operands x members ≡ true

  pub register : Meets r → is_register x ≡ true
  register is = alone (is_register x) is

  pub memory : Meets m → is_memory x ≡ true
  memory is = alone (is_memory x) is

  pub constant : Meets n → is_constant x ≡ true
  constant is = alone (is_constant x) is

  pub symbol : Meets s → is_symbol x ≡ true
  symbol is = alone (is_symbol x) is

  module _ (have : HavePlain forms) where
    -- a register, or 0
    pub register_or_zero : Meets rJ → (is_register x ≡ true) ⊎ IsConstantWith (λ n. int_eq n (pos 0)) x
    register_or_zero is = go (either (is_register x) (name_admits forms accepts (codes "J") x) is)
      where
        go : (is_register x ≡ true) ⊎ (name_admits forms accepts (codes "J") x ≡ true) → (is_register x ≡ true) ⊎ IsConstantWith (λ n. int_eq n (pos 0)) x
        go (inl is) = inl is
        go (inr is) = inr (constraints.zero forms accepts have x is)

    -- a constant of 12 signed bits, and a count
    pub short : Meets (defined (codes "I")) → IsConstantWith (is_in (negsuc 2047) (pos 2047)) x
    short is = constraints.short forms accepts have x (alone (name_admits forms accepts (codes "I") x) is)

    pub count_32 : Meets (defined (codes "K")) → IsConstantWith (is_in (pos 0) (pos 31)) x
    count_32 is = constraints.count_32 forms accepts have x (alone (name_admits forms accepts (codes "K") x) is)

    pub count_64 : Meets (defined (codes "L")) → IsConstantWith (is_in (pos 0) (pos 63)) x
    count_64 is = constraints.count_64 forms accepts have x (alone (name_admits forms accepts (codes "L") x) is)
