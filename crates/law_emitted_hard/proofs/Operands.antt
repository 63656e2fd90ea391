-- Operands that name registers of the machine alone, by their numbers.
use Rattle.std.proofs.Common.{◌≡◌, ℕ, zero, suc, [], ◌∷◌, Some, None, refl, sym, ap, ◌∙◌}
use Rattle.std.specs.Prelude.{ℤ, pos, negsuc}
use Rattle.rtx_tree.specs.Operands.{operand_at, put_at}
use Rattle.rtx_tree.specs.declared.tree.Rtx.{Rtx}
use Rattle.md_match.specs.Pattern.{Ops, operand_numbered}
use Rattle.form_needs.specs.Needs.{names_homeless}
use Rattle.law_emitted_hard.specs.Hard.{IsHard, OperandsHard}

-- one more
pub put_hard : (operands : Ops) (k : ℕ) (x : Rtx) → OperandsHard operands → IsHard x → OperandsHard (put_at operands k x)
put_hard [] zero x are is = (is, tt)
put_hard [] (suc k) x are is = put_hard [] k x tt is
put_hard (None ∷ operands) zero x are is = (is, are)
put_hard (Some y ∷ operands) zero x are is = (is, are.1)
put_hard (None ∷ operands) (suc k) x are is = put_hard operands k x are is
put_hard (Some y ∷ operands) (suc k) x are is = (are.0, put_hard operands k x are.1 is)

pub at_hard : (operands : Ops) (k : ℕ) (x : Rtx) → OperandsHard operands → operand_at operands k ≡ Some x → IsHard x
at_hard [] k x are at = absurd (let no : ⊥ = cc in no)
at_hard (None ∷ operands) zero x are at = absurd (let no : ⊥ = cc in no)
at_hard (Some y ∷ operands) zero x are at = let same : y ≡ x = cc in ap names_homeless (sym same) ∙ are.0
at_hard (None ∷ operands) (suc k) x are at = at_hard operands k x are at
at_hard (Some y ∷ operands) (suc k) x are at = at_hard operands k x are.1 at

pub numbered_hard : (operands : Ops) (n : ℤ) (x : Rtx) → OperandsHard operands → operand_numbered operands n ≡ Some x → IsHard x
numbered_hard operands (pos k) x are at = at_hard operands k x are at
numbered_hard operands (negsuc k) x are at = absurd (let no : ⊥ = cc in no)

-- what holds of the operand at each number holds of all
pub each_number : (operands : Ops) → ((k : ℕ) (x : Rtx) → operand_at operands k ≡ Some x → IsHard x) → OperandsHard operands
each_number [] each = tt
each_number (None ∷ operands) each = each_number operands (λ k x at. each (suc k) x at)
each_number (Some y ∷ operands) each = (each 0 y refl, each_number operands (λ k x at. each (suc k) x at))
