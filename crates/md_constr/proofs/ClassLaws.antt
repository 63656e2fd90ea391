-- Which registers are in no class.
use Rattle.std.proofs.Common.{◌≡◌, ℕ, ◌≤◌, false, arith}
use Rattle.rv_regs.specs.declared.classes.Class.{Class}
use Rattle.rv_regs.specs.declared.classes.Class.TheVariants as class
use Rattle.rv_regs.specs.Classes.{is_in_class}

-- a number that a byte doesn't hold
pub no_pseudo : (k : Class) (reg : ℕ) → 256 ≤ reg → is_in_class k reg ≡ false
no_pseudo class.General reg large = grind arith
no_pseudo class.Args reg large = grind arith
no_pseudo class.Saved reg large = grind arith
no_pseudo class.Nothing reg large = grind arith
