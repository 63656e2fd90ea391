-- What is moved may have one of t3 to t6, where its letters take registers.
use Rattle.std.proofs.Common.{◌≡◌, ℕ, Bool, true, false, ◌&&◌, ◌||◌, List, [], ◌∷◌, Option, Some, None, refl, ap, ◌∙◌}
use Rattle.std.specs.Prelude.{slice_get, if◌then◌else◌}
use Rattle.rtx_tree.specs.declared.code.Mode.{Mode}
use Rattle.rtx_tree.specs.Tree.{reg_of}
use Rattle.md_operand.specs.Operand.{is_register, has_mode}
use Rattle.md_text.specs.declared.constraint.Member.{Member}
use Rattle.md_forms.specs.declared.form.Entry.{Entry}
use Rattle.reload_fit.specs.Fitting.{Asks}
use Rattle.law_plain_known.proofs.Trees.{register_taken}
use Rattle.law_plain_standing.proofs.Asked.{IsAsked, TakeRegisters}

first : (p q : Bool) → (p && q) ≡ true → p ≡ true
first true q is = refl
first false q is = cc

-- t3 is admitted
pub admits_spare : (forms : List Entry) (asks : Asks) (k : ℕ) (ms : List Member) → TakeRegisters forms ms → IsAsked forms asks k ms → (mode : Mode) → asks.admits k (reg_of mode 28) ≡ true
admits_spare forms asks k ms take i mode =
    i.admits_is (reg_of mode 28) ∙ take.registers (reg_of mode 28) (first (is_register (reg_of mode 28)) (has_mode mode (reg_of mode 28)) (register_taken mode 28 refl))
