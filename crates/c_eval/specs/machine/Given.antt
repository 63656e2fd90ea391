-- What a condition is read with, as the code holds it. These definitions serve the contracts of
-- private functions alone.
use Rattle.std.specs.Prelude.{ℕ, Bool, List, [], ◌∷◌, Option, Some}
use Rattle.rtx_tree.specs.declared.tree.Rtx.{Rtx}
use Rattle.c_eval.specs.declared.known.Given.{Given}
use Rattle.c_eval.specs.declared.known.Given.TheVariants as given
use Rattle.c_eval.specs.declared.facts.Facts.{Facts}

-- a tested operand is operand 0
abbrev pub operands_given : Given → List (Option Rtx)
operands_given (given.Operands operands) = operands.now
operands_given (given.Tested x) = Some x.now ∷ []

abbrev pub facts_given : Bool → Bool → List (List ℕ) → Facts
facts_given reloaded new_pseudos dead = record { reloaded = reloaded; new_pseudos = new_pseudos; dead = dead }
