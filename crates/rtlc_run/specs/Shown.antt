-- How a refusal is told: on one line, whatever bytes its names have.
use Rattle.std.specs.Prelude.{ℕ, List}
use Rattle.md_forms.specs.Shown.{shown_name}
use Rattle.run_refusal.specs.declared.refusal.Refusal.{Refusal}
use Rattle.run_refusal.specs.declared.refusal.Refusal.TheVariants as refusal
use Rattle.run_refusal.specs.Refusals.{line_of}

-- A refusal as it is told. A file may have any bytes in its name; a form comes under the name that
-- is shown, the names of functions are symbols, and what else is told is printed.
abbrev pub shown : Refusal → Refusal
shown (refusal.Syntax file place) = refusal.Syntax (shown_name file) place
shown e = e

-- the line that is told of a refusal
abbrev pub line_told : Refusal → List ℕ
line_told e = line_of (shown e)
