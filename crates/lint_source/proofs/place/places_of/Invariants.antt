use Rattle.std.proofs.Common.{◌≡◌, ◌++◌, map, drop}
use Rattle.lint_source.specs.Sourced.{form_place}
use Rattle.lint_source.proofs.place.places_of.Given as goal

abbrev pub invariant-loop-form : goal.invariant-loop-form
invariant-loop-form l = l.places ++ map form_place (drop l.form-index l.forms) ≡ map form_place l.forms
