use Rattle.std.proofs.Common.{◌≡◌, drop}
use Rattle.std.specs.List.{find}
use Rattle.lint_about.specs.Own.{is_odd}
use Rattle.lint_about.proofs.own.odd_value.Given as goal

abbrev pub invariant-loop-text : goal.invariant-loop-text
invariant-loop-text l = find (is_odd l.constants) (drop l.text-index l.values) ≡ find (is_odd l.constants) l.values
