use Rattle.std.proofs.Common.{◌≡◌, drop}
use Rattle.std.specs.List.{find}
use Rattle.lint_aside.specs.Others.{is_odd}
use Rattle.lint_aside.proofs.others.odd_attribute.Given as goal

abbrev pub invariant-loop-given : goal.invariant-loop-given
invariant-loop-given l = find (is_odd l.tables) (drop l.given-index l.draft.printed.attributes) ≡ find (is_odd l.tables) l.draft.printed.attributes
