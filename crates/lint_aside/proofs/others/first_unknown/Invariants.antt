use Rattle.std.proofs.Common.{◌≡◌, drop}
use Rattle.std.specs.List.{find}
use Rattle.lint_aside.specs.Others.{is_unknown}
use Rattle.lint_aside.proofs.others.first_unknown.Given as goal

abbrev pub invariant-loop-name : goal.invariant-loop-name
invariant-loop-name l = find (is_unknown l.tables) (drop l.name-index l.names) ≡ find (is_unknown l.tables) l.names
