use Rattle.std.proofs.Common.{◌≡◌, map, take}
use Rattle.lint_aside.specs.Sake.{asked_by}
use Rattle.lint_aside.proofs.sake.all_asked.Given as goal

abbrev pub invariant-loop-aside : goal.invariant-loop-aside
invariant-loop-aside l = l.asked ≡ map (asked_by l.forms l.all) (take l.aside-index l.all)
