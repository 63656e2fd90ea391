use Rattle.std.proofs.Common.{◌≡◌, drop}
use Rattle.lint_about.specs.Within.{first_found}
use Rattle.lint_aside.specs.Others.{aside_in}
use Rattle.lint_aside.proofs.others.aside_in.Given as goal

abbrev pub invariant-loop-alternative : goal.invariant-loop-alternative
invariant-loop-alternative l = first_found (aside_in l.tables) (drop l.alternative-index l.alternatives) ≡ first_found (aside_in l.tables) l.alternatives
