use Rattle.std.proofs.Common.{◌≡◌, drop}
use Rattle.lint_about.specs.Within.{first_found}
use Rattle.lint_aside.specs.Others.{aside_member}
use Rattle.lint_aside.proofs.others.aside_among.Given as goal

abbrev pub invariant-loop-member : goal.invariant-loop-member
invariant-loop-member l = first_found (aside_member l.tables) (drop l.member-index l.members) ≡ first_found (aside_member l.tables) l.members
