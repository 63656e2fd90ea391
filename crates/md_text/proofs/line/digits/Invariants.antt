use Rattle.std.proofs.Common.{◌≡◌, ◌++◌, take, drop}
use Rattle.md_text.specs.Template.{digits}
use Rattle.md_text.proofs.line.digits.Given as goal

abbrev pub invariant-loop-at : goal.invariant-loop-at
invariant-loop-at l = take l.at l.text ++ digits (drop l.at l.text) ≡ digits l.text
