-- What the lines that are left give is what all give.
use Rattle.std.proofs.Common.{◌≡◌, drop}
use Rattle.sym_lines.specs.Run.{bad_from, bad_line}
use Rattle.sym_lines.proofs.run.bad_line.Given as goal

abbrev pub invariant-loop-at : goal.invariant-loop-at
invariant-loop-at l = bad_from l.at (drop l.at l.lines) ≡ bad_line l.lines
