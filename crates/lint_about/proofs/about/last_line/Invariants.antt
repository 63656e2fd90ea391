use Rattle.std.proofs.Common.{◌≡◌, ◌+◌, not, take}
use Rattle.std.specs.List.{suffix_len}
use Rattle.lint_about.specs.About.{is_break}
use Rattle.lint_about.proofs.about.last_line.Given as goal

-- behind the last break so far
abbrev pub invariant-loop-at : goal.invariant-loop-at
invariant-loop-at l = l.start + suffix_len (λ byte. not (is_break byte)) (take l.at l.text) ≡ l.at
