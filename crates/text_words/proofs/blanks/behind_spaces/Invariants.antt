use Rattle.std.proofs.Common.{◌≡◌, drop}
use Rattle.text_words.specs.Blanks.{behind_spaces}
use Rattle.text_words.proofs.blanks.behind_spaces.Given as goal

abbrev pub invariant-loop-at : goal.invariant-loop-at
invariant-loop-at l = behind_spaces (drop l.at l.text) ≡ behind_spaces l.text
