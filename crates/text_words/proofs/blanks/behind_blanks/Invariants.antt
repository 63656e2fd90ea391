use Rattle.std.proofs.Common.{◌≡◌, drop}
use Rattle.text_words.specs.Blanks.{behind_blanks}
use Rattle.text_words.proofs.blanks.behind_blanks.Given as goal

abbrev pub invariant-loop-at : goal.invariant-loop-at
invariant-loop-at l = behind_blanks (drop l.at l.text) ≡ behind_blanks l.text
