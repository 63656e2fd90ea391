use Rattle.std.proofs.Common.{◌≡◌, ◌++◌, drop}
use Rattle.image_text.specs.Text.{word_lines}
use Rattle.image_text.proofs.words.print_words.Given as goal

abbrev pub invariant-loop-word : goal.invariant-loop-word
invariant-loop-word l = l.out.items ++ word_lines l.next (drop l.word-index l.words) ≡ l.initial.out.items ++ word_lines l.address l.words
