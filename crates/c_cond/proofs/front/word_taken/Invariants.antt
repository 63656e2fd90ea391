use Rattle.std.proofs.Common.{◌≡◌, drop}
use Rattle.std.specs.List.{list_any}
use Rattle.c_cond.specs.machine.Front.{word_taken}
use Rattle.c_cond.proofs.front.word_taken.Given as goal

abbrev pub invariant-loop-word : goal.invariant-loop-word
invariant-loop-word l = list_any (word_taken l.dialect l.constants l.goals l.run) (drop l.word-index l.words) ≡ list_any (word_taken l.dialect l.constants l.goals l.run) l.words
