use Rattle.std.proofs.Common.{◌≡◌, ◌++◌, take, map}
use Rattle.c_words.specs.machine.Known.{code_word}
use Rattle.c_words.proofs.known.push_codes.Given as goal

abbrev pub invariant-loop-code : goal.invariant-loop-code
invariant-loop-code l = l.words ≡ l.initial.words ++ map code_word (take l.code-index l.code-items)
