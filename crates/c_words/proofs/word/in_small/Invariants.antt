use Rattle.std.proofs.Common.{◌≡◌, take, map}
use Rattle.c_words.specs.Words.{small}
use Rattle.c_words.proofs.word.in_small.Given as goal

abbrev pub invariant-loop-byte : goal.invariant-loop-byte
invariant-loop-byte l = l.letters.items ≡ map small (take l.byte-index l.word)
