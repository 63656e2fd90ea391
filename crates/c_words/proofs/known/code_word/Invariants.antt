use Rattle.std.proofs.Common.{◌≡◌, take, map}
use Rattle.c_words.specs.machine.Known.{capital}
use Rattle.c_words.proofs.known.code_word.Given as goal

abbrev pub invariant-loop-byte : goal.invariant-loop-byte
invariant-loop-byte l = l.letters.items ≡ map capital (take l.byte-index l.byte-items)
