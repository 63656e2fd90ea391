use Rattle.std.proofs.Common.{◌≡◌, drop}
use Rattle.std.specs.List.{list_all}
use Rattle.c_words.specs.Tokens.{in_word}
use Rattle.c_cond.proofs.front.are_in_word.Given as goal

abbrev pub invariant-loop-byte : goal.invariant-loop-byte
invariant-loop-byte l = list_all in_word (drop l.byte-index l.bytes) ≡ list_all in_word l.bytes
