use Rattle.std.proofs.Common.{◌≡◌, drop, not}
use Rattle.std.specs.List.{list_all}
use Rattle.c_words.specs.Words.{is_small}
use Rattle.c_words.proofs.word.has_no_small.Given as goal

abbrev pub invariant-loop-byte : goal.invariant-loop-byte
invariant-loop-byte l = list_all (λ b. not (is_small b)) (drop l.byte-index l.word) ≡ list_all (λ b. not (is_small b)) l.word
