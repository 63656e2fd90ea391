-- All bytes that were passed are of the word.
use Rattle.std.proofs.Common.{◌≡◌, ◌++◌, drop, take}
use Rattle.rv_text.specs.machine.Cuts.{word, behind_word}
use Rattle.rv_text.proofs.parse.split_word.Given as goal

abbrev pub invariant-loop-at : goal.invariant-loop-at
invariant-loop-at l = record {
  before : take l.at l.bytes ++ word (drop l.at l.bytes) ≡ word l.bytes;
  behind : behind_word (drop l.at l.bytes) ≡ behind_word l.bytes;
}
