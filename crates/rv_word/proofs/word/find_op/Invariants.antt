-- What the instructions that are left give is what all give.
use Rattle.std.proofs.Common.{◌≡◌, drop}
use Rattle.rv_word.specs.Word.{find_op}
use Rattle.rv_word.proofs.word.find_op.Given as goal

abbrev pub invariant-loop-op : goal.invariant-loop-op
invariant-loop-op l = find_op l.word (drop l.op-index l.ops) ≡ find_op l.word l.ops
