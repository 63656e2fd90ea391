use Rattle.std.proofs.Common.{arith}
use Rattle.reg_rows.proofs.WordLaws.{has_none}
use Rattle.reg_rows.proofs.words.clear.Goals as goal

pub returns : goal.returns
returns c = has_none c.loop-word.words (λ k h. c.loop-word.invariant k (omega arith))
