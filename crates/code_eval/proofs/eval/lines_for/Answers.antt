use Rattle.std.proofs.Common.{rules}
use Rattle.code_eval.specs.Eval.{lines_for}
use Rattle.code_eval.proofs.eval.lines_for.Goals as goal

pub returns : goal.returns
unfolding lines_for
returns c = search rules
