use Rattle.std.proofs.Common.{sym, ◌∙◌}
use Rattle.lint_told.proofs.ComesLaws.{is_right}
use Rattle.lint_told.proofs.told.outcome_of.Goals as goal

pub returns : goal.returns
returns c =
    λ forms form alternative i printed. is_right forms form alternative i c.args.judged (sym c.is_some.ensures ∙ c.if-is_some.false) printed
