use Rattle.std.proofs.Common.{◌∙◌, ap₂}
use Rattle.std.proofs.lemmas.Result.{IfOk-weaker}
use Rattle.clap.specs.Simple.{with_rule}
use Rattle.rtlc_words.proofs.grammar.subcommand.Goals as goal

pub returns-clause-app : goal.returns-clause-app
returns-clause-app c =
    IfOk-weaker c.arg-2.result _ _ (λ command added.
    added.shape c.positional.ensures.local ∙ ap₂ with_rule (c.in_ok-described.ensures.shape c.description.ensures.local ∙ ap₂ with_rule c.new.ensures.app c.description.ensures.rule) c.positional.ensures.rule) c.arg-2.ensures
