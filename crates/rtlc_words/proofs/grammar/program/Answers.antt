use Rattle.std.proofs.Common.{◌∙◌, ap, codes}
use Rattle.std.proofs.lemmas.Result.{IfOk-weaker}
use Rattle.clap.specs.Simple.{App}
use Rattle.rtlc_words.specs.machine.Grammar.{with_leaf}
use Rattle.rtlc_words.proofs.grammar.program.Goals as goal

pub returns : goal.returns
returns c =
    IfOk-weaker c.with_command.result _ _ (λ command is. is
    ∙ ap (λ (a : App). with_leaf a (codes "plain")) (c.in_ok-program-5.ensures
    ∙ ap (λ (a : App). with_leaf (with_leaf a (codes "schedule")) (codes "cycles")) (c.in_ok-program-4.ensures
    ∙ ap (λ (a : App). with_leaf (with_leaf a (codes "image")) (codes "reuse")) (c.in_ok-program-3.ensures
    ∙ ap (λ (a : App). with_leaf (with_leaf a (codes "eval")) (codes "make")) (c.in_ok-program-2.ensures
    ∙ ap (λ (a : App). with_leaf (with_leaf a (codes "recog")) (codes "dump")) (c.in_ok-program.ensures
    ∙ ap (λ (a : App). with_leaf (with_leaf a (codes "asm")) (codes "list")) c.bare.ensures)))))) c.with_command.ensures
