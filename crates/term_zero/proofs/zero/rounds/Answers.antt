use Rattle.std.proofs.Common.{ap, sym, ◌∙◌, suc}
use Rattle.term_tree.specs.View.{tree_of}
use Rattle.term_cuts.specs.term_mean.Zero.{zero_test}
use Rattle.term_zero.specs.machine.Rounds.{round_tree}
use Rattle.term_zero.proofs.OperatorLaws.{operators}
use Rattle.term_zero.proofs.RoundLaws.{rounds-begin, answer-same, next-same, next-fewer}
use Rattle.term_zero.proofs.zero.rounds.Goals as goal

pub loop-term-init : goal.loop-term-init
loop-term-init c =
    ap (λ x. zero_test (suc (operators (tree_of x))) c.args.w (tree_of x)) c.in_ok-term.ensures ∙ rounds-begin c.args.w (tree_of c.args.t.now)

pub returns-in-Done : goal.returns-in-Done
returns-in-Done c =
    answer-same c.loop-term.width (tree_of c.loop-term.term) (tree_of c.in-Done.answer) (λ again. ap (round_tree again) (sym c.in-Done.is) ∙ c.in_ok-answer.ensures again)
    ∙ c.loop-term.invariant

pub loop-term-smaller : goal.loop-term-smaller
loop-term-smaller c =
    next-fewer c.loop-term.width (tree_of c.loop-term.term) c.in-Next.v (tree_of c.in-Next.next) (λ again. ap (round_tree again) (sym c.in-Next.is) ∙ c.in_ok-answer.ensures again)

pub loop-term-preserved : goal.loop-term-preserved
loop-term-preserved c =
    next-same c.loop-term.width (tree_of c.loop-term.term) c.in-Next.v (tree_of c.in-Next.next) (λ again. ap (round_tree again) (sym c.in-Next.is) ∙ c.in_ok-answer.ensures again)
    ∙ c.loop-term.invariant
