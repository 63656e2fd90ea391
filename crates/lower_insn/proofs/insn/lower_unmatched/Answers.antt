use Rattle.std.proofs.Common.{sym, subst, ◌∙◌}
use Rattle.pass_refusal.specs.Outcome.{RefusesWith}
use Rattle.lower_insn.specs.Lowered.{InsnLowers}
use Rattle.lower_insn.proofs.ByPlan.{by_plan}
use Rattle.lower_insn.proofs.insn.lower_unmatched.Goals as goal

pub returns-in-Some : goal.returns-in-Some
returns-in-Some c = λ needs none.
    by_plan c.args.desc.now c.args.insn.now c.args.greatest c.args.next c.in-Some.plan c.lower_by.result needs none (sym c.in_ok-plan.ensures ∙ c.in-Some.is) c.lower_by.ensures

pub returns-in_ok-unmatched-in-None : goal.returns-in_ok-unmatched-in-None
returns-in_ok-unmatched-in-None c = λ needs none.
    subst (λ d. RefusesWith d (InsnLowers c.args.desc.now c.args.insn.now c.args.greatest c.args.next)) (sym c.in_ok-unmatched-in-None.ensures)
    (InsnLowers.nameless needs none (sym c.in_ok-plan.ensures ∙ c.in-None.is))
