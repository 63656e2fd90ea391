use Rattle.std.proofs.Common.{sym, subst, ◌∙◌}
use Rattle.std.proofs.lemmas.Result.{IfOk-weaker}
use Rattle.md_match.specs.Pattern.{gives_number}
use Rattle.md_match.specs.machine.Collected.{NamesGiven, Collects}
use Rattle.md_match.proofs.Collecting.{collects_operand, operator_nowhere, collects_operator, collects_itself}
use Rattle.md_match.proofs.collect.+collecting.Goals as goal

pub collect-returns-in-Operand : goal.collect-returns-in-Operand
collect-returns-in-Operand t c =
    IfOk-weaker c.place.result _ _ (λ r q. collects_operand c.args.pattern.now c.args.insn.now c.args.operands r (sym c.role_of.ensures ∙ c.in-Operand.is) q) c.place.ensures

pub collect-returns-in-None : goal.collect-returns-in-None
collect-returns-in-None t c =
    operator_nowhere c.args.pattern.now c.args.insn.now (sym c.role_of.ensures ∙ c.in-Operator.is)
    (subst (Collects (λ k. gives_number k c.args.pattern.now) (NamesGiven c.args.pattern.now c.args.insn.now) c.args.operands) c.in-None.is c.in_ok-place-in-Operator.ensures)

pub collect-returns-in-Some : goal.collect-returns-in-Some
collect-returns-in-Some t c =
    IfOk-weaker c.collect_all.result _ _
    (λ r q. collects_operator c.args.pattern.now c.args.insn.now c.as_slice.result.now c.as_slice-in-Some.result.now c.args.operands c.in-Some.more r (sym c.role_of.ensures ∙ c.in-Operator.is)
    c.as_slice.ensures.value c.as_slice-in-Some.ensures.value
    (subst (Collects (λ k. gives_number k c.args.pattern.now) (NamesGiven c.args.pattern.now c.args.insn.now) c.args.operands) c.in-Some.is c.in_ok-place-in-Operator.ensures) q)
    c.collect_all.ensures

pub collect-returns-else-not-same_head : goal.collect-returns-else-not-same_head
collect-returns-else-not-same_head t c =
    IfOk-weaker c.collect_all-in-Itself.result _ _
    (λ r q. collects_itself c.args.pattern.now c.args.insn.now c.as_slice-in-Itself.result.now c.as_slice-in-Itself-2.result.now c.args.operands r (sym c.role_of.ensures ∙ c.in-Itself.is)
    c.as_slice-in-Itself.ensures.value c.as_slice-in-Itself-2.ensures.value q)
    c.collect_all-in-Itself.ensures
