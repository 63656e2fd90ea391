use Rattle.std.proofs.Common.{sym, ◌∙◌}
use Rattle.std.proofs.lemmas.Result.{IfOk-weaker}
use Rattle.reload_operands.proofs.PutLaws.{made_operator, made_itself}
use Rattle.reload_operands.proofs.news.+putting.Goals as goal

pub put-returns-in_ok-kids-in-Operator : goal.put-returns-in_ok-kids-in-Operator
put-returns-in_ok-kids-in-Operator t c =
    IfOk-weaker c.with_parts.result _ _
    (λ r e. e ∙ made_operator c.args.pattern.now c.args.news.now c.args.x.now c.as_slice.result.now c.as_slice-in-Operator.result.now c.in_ok-kids-in-Operator.kids (sym c.role_of.ensures ∙ c.in-Operator.is) c.as_slice.ensures.value c.as_slice-in-Operator.ensures.value c.in_ok-kids-in-Operator.ensures)
    c.with_parts.ensures

pub put-returns-in_ok-kids-in-Itself : goal.put-returns-in_ok-kids-in-Itself
put-returns-in_ok-kids-in-Itself t c =
    IfOk-weaker c.with_parts-in-Itself.result _ _
    (λ r e. e ∙ made_itself c.args.pattern.now c.args.news.now c.args.x.now c.as_slice-in-Itself.result.now c.as_slice-in-Itself-2.result.now c.in_ok-kids-in-Itself.kids (sym c.role_of.ensures ∙ c.in-Itself.is) c.as_slice-in-Itself.ensures.value c.as_slice-in-Itself-2.ensures.value c.in_ok-kids-in-Itself.ensures)
    c.with_parts-in-Itself.ensures
