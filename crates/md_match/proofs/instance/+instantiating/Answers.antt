use Rattle.std.proofs.Common.{sym, ap, ◌∙◌}
use Rattle.std.specs.Option.{option_copied}
use Rattle.std.proofs.lemmas.Result.{IfOk-weaker}
use Rattle.md_match.proofs.Instantiated.{operator_over}
use Rattle.md_match.proofs.instance.+instantiating.Goals as goal

pub instance-returns-in_ok-parts-in-Operator : goal.instance-returns-in_ok-parts-in-Operator
instance-returns-in_ok-parts-in-Operator t c =
    IfOk-weaker c.with_parts.result _ _
    (λ r e. operator_over c.args.pattern.now c.args.operands.now c.in-Some.operator.now c.as_slice.result.now c.in_ok-parts-in-Operator.parts r (sym c.role_of.ensures ∙ c.in-Operator.is)
    (sym c.operand_of-in-Operator.ensures ∙ ap option_copied c.in-Some.is) c.in_ok-parts-in-Operator.ensures c.as_slice.ensures.value e)
    c.with_parts.ensures
