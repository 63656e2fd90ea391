use Rattle.std.proofs.Common.{rules, sym, ◌∙◌}
use Rattle.reload_fit.specs.md_desc.md_attr.Alternatives.{alternatives_of}
use Rattle.reload_choice.specs.Choice.{plan_among}
use Rattle.reload_choice.proofs.LeastLaws.{keeps_next, keeps_free}
use Rattle.reload_choice.proofs.choice.Choice.best.Goals as goal

pub alternatives-preserved : goal.alternatives-preserved
alternatives-preserved c =
    let choice = c.args.self.now in
    keeps_next (plan_among choice.desc.now choice.form choice.constraints.now choice.given.now choice.formed.now)
    (alternatives_of choice.desc.now choice.form) c.alternatives.alternative c.in-Some.next c.alternatives.best
    c.in_ok-plan.plan c.better-best.result c.alternatives.invariant (c.has_alternative.ensures.0 (search rules)) (search rules)
    c.in_ok-plan.ensures c.better-best.ensures

pub returns-then-is_free : goal.returns-then-is_free
returns-then-is_free c =
    let choice = c.args.self.now in
    keeps_free (plan_among choice.desc.now choice.form choice.constraints.now choice.given.now choice.formed.now)
    (alternatives_of choice.desc.now choice.form) c.alternatives.alternative c.alternatives.best
    c.in_ok-plan.plan c.better-best.result c.alternatives.invariant (c.has_alternative.ensures.0 (search rules))
    c.in_ok-plan.ensures c.better-best.ensures (sym c.is_free.ensures ∙ c.if-is_free.true)
