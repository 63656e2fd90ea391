use Rattle.std.proofs.Common.{◌-◌}
use Rattle.reload_fit.specs.md_desc.md_attr.Alternatives.{alternatives_of}
use Rattle.reload_choice.specs.Choice.{plan_among}
use Rattle.reload_choice.proofs.LeastLaws.{Keeps}
use Rattle.reload_choice.proofs.choice.Choice.best.Given as goal

abbrev pub invariant-alternatives : goal.invariant-alternatives
invariant-alternatives l =
    Keeps (plan_among l.self.desc.now l.self.form l.self.constraints.now l.self.given.now l.self.formed.now) (alternatives_of l.self.desc.now l.self.form) l.alternative l.best

abbrev pub decreases-alternatives : goal.decreases-alternatives
decreases-alternatives l = alternatives_of l.self.desc.now l.self.form - l.alternative
