use Rattle.std.proofs.Common.{ap, ◌∙◌}
use Rattle.reload_fit.specs.Fitting.{asks_by, shown}
use Rattle.reload_fit.proofs.FittingLaws.{admits_same}
use Rattle.reload_fit.proofs.asked.Asked.is_admitted.Goals as goal

pub returns : goal.returns
returns c = admits_same
    (asks_by c.args.self.now.desc.now c.args.self.now.form c.args.self.now.constraints.now
    c.args.self.now.alternative)
    c.args.x.now.number c.in_ok-tree.tree _ c.admits.result c.admits.ensures
    (c.in_ok-tree.ensures ∙ ap (λ o. shown o c.args.x.now) c.asked.ensures)
