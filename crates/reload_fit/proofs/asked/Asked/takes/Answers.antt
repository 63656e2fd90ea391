use Rattle.std.proofs.Common.{ap, ◌∙◌}
use Rattle.reload_fit.specs.Fitting.{asks_by}
use Rattle.reload_fit.specs.Taken.{admits_through}
use Rattle.reload_fit.proofs.asked.Asked.takes.Goals as goal

pub returns : goal.returns
returns c = c.admits_through.ensures ∙
    ap (admits_through
    (asks_by c.args.self.now.desc.now c.args.self.now.form c.args.self.now.constraints.now
    c.args.self.now.alternative)
    c.args.self.now.operands.now c.args.fits.now c.args.row.now)
    c.reg-x.ensures
