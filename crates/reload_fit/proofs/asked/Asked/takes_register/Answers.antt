use Rattle.std.proofs.Common.{ap, ◌∙◌}
use Rattle.reload_fit.specs.Fitting.{asks_by}
use Rattle.reload_fit.specs.Taken.{takes_one}
use Rattle.reload_fit.proofs.asked.Asked.takes_register.Goals as goal

pub returns : goal.returns
returns c = c.takes_one.ensures ∙
    ap (λ row. takes_one
    (asks_by c.args.self.now.desc.now c.args.self.now.form c.args.self.now.constraints.now
    c.args.self.now.alternative)
    c.args.self.now.operands.now c.args.fits.now row c.args.mode)
    (c.as_slice.ensures.value ∙ c.in_ok-row.ensures)
