use Rattle.std.proofs.Common.{rules, ap, ◌∙◌}
use Rattle.reload_fit.specs.Fitting.{asks_by, fitting_at, fittings_of}
use Rattle.reload_fit.proofs.FittingLaws.{fittings_next}
use Rattle.reload_fit.proofs.asked.Asked.fittings.Goals as goal

pub loop-x-preserved : goal.loop-x-preserved
loop-x-preserved c =
    let asks = asks_by c.args.self.now.desc.now c.args.self.now.form c.args.self.now.constraints.now
    c.args.self.now.alternative in
    let operands = c.args.self.now.operands.now in
    fittings_next asks operands operands c.loop-x.x-index c.x-item.result c.loop-x.fits
    c.push.new.self c.in_ok-fit.fit (fittings_of asks operands) (search rules) c.x-item.is
    (c.in_ok-fit.ensures ∙ ap (λ n. fitting_at asks operands n c.x-item.result) c.len.ensures)
    c.in_ok-push.ensures.ok c.loop-x.invariant
