use Rattle.std.proofs.Common.{◌≡◌, ◌++◌, length, drop}
use Rattle.reload_fit.specs.Fitting.{asks_by, fittings_from, fittings_of}
use Rattle.reload_fit.proofs.asked.Asked.fittings.Given as goal

abbrev pub invariant-loop-x : goal.invariant-loop-x
invariant-loop-x l =
    l.fits ++ fittings_from (asks_by l.self.desc.now l.self.form l.self.constraints.now l.self.alternative) l.self.operands.now (length l.fits) (drop l.x-index l.self.operands.now) ≡
    fittings_of (asks_by l.self.desc.now l.self.form l.self.constraints.now l.self.alternative) l.self.operands.now
