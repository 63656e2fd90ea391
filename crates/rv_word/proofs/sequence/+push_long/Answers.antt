-- What is left after a cut comes first.
use Rattle.rv_word.proofs.Behind.{cut_step}
use Rattle.rv_word.proofs.sequence.+push_long.Goals as goal

pub returns : goal.returns
returns t c = cut_step c.push_shift.result c.args.words.now c.push_long.new.words c.push_shift.new.words c.args.cuts c.args.rd c.args.number c.shifted.result c.fits32.result c.ranges.number c.if-cuts-eq0.false c.fits32.ensures c.if-fits32.false c.shifted.ensures c.in_ok-push_long.ensures c.push_shift.ensures
