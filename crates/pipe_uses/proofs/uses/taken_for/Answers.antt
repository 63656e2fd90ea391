use Rattle.pipe_uses.proofs.TakesLaws.{within_if}
use Rattle.pipe_uses.proofs.uses.taken_for.Goals as goal

pub taken_by-requires : goal.taken_by-requires
taken_by-requires c =
    let forms = c.args.desc.now in
    let chosen = c.args.chosen.now in
    within_if c.args.pipe.now forms chosen.form chosen.alternative c.reservation-reservation.result (c.reservation-reservation.ensures forms c.attributes.ensures)
