use Rattle.std.proofs.lemmas.Result.{err_from_is_err_and}
use Rattle.reload.proofs.Running.{moved_at, stuck_at}
use Rattle.reload.proofs.moves.add_moves.Goals as goal

pub returns-in_err-next : goal.returns-in_err-next
returns-in_err-next c =
    let p = err_from_is_err_and c.from_residual.result c.from_residual.ensures.1 in
    rw (p.1, p.2)
    (stuck_at c.args.setting.now.desc.now c.args.uid c.args.moves.now c.loop-x.x-index
    c.x-item.result c.args.insns.now
    c.loop-x.insns c.loop-x.next c.in_err-next.field-0.0 c.loop-x-test.true c.x-item.is
    c.loop-x.invariant c.in_err-next.ensures)

pub loop-x-preserved : goal.loop-x-preserved
loop-x-preserved c =
    moved_at c.args.setting.now.desc.now c.args.uid c.args.moves.now c.loop-x.x-index
    c.x-item.result c.args.insns.now
    c.loop-x.insns c.add_move.new.insns c.loop-x.next c.in_ok-next.next c.loop-x-test.true
    c.x-item.is c.loop-x.invariant
    c.in_ok-next.ensures
