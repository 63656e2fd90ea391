use Rattle.std.proofs.Common.{take}
use Rattle.reload.specs.machine.Added.{AreMoved}
use Rattle.reload.proofs.moves.add_moves.Given as goal

abbrev pub invariant-loop-x : goal.invariant-loop-x
invariant-loop-x l = AreMoved l.setting.desc.now l.uid (take l.x-index l.moves) l.fn.insns l.insns l.next
