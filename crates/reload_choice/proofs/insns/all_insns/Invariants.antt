use Rattle.std.proofs.Common.{◌≡◌, ◌++◌, drop}
use Rattle.reload_choice.specs.Insns.{all_insns}
use Rattle.reload_choice.proofs.insns.all_insns.Given as goal

abbrev pub invariant-loop-step : goal.invariant-loop-step
invariant-loop-step l = l.insns ++ all_insns l.operands (drop l.step-index l.moves) ≡ all_insns l.operands l.moves
