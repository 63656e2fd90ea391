use Rattle.std.proofs.Common.{take}
use Rattle.live_chain.specs.machine.Demand.{IsDemandOf}
use Rattle.live_chain.proofs.demand.demand_of.Given as goal

abbrev pub invariant-loop-insn : goal.invariant-loop-insn
invariant-loop-insn l = IsDemandOf (take l.insn-index l.window) l.demand
