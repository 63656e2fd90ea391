-- Steps led to the function as it is, so many, and its repeated values and dead sets stand where they are looked for.
use Rattle.reuse.specs.Reuse.{Steps}
use Rattle.reuse.specs.machine.Found.{AreSeen}
use Rattle.reuse.proofs.Ends.{weight}
use Rattle.reuse.proofs.pass.reuse.Given as goal

abbrev pub invariant-loop-chain : goal.invariant-loop-chain
invariant-loop-chain l = record {
  reached : Steps l.desc l.count l.fn.f l.chain;
  seen : AreSeen l.desc l.chain l.sight;
}

abbrev pub decreases-loop-chain : goal.decreases-loop-chain
decreases-loop-chain l = weight l.chain.insns
