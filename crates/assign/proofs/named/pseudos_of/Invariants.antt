use Rattle.assign.proofs.NamedLaws.{IsListed}
use Rattle.assign.proofs.named.pseudos_of.Given as goal

abbrev pub invariant-loop-k : goal.invariant-loop-k
invariant-loop-k l = IsListed l.named l.k l.pseudos
