use Rattle.std.proofs.Common.{◌≡◌, drop}
use Rattle.md_text.proofs.Each.{with_front}
use Rattle.dfa_ways.specs.Ways as spec
use Rattle.dfa_ways.proofs.way.at_once.Given as goal

abbrev pub invariant-loop-at : goal.invariant-loop-at
invariant-loop-at l = with_front l.both (spec.at_once (drop l.at l.first) (drop l.at l.second)) ≡ spec.at_once l.first l.second
