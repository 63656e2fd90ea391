use Rattle.std.proofs.Common.{◌≡◌, drop}
use Rattle.md_text.proofs.Each.{with_front}
use Rattle.dfa_ways.specs.Ways as spec
use Rattle.dfa_ways.proofs.join.product.Given as goal

abbrev pub invariant-loop-way : goal.invariant-loop-way
invariant-loop-way l = with_front l.ways (spec.product l.how (drop l.way-index l.first) l.second) ≡ spec.product l.how l.first l.second
