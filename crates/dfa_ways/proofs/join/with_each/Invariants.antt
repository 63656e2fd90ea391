use Rattle.std.proofs.Common.{◌≡◌, drop}
use Rattle.md_text.specs.Lists.{each}
use Rattle.md_text.proofs.Each.{with_front}
use Rattle.dfa_ways.specs.Ways.{joined}
use Rattle.dfa_ways.proofs.join.with_each.Given as goal

abbrev pub invariant-loop-other : goal.invariant-loop-other
invariant-loop-other l = with_front l.ways (each (joined l.how l.first) (drop l.other-index l.others)) ≡ each (joined l.how l.first) l.others
