use Rattle.std.proofs.Common.{◌≡◌, drop}
use Rattle.md_dfa.specs.Units as spec
use Rattle.md_dfa.proofs.units.added.Given as goal

abbrev pub invariant-loop-name : goal.invariant-loop-name
invariant-loop-name l = spec.added l.all (drop l.name-index l.names) ≡ spec.added l.units l.names
