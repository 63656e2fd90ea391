use Rattle.std.proofs.Common.{◌≡◌, drop}
use Rattle.dfa_ways.specs.Expression as spec
use Rattle.dfa_ways.proofs.expression.behind_all.Given as goal

abbrev pub invariant-loop-token : goal.invariant-loop-token
invariant-loop-token l = spec.behind_all l.units l.state (drop l.token-index l.tokens) ≡ spec.behind_all l.units spec.start l.tokens
