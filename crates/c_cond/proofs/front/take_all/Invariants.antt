use Rattle.std.proofs.Common.{◌≡◌, drop}
use Rattle.c_cond.specs.machine.Steps.{run}
use Rattle.c_cond.proofs.front.take_all.Given as goal

abbrev pub invariant-loop-token : goal.invariant-loop-token
invariant-loop-token l = run l.dialect l.constants l.parser (drop l.token-index l.tokens) ≡ run l.dialect l.constants l.initial.parser l.tokens
