use Rattle.gen_emit.proofs.Starts.{IsBack}
use Rattle.gen_emit.proofs.layout.back.Given as goal

abbrev pub invariant-loop-step : goal.invariant-loop-step
invariant-loop-step l = IsBack l.heads l.end l._step l.place
