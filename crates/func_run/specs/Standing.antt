-- How a run stands, with the number of its calls in the place of the calls.
use Rattle.std.specs.Prelude.{length}
use Rattle.func_run.specs.declared.outcome.Outcome.{Outcome}
use Rattle.func_run.specs.declared.outcome.Outcome.TheVariants as outcomes
use Rattle.func_run.specs.declared.outcome.Standing.{Standing}
use Rattle.func_run.specs.declared.outcome.Standing.TheVariants as standings

abbrev pub standing_of : Outcome → Standing
standing_of outcomes.Undefined = standings.Undefined
standing_of (outcomes.Running calls) = standings.Running (length calls)
standing_of (outcomes.Asked calls) = standings.Asked (length calls)
standing_of (outcomes.Returned value memory calls kept) =
    standings.Returned value memory (length calls)
