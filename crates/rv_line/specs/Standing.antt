-- What a run of lines comes to, with the number of its calls in the place of the calls.
use Rattle.std.specs.Prelude.{length}
use Rattle.rv_line.specs.declared.outcome.CodeOutcome.{CodeOutcome}
use Rattle.rv_line.specs.declared.outcome.CodeOutcome.TheVariants as outcomes
use Rattle.rv_line.specs.declared.outcome.CodeStanding.{CodeStanding}
use Rattle.rv_line.specs.declared.outcome.CodeStanding.TheVariants as standings

abbrev pub standing_of : CodeOutcome → CodeStanding
standing_of outcomes.Stuck = standings.Stuck
standing_of (outcomes.Running calls) = standings.Running (length calls)
standing_of (outcomes.Asked calls) = standings.Asked (length calls)
standing_of (outcomes.Returned value memory calls kept) =
    standings.Returned value memory (length calls)
