-- A turn of the run, as the code takes it.
use Rattle.std.specs.Prelude.{◌≡◌, List, Option, Some, None}
use Rattle.rtx_tree.specs.declared.machine.RangeAt.{RangeAt}
use Rattle.rtx_tree.specs.declared.machine.World.{World}
use Rattle.rv_text.specs.declared.line.Line.{Line}
use Rattle.rv_text.specs.declared.line.CodeItem.{CodeItem}
use Rattle.rv_line.specs.declared.state.LineEnd.{LineEnd}
use Rattle.rv_line.specs.declared.state.LineEnd.TheVariants.{Called}
use Rattle.rv_line.specs.Step.{step}
use Rattle.rv_line.specs.declared.run.CodeState as code
use Rattle.rv_line.specs.declared.outcome.CodeOutcome.{CodeOutcome}
use Rattle.rv_line.specs.declared.outcome.CodeOutcome.TheVariants as outcomes
use Rattle.rv_line.specs.Run.{Running, Turn, Goes, Ends, called, after_line, next_line}

-- the code's state
abbrev pub running_view : code.CodeState → Running
running_view s = record { rest = s.rest.now; machine = s.machine; replies = s.replies.now; calls = s.calls }

-- the answer of the code to a turn, with the state after it
abbrev pub Turns : Option CodeOutcome → Running → Turn → Type 0
Turns None s answer = answer ≡ Goes s
Turns (Some outcome) s answer = answer ≡ Ends outcome

-- ---- a turn in which called functions see other ranges than the caller

abbrev pub after_line_seen : LineEnd → (seen ranges : List RangeAt) → List CodeItem → Line →
    List CodeItem → Running → Turn
after_line_seen (Called target) seen ranges items line rest s = called seen target rest s
after_line_seen end seen ranges items line rest s = after_line end ranges items line rest s

abbrev pub turn_at_seen : Option (Line × List CodeItem) → World → (seen ranges : List RangeAt) →
    List CodeItem → Running → Turn
turn_at_seen None world seen ranges items s = Ends outcomes.Stuck
turn_at_seen (Some next) world seen ranges items s =
    let done = step world next.0 s.machine in after_line_seen done.0 seen ranges items next.0 next.1 (record s { machine = done.1 })

abbrev pub turn_seen : World → (seen ranges : List RangeAt) → List CodeItem → Running → Turn
turn_seen world seen ranges items s = turn_at_seen (next_line s.rest) world seen ranges items s
