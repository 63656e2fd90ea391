use Rattle.std.proofs.Common.{◌≡◌, ◌+◌, ◌*◌, ◌≤◌}
use Rattle.md_pred.specs.machine.Steps.{size_at, step_holds, step_size}
use Rattle.md_pred.proofs.table.PredTable.+ask.Given as goal

-- From a question its parts are asked, which have less before them; what calls what on the way is told by the last term.
abbrev pub decreases-answer : goal.decreases-answer
decreases-answer l = 8 * step_size l.self.now l.first

abbrev pub decreases-step : goal.decreases-step
decreases-step l = 8 * size_at l.self.now l.at + 7

abbrev pub decreases-node_step : goal.decreases-node_step
decreases-node_step l = 8 * size_at l.self.now l.at + 6

abbrev pub decreases-lighter_first : goal.decreases-lighter_first
decreases-lighter_first l = 8 * size_at l.self.now l.at + 5

abbrev pub decreases-choice : goal.decreases-choice
decreases-choice l = 8 * size_at l.self.now l.at + 5

abbrev pub decreases-joined : goal.decreases-joined
decreases-joined l = 8 * size_at l.self.now l.at + 4

abbrev pub decreases-chosen : goal.decreases-chosen
decreases-chosen l = 8 * size_at l.self.now l.at + 4

abbrev pub decreases-chosen_last : goal.decreases-chosen_last
decreases-chosen_last l = 8 * size_at l.self.now l.at + 4

abbrev pub invariant-answer-loop-step : goal.invariant-answer-loop-step
invariant-answer-loop-step l = record {
  same : step_holds l.self l.x l.step ≡ step_holds l.self l.x l.fn.first;
  smaller : step_size l.self l.step ≤ step_size l.self l.fn.first;
}

abbrev pub decreases-answer-loop-step : goal.decreases-answer-loop-step
decreases-answer-loop-step l = step_size l.self l.step
