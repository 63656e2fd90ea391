use Rattle.std.proofs.Common.{◌≡◌, ◌-◌}
use Rattle.lint_aside.specs.Sake.{comes_to}
use Rattle.lint_aside.proofs.sake.comes_to.Given as goal

abbrev pub invariant-loop-step : goal.invariant-loop-step
invariant-loop-step l = comes_to (l.steps - l._step) l.asked l.to l.at ≡ comes_to l.steps l.asked l.to l.from
