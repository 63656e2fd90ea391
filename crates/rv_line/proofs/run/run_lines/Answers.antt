use Rattle.std.proofs.Common.{◌≡◌, ◌-◌, sym, ap, ◌∙◌, arith}
use Rattle.rv_line.specs.Run.{run, run_from}
use Rattle.rv_line.specs.machine.Turns.{running_view}
use Rattle.rv_line.proofs.Runs.{run_starts, turn_ends, turn_goes}
use Rattle.rv_line.proofs.Stands.{turns_same}
use Rattle.rv_line.proofs.run.run_lines.Goals as goal

pub loop-init : goal.loop-init
loop-init c = run_starts c.args.lines.now c.args.start.now c.args.world.now c.args.k c.in_ok-entry.field-0 c.as_slice.result.now c.new.result c.in_ok-entry.ensures c.as_slice.ensures.value c.new.ensures

pub returns-in-Some : goal.returns-in-Some
returns-in-Some c = turn_ends c.args.world.now c.args.start.now.visible c.args.lines.now c.args.k c.loop.counter (running_view c.loop.state) (running_view c.turn.new.self) c.in_ok-outcome.field-0 c.in-Some.outcome (run c.args.lines.now c.args.start.now c.args.world.now c.args.k) c.loop-test.true c.in-Some.is (turns_same c.args.world.now c.args.start.now.visible c.args.lines.now c.in_ok-outcome.field-0 (running_view c.loop.state) (running_view c.turn.new.self) (rw c.in_ok-code.ensures at c.in_ok-outcome.ensures)) c.loop.invariant

pub loop-preserved : goal.loop-preserved
loop-preserved c = turn_goes c.args.world.now c.args.start.now.visible c.args.lines.now c.args.k c.loop.counter (running_view c.loop.state) (running_view c.turn.new.self) c.in_ok-outcome.field-0 (run c.args.lines.now c.args.start.now c.args.world.now c.args.k) c.loop-test.true c.in_default.is (turns_same c.args.world.now c.args.start.now.visible c.args.lines.now c.in_ok-outcome.field-0 (running_view c.loop.state) (running_view c.turn.new.self) (rw c.in_ok-code.ensures at c.in_ok-outcome.ensures)) c.loop.invariant

pub returns : goal.returns
returns c =
    let none : c.args.k - c.loop.counter ≡ 0 = omega arith in
    sym (ap (λ n. run_from c.args.world.now c.args.start.now.visible c.args.lines.now n (running_view c.loop.state)) none) ∙ c.loop.invariant
