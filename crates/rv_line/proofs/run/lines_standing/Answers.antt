use Rattle.std.proofs.Common.{ℕ, ap, ◌∙◌, arith}
use Rattle.rv_line.specs.declared.outcome.CodeStanding.TheVariants as standings
use Rattle.rv_line.specs.Run.{run}
use Rattle.rv_line.specs.machine.Turns.{running_view}
use Rattle.rv_line.proofs.Stands.{stands_first, stands_ends, stands_goes, stands_last}
use Rattle.rv_line.proofs.run.lines_standing.Goals as goal

pub loop-init : goal.loop-init
loop-init c = stands_first c.args.lines.now c.args.start.now c.args.world.now c.args.k c.in_ok-entry.field-0 c.as_slice.result.now c.new.result c.in_ok-entry.ensures c.as_slice.ensures.value c.new.ensures

pub loop-preserved : goal.loop-preserved
loop-preserved c = stands_goes c.args.world.now c.new-none.result c.args.start.now.visible c.args.lines.now (run c.args.lines.now c.args.start.now c.args.world.now c.args.k) c.args.k c.loop.counter (running_view c.loop.state) (running_view c.turn.new.self) c.in_ok-outcome.field-0 c.loop-test.true c.in_default.is
    (rw c.in_ok-code.ensures at c.in_ok-outcome.ensures) c.loop.invariant

pub returns-in-Some : goal.returns-in-Some
returns-in-Some c =
    c.counted.ensures
    ∙ stands_ends c.args.world.now c.new-none.result c.args.start.now.visible c.args.lines.now (run c.args.lines.now c.args.start.now c.args.world.now c.args.k) c.args.k c.loop.counter (running_view c.loop.state) (running_view c.turn.new.self) c.in_ok-outcome.field-0 c.in-Some.outcome c.loop-test.true c.in-Some.is
    (rw c.in_ok-code.ensures at c.in_ok-outcome.ensures) c.loop.invariant

pub returns : goal.returns
returns c =
    ap (λ (calls : ℕ). standings.Running calls) c.len.ensures
    ∙ stands_last c.args.world.now c.new-none.result c.args.start.now.visible c.args.lines.now (run c.args.lines.now c.args.start.now c.args.world.now c.args.k) c.args.k c.loop.counter (running_view c.loop.state) (omega arith) c.loop.invariant
