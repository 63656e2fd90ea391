use Rattle.std.proofs.Common.{◌≡◌, arith, refl, ap, sym, Some}
use Rattle.lisp_read.specs.declared.mode.Mode.TheVariants as mode
use Rattle.lisp_read.specs.machine.Steps.{State}
use Rattle.lisp_read.specs.machine.Runs.{run}
use Rattle.lisp_read.proofs.Runs.{place_more, reaches_more, shallow_start, shallow_more, stops_deep}
use Rattle.lisp_read.proofs.read.read_all.Goals as goal

pub loop-b-init : goal.loop-b-init
unfolding run
loop-b-init c =
    let e : c.new-reader.result.mode ≡ mode.Between = ap (λ (s : State). s.mode) c.new-reader.ensures in
    record {
      reached = ap (λ (s : State). Some s) (sym c.new-reader.ensures);
      shallow = shallow_start c.args.bytes.now;
      place = refl;
      line = omega arith;
      first = omega arith;
      column = omega arith;
      offset = refl;
      few_braces = rw e (omega arith);
    }

pub returns-in-Err-Depth : goal.returns-in-Err-Depth
returns-in-Err-Depth c = (
  c.loop-b.b-index,
  c.loop-b.invariant.place,
  stops_deep _ _ _ _ _ c.loop-b-test.true c.loop-b.invariant.reached c.loop-b.invariant.shallow c.loop-b.invariant.place (rw c.in-Err-Depth.field-0-is at c.in-Err-Depth.ensures.gives),
)

pub loop-b-preserved : goal.loop-b-preserved
loop-b-preserved c =
    let reached = reaches_more _ _ _ _ _ c.loop-b-test.true c.loop-b.invariant.reached c.loop-b.invariant.place c.in-Ok.ensures.gives in
    record {
      reached = reached;
      shallow = shallow_more _ _ _ c.loop-b.invariant.shallow reached c.in-Ok.ensures.shallow;
      place = place_more _ _ _ _ c.loop-b-test.true c.loop-b.invariant.place c.advance-here.ensures.value;
      line = omega arith;
      first = omega arith;
      column = omega arith;
      offset = omega arith;
      few_braces = omega (arith, c.in-Ok.ensures.depth);
    }
