use Rattle.std.proofs.Common.{ap, rules, ◌≡◌, true, arith}
use Rattle.std.specs.List.{list_all}
use Rattle.live_chain.specs.machine.Window.{passes}
use Rattle.live_chain.proofs.TailLaws.{none_ranged, passing_more}
use Rattle.live_chain.proofs.settled.passing_to.Goals as goal

pub loop-to-init : goal.loop-to-init
loop-to-init c = record {
  order = omega arith;
  within = c.requires.within;
  passing = ap (list_all passes) (none_ranged c.args.insns.now c.args.end);
}

pub loop-to-preserved : goal.loop-to-preserved
loop-to-preserved c =
    let l = c.loop-to in
    let on : passes c.item.result.now ≡ true = search rules in
    record {
      order = omega (arith, l.invariant.order);
      within = omega (arith, c.loop-to-test.true, c.min-most.ensures, c.len.ensures);
      passing = passing_more c.args.insns.now c.args.end l.to c.item.result.now l.invariant.order c.item.ensures on l.invariant.passing;
    }
