use Rattle.std.proofs.Common.{◌≡◌, ℕ, List, ◌+◌, ◌≤◌, length, drop, ap, ◌∙◌, arith, length-set}
use Rattle.job_order.specs.Slots as spec
use Rattle.job_order.proofs.UnitLaws.{padded, way_more, way_ends}
use Rattle.job_order.proofs.units.taken_from.Goals as goal

pub loop-offset-init : goal.loop-offset-init
loop-offset-init c =
    let here : c.args.cycle + 0 ≡ c.args.cycle = omega arith in
    record {
      long = omega (arith, c.in_ok-all.ensures.len);
      taken = ap (λ (k : ℕ). spec.taken_from c.in_ok-all.all k c.args.way.now) here
          ∙ padded c.args.taken c.in_ok-all.all c.args.cycle c.args.way.now c.in_ok-all.ensures.items c.in_ok-all.ensures.len;
    }

pub loop-offset-preserved : goal.loop-offset-preserved
loop-offset-preserved c =
    let l = c.loop-offset in
    let within : l.offset + 1 ≤ length c.args.way.now = omega (arith, c.loop-offset-test.true) in
    record {
      long = omega (arith, ap length c.replace.ensures.items, length-set {A = ℕ}, l.invariant.long);
      taken = ap (λ (ts : List ℕ). spec.taken_from ts (c.args.cycle + (l.offset + 1)) (drop (l.offset + 1) c.args.way.now)) c.replace.ensures.items
          ∙ way_more l.all c.args.cycle l.offset c.item-old.result.now c.args.way.now _ c.loop-offset-test.true c.item-old.ensures (omega (arith, l.invariant.long)) l.invariant.taken;
    }

pub returns : goal.returns
returns c =
    let l = c.loop-offset in
    way_ends l.all c.args.cycle l.offset c.args.way.now _ c.loop-offset-test.false (omega (arith, l.invariant.long, l.auto.offset-end)) l.invariant.taken
