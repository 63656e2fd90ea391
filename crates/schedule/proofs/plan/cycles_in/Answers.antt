use Rattle.std.proofs.Common.{◌<◌, length, get_or, refl, arith}
use Rattle.std.proofs.lemmas.List.{get_or_default}
use Rattle.schedule.specs.Schedule.{with_cycles}
use Rattle.schedule.proofs.PlanLaws.{item_more, length_with, with_at}
use Rattle.schedule.proofs.plan.cycles_in.Goals as goal

pub loop-place-preserved : goal.loop-place-preserved
loop-place-preserved c =
    let a = c.args in
    let l = c.loop-place in
    let insns = a.insns.now in
    let cycles = a.cycles.now in
    let place = get_or a.order.now l.place-index 0 in
    let low : place < length insns = c.requires.within l.place-index 0 c.loop-place-test.true in
    let i = get_or insns place c.index-insns-place.result in
    let long = length_with insns cycles c.requires.long in
    item_more l.told c.push.new.self (with_cycles insns cycles) a.order.now l.place-index place (record { uid = i.uid; cycle = get_or cycles place 0 })
    l.invariant c.loop-place-test.true refl (omega (arith, low, long))
    (with_at insns cycles place i (record { uid = i.uid; cycle = get_or cycles place 0 }) c.requires.long low (get_or_default insns place c.index-insns-place.result i low))
    c.in_ok-push.ensures.ok
