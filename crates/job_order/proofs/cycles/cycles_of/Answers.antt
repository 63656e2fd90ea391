use Rattle.std.proofs.Common.{◌≡◌, ◌+◌, Some, false, length, sym, ap, subst, ◌∙◌, arith}
use Rattle.std.specs.Prelude.{slice_get}
use Rattle.dfa_ways.specs.Ways.{Way}
use Rattle.job_order.specs.declared.placed.Placed.{Placed}
use Rattle.job_order.specs.Jobs.{IsJob}
use Rattle.job_order.specs.Order as spec
use Rattle.job_order.specs.Order.{Places, done, one}
use Rattle.job_order.specs.machine.Bounds.{HasRoom, unplaced}
use Rattle.job_order.proofs.CycleLaws.{there, next_some, next_none}
use Rattle.job_order.proofs.NextLaws.{next_unplaced}
use Rattle.job_order.proofs.RoomLaws.{room_none, one_less, small, room_more}
use Rattle.job_order.proofs.cycles.cycles_of.Goals as goal

pub loop-place-init : goal.loop-place-init
loop-place-init c =
    let jobs = c.args.jobs.now in
    let made : c.in_ok-placed.placed ≡ spec.none_placed (length jobs) = c.in_ok-placed.ensures in
    record {
      leads = λ cycles rest. subst (λ (p : Placed). Places jobs p cycles) made rest;
      room = subst (HasRoom jobs) (sym made) (room_none jobs);
    }

pub with-requires-clause-small : goal.with-requires-clause-small
with-requires-clause-small c =
    let jobs = c.args.jobs.now in
    let s = c.loop-place.placed in
    let k = c.in-Some.place in
    let j = c.index-jobs-place.result in
    let job : IsJob k j = rw c.index-jobs-place.is (c.requires.each k j c.in-Some.ensures.within) in
    let new : spec.is_placed s k ≡ false = next_unplaced s c.as_slice.result.now 0 k jobs (sym c.in-Some.ensures.next) in
    rw c.as_slice-in-Some.ensures.value (small jobs s k j c.slot_for-slot.result.cycle c.slot_for-slot.result.way.now c.loop-place.invariant.room c.in-Some.ensures.within job c.slot_for-slot.ensures new c.requires.few)

pub loop-place-smaller : goal.loop-place-smaller
loop-place-smaller c =
    let jobs = c.args.jobs.now in
    let s = c.loop-place.placed in
    let k = c.in-Some.place in
    let j = c.index-jobs-place.result in
    let cycle = c.slot_for-slot.result.cycle in
    let way = c.slot_for-slot.result.way.now in
    let job : IsJob k j = rw c.index-jobs-place.is (c.requires.each k j c.in-Some.ensures.within) in
    let new : spec.is_placed s k ≡ false = next_unplaced s c.as_slice.result.now 0 k jobs (sym c.in-Some.ensures.next) in
    let made : c.in_ok-placed-2.placed ≡ spec.placed_at s k cycle way = c.in_ok-placed-2.ensures ∙ ap (λ (w : Way). spec.placed_at s k cycle w) c.as_slice-in-Some.ensures.value in
    let less : unplaced (spec.placed_at s k cycle way) + 1 ≡ unplaced s = one_less jobs s k j cycle way c.loop-place.invariant.room c.in-Some.ensures.within job c.slot_for-slot.ensures new in
    let same : unplaced c.in_ok-placed-2.placed ≡ unplaced (spec.placed_at s k cycle way) = ap unplaced made in
    omega (arith, less, same)

pub loop-place-preserved : goal.loop-place-preserved
loop-place-preserved c =
    let jobs = c.args.jobs.now in
    let s = c.loop-place.placed in
    let k = c.in-Some.place in
    let j = c.index-jobs-place.result in
    let cycle = c.slot_for-slot.result.cycle in
    let way = c.slot_for-slot.result.way.now in
    let job : IsJob k j = rw c.index-jobs-place.is (c.requires.each k j c.in-Some.ensures.within) in
    let new : spec.is_placed s k ≡ false = next_unplaced s c.as_slice.result.now 0 k jobs (sym c.in-Some.ensures.next) in
    let n : spec.next jobs s ≡ Some k = next_some jobs s c.as_slice.result.now c.in_ok-heights.heights k c.as_slice.ensures.value c.in_ok-heights.ensures.heights c.in-Some.ensures.next in
    let at : slice_get jobs k ≡ Some j = there jobs k j c.in-Some.ensures.within c.index-jobs-place.is in
    let made : c.in_ok-placed-2.placed ≡ spec.placed_at s k cycle way = c.in_ok-placed-2.ensures ∙ ap (λ (w : Way). spec.placed_at s k cycle w) c.as_slice-in-Some.ensures.value in
    record {
      leads = λ cycles rest. c.loop-place.invariant.leads cycles (one s k j cycle way cycles n at c.slot_for-slot.ensures (subst (λ (p : Placed). spec.Places jobs p cycles) made rest));
      room = subst (HasRoom jobs) (sym made) (room_more jobs s k j cycle way c.loop-place.invariant.room c.in-Some.ensures.within job c.slot_for-slot.ensures new);
    }

pub returns : goal.returns
returns c =
    let jobs = c.args.jobs.now in
    let s = c.loop-place.placed in
    c.loop-place.invariant.leads s.cycles (done s (next_none jobs s c.as_slice.result.now c.in_ok-heights.heights c.as_slice.ensures.value c.in_ok-heights.ensures.heights c.in_default.ensures.next))
