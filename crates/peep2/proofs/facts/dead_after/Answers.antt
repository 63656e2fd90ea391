use Rattle.std.proofs.Common.{◌≡◌, ◌↔◌, true, sym, subst, arith}
use Rattle.live.specs.Live.{IsLiveAfter}
use Rattle.peep2.proofs.Dead.{AreDeadBelow, none_below, one_more}
use Rattle.peep2.proofs.facts.dead_after.Goals as goal

pub loop-reg-init : goal.loop-reg-init
loop-reg-init c = none_below (λ reg. IsLiveAfter c.args.chain.now reg c.args.place) c.new-dead.result c.new-dead.ensures

pub loop-reg-preserved : goal.loop-reg-preserved
loop-reg-preserved c =
    one_more (λ reg. IsLiveAfter c.args.chain.now reg c.args.place) c.loop-reg.dead c.add_dead.new.dead c.loop-reg.reg c.contains.result
    (subst (λ b. (b ≡ true) ↔ IsLiveAfter c.args.chain.now c.loop-reg.reg c.args.place) (sym c.contains.ensures.has) (c.in_ok-live.ensures.live.each c.loop-reg.reg))
    c.in_ok-add_dead.ensures c.loop-reg.invariant

pub returns-clause-dead : goal.returns-clause-dead
returns-clause-dead c = record {
  ordered = c.contains-first.ensures.ordered;
  each = subst (AreDeadBelow (λ reg. IsLiveAfter c.args.chain.now reg c.args.place) c.loop-reg.dead) (omega (arith, c.loop-reg-test.false, c.loop-reg.auto.reg-end)) c.loop-reg.invariant;
}
