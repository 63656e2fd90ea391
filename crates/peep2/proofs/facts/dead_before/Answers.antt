use Rattle.std.proofs.Common.{◌≡◌, ◌↔◌, true, refl, subst, ◌∙◌, arith}
use Rattle.rtx_tree.specs.declared.function.Function.{Function}
use Rattle.live.specs.Live.{IsLive}
use Rattle.peep2.proofs.Dead.{AreDeadBelow, none_below, one_more}
use Rattle.peep2.proofs.facts.dead_before.Goals as goal

pub loop-reg-init : goal.loop-reg-init
loop-reg-init c = record { same = refl; dead = none_below (λ reg. IsLive c.args.chain.now reg c.args.place) c.new-dead.result c.new-dead.ensures }

pub loop-reg-preserved : goal.loop-reg-preserved
loop-reg-preserved c = record {
  same = c.is_live_before.ensures.same ∙ c.loop-reg.invariant.same;
  dead = one_more (λ reg. IsLive c.args.chain.now reg c.args.place) c.loop-reg.dead c.add_dead.new.dead c.loop-reg.reg c.in_ok-is_live.is_live
      (subst (λ (f : Function). (c.in_ok-is_live.is_live ≡ true) ↔ IsLive f c.loop-reg.reg c.args.place) c.loop-reg.invariant.same c.in_ok-is_live.ensures.live)
      c.in_ok-add_dead.ensures c.loop-reg.invariant.dead;
}

pub returns-clause-dead : goal.returns-clause-dead
returns-clause-dead c = record {
  ordered = c.contains-first.ensures.ordered;
  each = subst (AreDeadBelow (λ reg. IsLive c.args.chain.now reg c.args.place) c.loop-reg.dead) (omega (arith, c.loop-reg-test.false, c.loop-reg.auto.reg-end)) c.loop-reg.invariant.dead;
}
