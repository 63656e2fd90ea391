use Rattle.std.proofs.Common.{◌+◌, ◌-◌, refl, subst, ◌∙◌, arith}
use Rattle.rtx_tree.specs.declared.function.Function.{Function}
use Rattle.peep2.specs.Rewrite.{AreDeadBefore, AreDeadAfter}
use Rattle.peep2.proofs.Dead.{no_front, front_more, front_whole}
use Rattle.peep2.proofs.facts.dead_in.Goals as goal

pub loop-point-init : goal.loop-point-init
loop-point-init c = record { same = refl; front = no_front c.args.chain.now c.args.place c.args.count c.new-dead.result c.new-dead.ensures }

pub loop-point-preserved : goal.loop-point-preserved
loop-point-preserved c = record {
  same = c.dead_before.ensures.same ∙ c.loop-point.invariant.same;
  front = front_more c.args.chain.now c.args.place c.args.count c.loop-point.dead c.push.new.self c.in_ok-regs.regs c.loop-point.point c.in_ok-push.ensures.ok
      (subst (λ (f : Function). AreDeadBefore f (c.args.place + c.loop-point.point) c.in_ok-regs.regs) c.loop-point.invariant.same c.in_ok-regs.ensures.dead) c.loop-point.invariant.front;
}

pub returns-clause-dead : goal.returns-clause-dead
returns-clause-dead c =
    front_whole c.args.chain.now c.args.place c.args.count c.loop-point.dead c.push-2.new.self c.in_ok-regs_behind.regs_behind c.loop-point.point
    (omega (arith, c.loop-point-test.false, c.loop-point.auto.point-end)) c.in_ok-push-2.ensures.ok
    (subst (λ (f : Function). AreDeadAfter f (c.args.place + c.args.count - 1) c.in_ok-regs_behind.regs_behind) c.loop-point.invariant.same c.in_ok-regs_behind.ensures.dead) c.loop-point.invariant.front
