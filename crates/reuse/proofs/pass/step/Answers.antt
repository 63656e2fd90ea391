use Rattle.std.proofs.Common.{Some, sym, subst, ◌∙◌}
use Rattle.reuse.specs.Reuse.{NoneRepeats, NoneDead}
use Rattle.reuse.specs.machine.Found.{NextRepeat, FirstDead, NoneDeadBefore, AreSeen}
use Rattle.reuse.proofs.pass.step.Goals as goal

pub put-requires-clause-next : goal.put-requires-clause-next
put-requires-clause-next c =
    subst (λ f. NextRepeat c.args.desc.now f (Some c.in-Some.repeat)) (sym c.in_ok-repeat.ensures.same) (subst (NextRepeat c.args.desc.now c.args.chain.now) c.in-Some.is c.in_ok-repeat.ensures.next)

pub put-requires-clause-seen : goal.put-requires-clause-seen
put-requires-clause-seen c = subst (λ f. AreSeen c.args.desc.now f c.args.sight) (sym c.in_ok-repeat.ensures.same) c.requires

pub first_dead-requires : goal.first_dead-requires
first_dead-requires c = subst (λ f. NoneDeadBefore f c.args.sight.dead) (sym c.in_ok-repeat.ensures.same) c.requires.alive

pub take-requires-clause-none : goal.take-requires-clause-none
take-requires-clause-none c =
    subst (NoneRepeats c.args.desc.now) (sym (c.in_ok-place.ensures.same ∙ c.in_ok-repeat.ensures.same)) (subst (NextRepeat c.args.desc.now c.args.chain.now) c.in_default.is c.in_ok-repeat.ensures.next)

pub returns-in-None : goal.returns-in-None
returns-in-None c = (
  c.in_ok-place.ensures.same ∙ c.in_ok-repeat.ensures.same,
  subst (NextRepeat c.args.desc.now c.args.chain.now) c.in_default.is c.in_ok-repeat.ensures.next,
  subst NoneDead c.in_ok-repeat.ensures.same (subst (FirstDead c.next_repeat.new.chain) c.in-None.is c.in_ok-place.ensures.first),
)
