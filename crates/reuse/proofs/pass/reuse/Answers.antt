use Rattle.std.proofs.Common.{◌≡◌, zero, suc, sym, subst, ◌∙◌, arith}
use Rattle.reuse.specs.Reuse.{Steps, NoneRepeats, NoneDead}
use Rattle.reuse.specs.machine.Found.{Stepped}
use Rattle.reuse.proofs.Ends.{step_lighter}
use Rattle.reuse.proofs.Next.{all_within, steps_more}
use Rattle.reuse.proofs.pass.reuse.Goals as goal

pub loop-chain-init : goal.loop-chain-init
loop-chain-init c = record {
  reached = subst (Steps c.args.desc.now zero c.args.f) (sym c.of-chain.ensures) (Steps.none c.args.f);
  seen = record {
    within = all_within c.args.desc.now c.of-chain.result c.len-end.result c.len-end.ensures;
    alive = λ other below d. absurd (omega (arith, below));
  };
}

pub loop-chain-smaller : goal.loop-chain-smaller
loop-chain-smaller c =
    let l = c.loop-chain in
    let stepped = subst (Stepped c.args.desc.now l.chain c.step.new.chain) c.in-Some.is c.in_ok-next.ensures in
    step_lighter c.args.desc.now l.chain c.step.new.chain stepped.0

pub loop-chain-preserved : goal.loop-chain-preserved
loop-chain-preserved c =
    let l = c.loop-chain in
    let stepped = subst (Stepped c.args.desc.now l.chain c.step.new.chain) c.in-Some.is c.in_ok-next.ensures in
    let one : c.in_ok-count.count ≡ suc l.count = omega (arith, c.in_ok-count.ensures) in
    record {
      reached = subst (λ n. Steps c.args.desc.now n c.args.f c.step.new.chain) (sym one) (steps_more c.args.desc.now l.count c.args.f l.chain c.step.new.chain l.invariant.reached stepped.0);
      seen = stepped.1;
    }

pub returns-clause-reused : goal.returns-clause-reused
returns-clause-reused c =
    let l = c.loop-chain in
    let none = subst (Stepped c.args.desc.now l.chain c.step.new.chain) c.in_default.is c.in_ok-next.ensures in
    let is : l.chain ≡ c.in_ok-into_function.field-0 = sym none.0 ∙ sym c.in_ok-into_function.ensures in
    record {
      steps = subst (Steps c.args.desc.now l.count c.args.f) is l.invariant.reached;
      none_repeats = subst (NoneRepeats c.args.desc.now) is none.1;
      none_dead = subst NoneDead is none.2;
    }
