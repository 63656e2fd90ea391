use Rattle.std.proofs.Common.{zero, suc, length, sym, ap, subst, arith}
use Rattle.rtx_tree.specs.declared.function.Function.{Function}
use Rattle.combine.specs.Combine.{IsStep, Steps, NoneLeft}
use Rattle.combine.specs.machine.Found.{NextPair}
use Rattle.combine.proofs.Ends.{step_long}
use Rattle.combine.proofs.Front.{none_first}
use Rattle.combine.proofs.Next.{steps_more}
use Rattle.combine.proofs.pass.combine_chain.Goals as goal

pub loop-pair-init : goal.loop-pair-init
loop-pair-init c = record {
  reached = (zero, Steps.none c.args.chain.now);
  none = none_first c.args.desc.now c.args.chain.now;
}

pub loop-pair-smaller : goal.loop-pair-smaller
loop-pair-smaller c =
    let long = step_long c.args.desc.now c.next_pair.new.chain c.put.new.chain c.in_ok-from.ensures.step in
    let same = ap (λ (g : Function). length g.insns) c.in_ok-pair.ensures.same in
    omega (arith, long, same)

pub loop-pair-preserved : goal.loop-pair-preserved
loop-pair-preserved c =
    let l = c.loop-pair in
    let one : IsStep c.args.desc.now l.chain c.put.new.chain = subst (λ f. IsStep c.args.desc.now f c.put.new.chain) c.in_ok-pair.ensures.same c.in_ok-from.ensures.step in
    record {
      reached = (suc l.invariant.reached.0, steps_more c.args.desc.now l.invariant.reached.0 c.args.chain.now l.chain c.put.new.chain l.invariant.reached.1 one);
      none = c.in_ok-from.ensures.none;
    }

pub returns-clause-whole : goal.returns-clause-whole
returns-clause-whole c =
    let l = c.loop-pair in
    (l.invariant.reached.0, subst (Steps c.args.desc.now l.invariant.reached.0 c.args.chain.now) (sym c.in_ok-pair.ensures.same) l.invariant.reached.1)

pub returns-clause-none : goal.returns-clause-none
returns-clause-none c =
    let l = c.loop-pair in
    subst (NoneLeft c.args.desc.now) (sym c.in_ok-pair.ensures.same)
    (subst (NextPair c.args.desc.now l.chain) c.in_default.is c.in_ok-pair.ensures.next)

pub returns-in_err-pair-clause-whole : goal.returns-in_err-pair-clause-whole
returns-in_err-pair-clause-whole c =
    let l = c.loop-pair in
    (l.invariant.reached.0, subst (Steps c.args.desc.now l.invariant.reached.0 c.args.chain.now) (sym c.next_pair.ensures.same) l.invariant.reached.1)
