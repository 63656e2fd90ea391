use Rattle.std.proofs.Common.{sym, subst, ◌∙◌, arith}
use Rattle.combine.specs.Combine.{NoneBefore, NoneLeft}
use Rattle.combine.specs.machine.Found.{LastPair, IsNext}
use Rattle.combine.proofs.Next.{none_here, none_left, is_next}
use Rattle.combine.proofs.search.next_pair.Goals as goal

pub returns-in-Some-clause-next : goal.returns-in-Some-clause-next
returns-in-Some-clause-next c =
    let a = c.args in
    let l = c.loop-second in
    subst (λ f. IsNext a.desc.now f c.in-Some.pair) l.invariant.same
    (is_next a.desc.now l.chain l.second c.in-Some.pair l.invariant.none (subst (LastPair a.desc.now l.chain l.second) c.in-Some.is c.in_ok-pair.ensures.last))

pub loop-second-preserved : goal.loop-second-preserved
loop-second-preserved c =
    let a = c.args in
    let l = c.loop-second in
    let none = none_here a.desc.now l.chain l.second l.invariant.none (subst (LastPair a.desc.now l.chain l.second) c.in_default.is c.in_ok-pair.ensures.last) in
    record {
      none = subst (λ f. NoneBefore a.desc.now f c.in_ok-second.second) (sym c.in_ok-pair.ensures.same) (subst (NoneBefore a.desc.now l.chain) (sym c.in_ok-second.ensures) none);
      same = c.in_ok-pair.ensures.same ∙ l.invariant.same;
    }

pub returns-clause-next : goal.returns-clause-next
returns-clause-next c =
    let l = c.loop-second in
    subst (NoneLeft c.args.desc.now) l.invariant.same
    (none_left c.args.desc.now l.chain l.second (omega (arith, c.len.ensures, c.loop-second-test.false)) l.invariant.none)
