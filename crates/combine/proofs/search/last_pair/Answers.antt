use Rattle.std.proofs.Common.{◌-◌, ◌<◌, None, Some, sym, subst, ◌∙◌, arith}
use Rattle.combine.specs.machine.Found.{IsPair, Tried, NoneFrom, LastPair}
use Rattle.combine.proofs.Next.{one_less, none_at_all, is_last}
use Rattle.combine.proofs.search.last_pair.Goals as goal

pub returns-in-Some-clause-last : goal.returns-in-Some-clause-last
returns-in-Some-clause-last c =
    let a = c.args in
    let l = c.loop-first in
    let some : 0 < l.first = omega (arith, c.loop-first-test.true) in
    let pair : IsPair a.desc.now l.chain (l.first - 1) a.second c.in-Some.new = subst (Tried a.desc.now l.chain (l.first - 1) a.second) c.in-Some.is c.in_ok-new.ensures.pair in
    subst (λ f. LastPair a.desc.now f a.second (Some (record { first = l.first - 1; second = a.second; new = c.in-Some.new }))) l.invariant.same
    (is_last a.desc.now l.chain a.second l.first c.in-Some.new some l.invariant.none pair)

pub loop-first-preserved : goal.loop-first-preserved
loop-first-preserved c =
    let a = c.args in
    let l = c.loop-first in
    let none = subst (Tried a.desc.now l.chain (l.first - 1) a.second) c.in_default.is c.in_ok-new.ensures.pair in
    record {
      none = subst (λ f. NoneFrom a.desc.now f a.second (l.first - 1)) (sym c.in_ok-new.ensures.same) (one_less a.desc.now l.chain a.second l.first l.invariant.none none);
      same = c.in_ok-new.ensures.same ∙ l.invariant.same;
      upto = omega (arith, l.invariant.upto);
    }

pub returns-clause-last : goal.returns-clause-last
returns-clause-last c =
    let a = c.args in
    let l = c.loop-first in
    subst (λ f. LastPair a.desc.now f a.second None) l.invariant.same
    (none_at_all a.desc.now l.chain a.second l.first l.invariant.none (omega (arith, c.saturating_sub-least.ensures, c.loop-first-test.false)))
