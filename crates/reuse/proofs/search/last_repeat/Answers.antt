use Rattle.std.proofs.Common.{◌≡◌, ◌+◌, ◌-◌, None, Some, refl, sym, subst, ◌∙◌, arith}
use Rattle.reuse.specs.machine.Found.{KeptFrom, Tried, NoneFrom, LastRepeat, AreAhead}
use Rattle.reuse.proofs.Found.{none_computed, kept_none}
use Rattle.reuse.proofs.Next.{none_from, one_less, none_at_all, none_ahead, none_either}
use Rattle.reuse.proofs.search.last_repeat.Goals as goal

pub returns-then-not-sets_computed-clause-last : goal.returns-then-not-sets_computed-clause-last
returns-then-not-sets_computed-clause-last c =
    none_computed c.args.desc.now c.args.chain.now c.args.second c.insn.result.now c.insn.ensures (c.sets_computed.ensures c.if-not-sets_computed.true)

pub returns-then-firsts-least-clause-last : goal.returns-then-firsts-least-clause-last
returns-then-firsts-least-clause-last c =
    none_ahead c.args.desc.now c.args.chain.now c.args.second c.args.firsts c.requires.ahead (omega (arith, c.saturating_sub-least.ensures, c.if-firsts-least.true))

pub tried_ahead-requires-clause-ahead : goal.tried_ahead-requires-clause-ahead
tried_ahead-requires-clause-ahead c = subst (λ f. AreAhead c.args.desc.now f c.args.second c.args.firsts) (sym c.loop-first.invariant.same) c.requires.ahead

pub loop-first-init : goal.loop-first-init
loop-first-init c = record {
  none = none_from c.args.desc.now c.args.chain.now c.args.second;
  kept = kept_none c.args.chain.now c.args.second;
  same = refl;
  upto = omega arith;
}

pub returns-then-not-branch-clause-last : goal.returns-then-not-branch-clause-last
returns-then-not-branch-clause-last c =
    let a = c.args in
    let l = c.loop-first in
    let is : l.first ≡ (l.first - 1) + 1 = omega (arith, c.loop-first-test.true) in
    subst (λ f. LastRepeat a.desc.now f a.second None) l.invariant.same
    (none_either a.desc.now l.chain a.second l.first (l.first - 1) is l.invariant.none (c.in_ok-is_kept.ensures.none c.if-not-branch.true a.desc.now))

pub tried_ahead-requires-clause-kept : goal.tried_ahead-requires-clause-kept
tried_ahead-requires-clause-kept c =
    let l = c.loop-first in
    let is : l.first ≡ (l.first - 1) + 1 = omega (arith, c.loop-first-test.true) in
    c.in_ok-is_kept.ensures.kept c.if-not-branch.false (subst (λ p. KeptFrom l.chain p c.args.second) is l.invariant.kept)

pub returns-in-Some-clause-last : goal.returns-in-Some-clause-last
returns-in-Some-clause-last c =
    let a = c.args in
    let l = c.loop-first in
    let is : l.first ≡ (l.first - 1) + 1 = omega (arith, c.loop-first-test.true) in
    subst (λ f. LastRepeat a.desc.now f a.second (Some (record { first = l.first - 1; second = a.second; new = c.in-Some.new }))) l.invariant.same
    (record {
      second_is = refl;
      repeats = subst (Tried a.desc.now l.chain (l.first - 1) a.second) c.in-Some.is c.in_ok-new.ensures.repeats;
      last = subst (NoneFrom a.desc.now l.chain a.second) is l.invariant.none;
    })

pub loop-first-preserved : goal.loop-first-preserved
loop-first-preserved c =
    let a = c.args in
    let l = c.loop-first in
    let is : l.first ≡ (l.first - 1) + 1 = omega (arith, c.loop-first-test.true) in
    let none = subst (Tried a.desc.now l.chain (l.first - 1) a.second) c.in_default.is c.in_ok-new.ensures.repeats in
    let kept = c.in_ok-is_kept.ensures.kept c.if-not-branch.false (subst (λ p. KeptFrom l.chain p a.second) is l.invariant.kept) in
    record {
      none = subst (λ f. NoneFrom a.desc.now f a.second (l.first - 1)) (sym c.in_ok-new.ensures.same) (one_less a.desc.now l.chain a.second l.first (l.first - 1) is l.invariant.none none);
      kept = subst (λ f. KeptFrom f (l.first - 1) a.second) (sym c.in_ok-new.ensures.same) kept;
      same = c.in_ok-new.ensures.same ∙ l.invariant.same;
      upto = omega (arith, l.invariant.upto);
    }

pub returns-clause-last : goal.returns-clause-last
returns-clause-last c =
    let a = c.args in
    let l = c.loop-first in
    subst (λ f. LastRepeat a.desc.now f a.second None) l.invariant.same
    (none_at_all a.desc.now l.chain a.second l.first l.invariant.none (omega (arith, c.saturating_sub-least.ensures, c.loop-first-test.false)))
