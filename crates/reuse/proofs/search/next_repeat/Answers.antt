use Rattle.std.proofs.Common.{length, refl, sym, ap, subst, ◌∙◌, arith}
use Rattle.rtx_tree.specs.declared.function.Function.{Function}
use Rattle.reuse.specs.Reuse.{NoneRepeats, IsNextRepeat}
use Rattle.reuse.specs.machine.Found.{AreWithin, LastRepeat}
use Rattle.reuse.proofs.Next.{NoneBetween, none_yet, one_more, none_past, is_next}
use Rattle.reuse.proofs.search.next_repeat.Goals as goal

pub loop-second-init : goal.loop-second-init
loop-second-init c = record { none = none_yet c.args.desc.now c.args.chain.now c.args.span c.requires; same = refl }

pub last_repeat-requires-clause-within : goal.last_repeat-requires-clause-within
last_repeat-requires-clause-within c =
    let same = ap (λ (f : Function). length f.insns) c.loop-second.invariant.same in
    omega (arith, same, c.len.ensures, c.min-end.ensures, c.loop-second-test.true)

pub last_repeat-requires-clause-ahead : goal.last_repeat-requires-clause-ahead
last_repeat-requires-clause-ahead c first new r = (subst (λ f. AreWithin c.args.desc.now f c.args.span) (sym c.loop-second.invariant.same) c.requires first c.loop-second.second new r).2

pub returns-in-Some-clause-next : goal.returns-in-Some-clause-next
returns-in-Some-clause-next c =
    let a = c.args in
    let l = c.loop-second in
    let r = c.in-Some.repeat in
    subst (λ f. IsNextRepeat a.desc.now f r.first r.second r.new) l.invariant.same
    (is_next a.desc.now l.chain a.span (subst (λ f. AreWithin a.desc.now f a.span) (sym l.invariant.same) c.requires) l.second r l.invariant.none (subst (LastRepeat a.desc.now l.chain l.second) c.in-Some.is c.in_ok-repeat.ensures.last))

pub loop-second-preserved : goal.loop-second-preserved
loop-second-preserved c =
    let a = c.args in
    let l = c.loop-second in
    let none = one_more a.desc.now l.chain a.span (subst (λ f. AreWithin a.desc.now f a.span) (sym l.invariant.same) c.requires) l.second c.in_ok-second.second c.in_ok-second.ensures l.invariant.none
    (subst (LastRepeat a.desc.now l.chain l.second) c.in_default.is c.in_ok-repeat.ensures.last) in
    record {
      none = subst (λ f. NoneBetween a.desc.now f a.span.from c.in_ok-second.second) (sym c.in_ok-repeat.ensures.same) none;
      same = c.in_ok-repeat.ensures.same ∙ l.invariant.same;
    }

pub returns-clause-next : goal.returns-clause-next
returns-clause-next c =
    let a = c.args in
    let l = c.loop-second in
    subst (NoneRepeats a.desc.now) l.invariant.same
    (none_past a.desc.now l.chain a.span (subst (λ f. AreWithin a.desc.now f a.span) (sym l.invariant.same) c.requires) l.second
    (λ low far. let same = ap (λ (f : Function). length f.insns) l.invariant.same in omega (arith, same, low, far, c.len.ensures, c.min-end.ensures, c.loop-second-test.false)) l.invariant.none)
