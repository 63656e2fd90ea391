use Rattle.std.proofs.Common.{refl, sym, subst, ◌∙◌, arith}
use Rattle.reuse.specs.Reuse.{NoneDead, IsFirstDead}
use Rattle.reuse.specs.machine.Found.{NoneDeadBefore}
use Rattle.reuse.proofs.Next.{dead_more, dead_past, dead_first}
use Rattle.reuse.proofs.dead.first_dead.Goals as goal

pub loop-place-init : goal.loop-place-init
loop-place-init c = record { none = c.requires; same = refl }

pub returns-then-branch-clause-first : goal.returns-then-branch-clause-first
returns-then-branch-clause-first c =
    let l = c.loop-place in
    subst (λ f. IsFirstDead f l.place) l.invariant.same (dead_first l.chain l.place l.invariant.none (c.in_ok-is_dead_set.ensures.dead c.if-branch.true))

pub loop-place-preserved : goal.loop-place-preserved
loop-place-preserved c =
    let l = c.loop-place in
    record {
      none = subst (λ f. NoneDeadBefore f c.in_ok-place.place) (sym c.in_ok-is_dead_set.ensures.same) (dead_more l.chain l.place c.in_ok-place.place c.in_ok-place.ensures l.invariant.none (c.in_ok-is_dead_set.ensures.other c.if-branch.false));
      same = c.in_ok-is_dead_set.ensures.same ∙ l.invariant.same;
    }

pub returns-clause-first : goal.returns-clause-first
returns-clause-first c =
    let l = c.loop-place in
    subst NoneDead l.invariant.same (dead_past l.chain l.place (omega (arith, c.len.ensures, c.loop-place-test.false)) l.invariant.none)
