use Rattle.std.proofs.Common.{◌≡◌, ℕ, ◌+◌, ◌||◌, ◌&&◌, eqb, ltb, List, length, sym, ap, subst, ◌∙◌, arith}
use Rattle.reg_rows.specs.Table.{has_at}
use Rattle.assign.specs.machine.Picked.{AreAlike}
use Rattle.assign.proofs.PickLaws.{AreOwn, AreOwn-more, AreBlocked-own, whole}
use Rattle.assign.proofs.pick.blocked_by_own.Goals as goal

pub loop-hard-preserved : goal.loop-hard-preserved
loop-hard-preserved c =
    let rows = c.args.rows.now in
    let inv = c.loop-hard.invariant in
    let hard = c.loop-hard.hard in
    let old = c.loop-hard.blocked.items in
    let new = c.block.new.blocked in
    let same = whole c.loop-hard.blocked.len new _ (omega arith) in
    let long : length old ≡ 64 = omega (arith, inv.long) in
    let each : (x y : ℕ) → has_at new x y ≡ (has_at old x y || ((ltb x 64 && eqb hard x) && has_at rows hard y)) = λ x y.
    c.block.ensures.each x y ∙
    (ap (λ (bs : List (List ℕ)). has_at bs x y || ((ltb x (length bs) && eqb hard x) && has_at rows hard y)) c.as_mut_slice.ensures.value ∙
    ap (λ n. has_at old x y || ((ltb x n && eqb hard x) && has_at rows hard y)) long) in
    record {
      long = inv.long;
      alike = subst (AreAlike rows) (sym same) c.block.ensures.alike;
      own = subst (AreOwn rows (hard + 1)) (sym same) (AreOwn-more rows old new hard (omega arith) inv.own each);
    }

pub returns-clause-blocked : goal.returns-clause-blocked
returns-clause-blocked c = AreBlocked-own c.args.rows.now c.loop-hard.blocked.items c.loop-hard.hard (omega arith) c.loop-hard.invariant.own
