use Rattle.std.proofs.Common.{◌≡◌, ℕ, ◌+◌, ◌||◌, ◌&&◌, not, ltb, ◌++◌, ◌∷◌, [], List, length, map, get_or, sym, ap, subst, ◌∙◌, arith}
use Rattle.std.specs.List.{find}
use Rattle.std.proofs.lemmas.List.{map_push, take_more}
use Rattle.reg_rows.specs.Table.{has_at}
use Rattle.assign.specs.declared.home.HomeOf.{HomeOf}
use Rattle.assign.specs.machine.Picked.{beside, is_hard, home_from, AreAlike, AreBlocked, IsPicked}
use Rattle.assign.proofs.PickLaws.{IsPicked-push, AreBlocked-push, first_unblocked, whole}
use Rattle.assign.proofs.pick.pick.Goals as goal

pub loop-pseudo-preserved : goal.loop-pseudo-preserved
loop-pseudo-preserved c =
    let rows = c.args.rows.now in
    let order = c.args.order.now in
    let inv = c.loop-pseudo.invariant in
    let homes = c.loop-pseudo.homes in
    let old = c.loop-pseudo.blocked.items in
    let new = c.block_home.new.blocked in
    let pseudo = get_or c.args.pseudos.now c.loop-pseudo.pseudo-index 0 in
    let home = c.first_free-home.result in
    let x : HomeOf = record { pseudo = pseudo; home = home } in
    let pushed : c.push.new.self ≡ homes ++ x ∷ [] = c.in_ok-push.ensures.ok in
    let same = whole c.loop-pseudo.blocked.len new _ (omega arith) in
    let long : length old ≡ 64 = omega (arith, inv.long) in
    let each : (h r : ℕ) → has_at new h r ≡ (has_at old h r || ((ltb h 64 && is_hard home h) && has_at rows (64 + pseudo) r)) = λ h r.
    c.block_home.ensures.each h r ∙
    (ap (λ (bs : List (List ℕ)). has_at bs h r || ((ltb h (length bs) && is_hard home h) && has_at rows (64 + pseudo) r)) c.as_mut_slice.ensures.value ∙
    ap (λ n. has_at old h r || ((ltb h n && is_hard home h) && has_at rows (64 + pseudo) r)) long) in
    let first =
    c.first_free-home.ensures ∙
    (ap (λ (bs : List (List ℕ)). home_from (find (λ hard. not (has_at bs hard (64 + pseudo))) order)) c.as_slice.ensures.value ∙
    ap home_from (first_unblocked rows order homes old (64 + pseudo) c.requires.order inv.blocked)) in
    record {
      long = inv.long;
      alike = subst (AreAlike rows) (sym same) c.block_home.ensures.alike;
      blocked = subst (λ (bs : List (List ℕ)). AreBlocked rows c.push.new.self bs) (sym same) (subst (λ (held : List HomeOf). AreBlocked rows held new) (sym pushed) (AreBlocked-push rows homes old new x inv.blocked each));
      pseudos = ap (map (λ (y : HomeOf). y.pseudo)) pushed ∙ (map_push (λ (y : HomeOf). y.pseudo) homes x ∙ (ap (λ (v : List ℕ). v ++ pseudo ∷ []) inv.pseudos ∙ sym (take_more c.args.pseudos.now c.loop-pseudo.pseudo-index 0 (omega arith))));
      picked = subst (IsPicked (beside rows) order) (sym pushed) (IsPicked-push (beside rows) order homes x inv.picked first);
    }
