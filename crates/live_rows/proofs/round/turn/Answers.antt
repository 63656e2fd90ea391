use Rattle.std.proofs.Common.{◌≡◌, ℕ, ◌*◌, ◌<◌, ◌||◌, List, Some, length, refl, sym, ap, subst, ◌∙◌, arith}
use Rattle.std.specs.Prelude.{slice_get, All}
use Rattle.std.proofs.lemmas.Option.{slice_get_read}
use Rattle.reg_rows.specs.Row.{lists}
use Rattle.live_rows.specs.machine.Waiting.{listed_at, lists_in, waits}
use Rattle.live_rows.proofs.BackLaws.{all_below}
use Rattle.live_rows.proofs.PathLaws.{IsSound-visit}
use Rattle.live_rows.proofs.WaitLaws.{IsPending-grew, IsPending-same}
use Rattle.live_rows.proofs.round.turn.Goals as goal

pub returns-then-not-visit-clause-pending : goal.returns-then-not-visit-clause-pending
returns-then-not-visit-clause-pending c =
    let nodes = c.args.nodes.now in
    let node = c.index-nodes-at.result in
    let here : slice_get nodes c.args.at ≡ Some node = slice_get_read nodes _ c.args.at node refl (omega arith) c.index-nodes-at.is in
    IsPending-same nodes c.args.rows.now c.visit.new.rows c.args.at node here c.if-not-visit.ensures.each c.args.now.now c.args.next.now (c.if-not-visit.ensures.same refl) c.requires.pending

pub put_all_off-requires-clause-now : goal.put_all_off-requires-clause-now
put_all_off-requires-clause-now c =
    let back = c.args.back.now in
    let list = c.index-back-at.result in
    let here : slice_get back c.args.at ≡ Some list = slice_get_read back _ c.args.at list refl (omega arith) c.index-back-at.is in
    subst (All (λ q. q < 64 * length c.args.now.now)) (sym c.as_slice.ensures.value) (all_below back (length c.args.nodes.now) (64 * length c.args.now.now) c.args.at list c.requires.now c.requires.back.below here)

pub put_all_off-requires-clause-next : goal.put_all_off-requires-clause-next
put_all_off-requires-clause-next c =
    let back = c.args.back.now in
    let list = c.index-back-at.result in
    let here : slice_get back c.args.at ≡ Some list = slice_get_read back _ c.args.at list refl (omega arith) c.index-back-at.is in
    subst (All (λ q. q < 64 * length c.args.next.now)) (sym c.as_slice.ensures.value) (all_below back (length c.args.nodes.now) (64 * length c.args.next.now) c.args.at list c.requires.next c.requires.back.below here)

pub returns-clause-sound : goal.returns-clause-sound
returns-clause-sound c =
    let nodes = c.args.nodes.now in
    let node = c.index-nodes-at.result in
    let here : slice_get nodes c.args.at ≡ Some node = slice_get_read nodes _ c.args.at node refl (omega arith) c.index-nodes-at.is in
    IsSound-visit nodes c.args.rows.now c.visit.new.rows c.args.at node here c.if-not-visit.ensures.each c.requires.sound

pub returns-clause-pending : goal.returns-clause-pending
returns-clause-pending c =
    let nodes = c.args.nodes.now in
    let node = c.index-nodes-at.result in
    let back = c.args.back.now in
    let list = c.index-back-at.result in
    let at = c.args.at in
    let here : slice_get nodes at ≡ Some node = slice_get_read nodes _ at node refl (omega arith) c.index-nodes-at.is in
    let there : slice_get back at ≡ Some list = slice_get_read back _ at list refl (omega arith) c.index-back-at.is in
    let each : (q : ℕ) → waits at c.put_all_off.new.now c.put_all_off.new.next q ≡ (waits at c.args.now.now c.args.next.now q || listed_at back at q) = λ q.
    c.put_all_off.ensures.each q ∙ ap (λ b. waits at c.args.now.now c.args.next.now q || b) (ap (λ (l : List ℕ). lists l q) c.as_slice.ensures.value ∙ sym (ap (λ o. lists_in o q) there)) in
    IsPending-grew nodes c.args.rows.now c.visit.new.rows at node here c.if-not-visit.ensures.each back c.args.now.now c.args.next.now c.put_all_off.new.now c.put_all_off.new.next c.requires.back each c.requires.pending
