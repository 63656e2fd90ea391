use Rattle.std.proofs.Common.{◌≡◌, ◌++◌, reverse, take, drop, arith, sym, ap, map-id, ◌∙◌}
use Rattle.std.proofs.lemmas.Iterator.{items_from_drains}
use Rattle.std.proofs.lemmas.Iterator.Adapters.{YieldsList-from_vec}
use Rattle.gap_list.proofs.GapLaws.{put_in_front}
use Rattle.gap_list.proofs.list.GapList.splice.Goals as goal

pub returns-clause-ok : goal.returns-clause-ok
returns-clause-ok g c =
    let e = c.in_ok-_gone.ensures.items in
    let new : e.1 ≡ c.args.new =
    sym (map-id e.1) ∙
    (items_from_drains e.1 (e.3.1.0, e.3.1.1, λ _. (e.3.0, e.3.1.2))
    (YieldsList-from_vec _ e.2.0 (grind (arith, e.2.1, c.into_vec.result.ok))) ∙ c.into_vec.ensures) in
    let front = c.shift.new.front.items in
    let back = reverse c.shift.new.back.items in
    let whole : front ++ back ≡ c.args.self.now = c.shift.ensures.same ∙ c.self.view_is in
    ap (λ l. l ++ back) e.4 ∙
    (put_in_front front back e.1 c.args.first c.args.end c.requires.order (omega (arith, c.in_ok-shift.ensures.there)) ∙
    (ap (λ l. take c.args.first l ++ (e.1 ++ drop c.args.end l)) whole ∙
    ap (λ l. take c.args.first c.args.self.now ++ (l ++ drop c.args.end c.args.self.now)) new))
