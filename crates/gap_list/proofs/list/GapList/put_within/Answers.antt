use Rattle.std.proofs.Common.{◌+◌, ◌++◌, length, reverse, arith, sym, ap, ◌∙◌}
use Rattle.std.specs.List.{splice}
use Rattle.gap_list.proofs.InPlace.{within_two}
use Rattle.gap_list.proofs.list.GapList.put_within.Goals as goal

pub returns : goal.returns
returns g c =
    let a = c.args in
    let put = c.put_from-behind in
    let here = put.ensures.end in
    within_two a.self.now (put.new.front.items ++ reverse put.new.back.items) (c.out_from.new.front.items ++ reverse c.out_from.new.back.items) a.new a.first put.result a.end
    here (omega (arith, c.requires.shorter, here)) c.requires.within
    (put.ensures.list ∙ (ap (λ l. splice l a.first (a.first + length a.new) a.new) c.self.view_is ∙ ap (λ n. splice a.self.now a.first n a.new) (sym here)))
    c.out_from.ensures
