use Rattle.std.proofs.Common.{◌≤◌, List, length, ap, rules, sym, subst, ◌∙◌, arith}
use Rattle.std.specs.Prelude.{slice_range}
use Rattle.rtx_tree.specs.declared.function.Insn.{Insn}
use Rattle.reg_rows.specs.Row.{has}
use Rattle.live_chain.specs.Rows.{AreRowsFor}
use Rattle.live_chain.specs.machine.Window.{AreLikeEnds, AreFound}
use Rattle.live_chain.proofs.KeptLaws.{on_inside}
use Rattle.live_chain.proofs.TailLaws.{found_made}
use Rattle.live_chain.proofs.kept.rows_for.Goals as goal

pub returns-clause-made : goal.returns-clause-made
returns-clause-made c = λ f is exact.
    let a = c.args in
    let behind = has c.in_ok-behind.behind in
    let ends : AreLikeEnds a.old.now a.new.now = search rules in
    on_inside (AreFound a.insns.now a.first a.end a.old.now a.new.now behind) (AreRowsFor f a.first a.end a.new.now) c.rows_from.result
    (λ inside are. found_made f a.first a.end a.old.now a.new.now a.rows.now behind inside (omega (arith, c.requires.order, c.if-first-end.false)) (subst (λ (l : List Insn). a.end ≤ length l) (sym is) c.requires.within)
    exact (c.in_ok-behind.ensures.live f is exact) (c.requires.old ∙ ap (λ (l : List Insn). slice_range l a.first a.end) (sym is)) ends
    (subst (λ l. AreFound l a.first a.end a.old.now a.new.now behind inside) (sym is) are))
    c.rows_from.ensures
