use Rattle.std.proofs.Common.{[], ◌++◌, List, reverse, append-nil, sym, ap, subst, arith}
use Rattle.reg_rows.specs.Row.{has}
use Rattle.rtx_tree.specs.declared.function.Insn.{Insn}
use Rattle.live_chain.specs.Narrow.{AreNarrow}
use Rattle.live_chain.specs.machine.Window.{AreRowsOf}
use Rattle.live_chain.proofs.WindowLaws.{narrow_turned}
use Rattle.live_chain.proofs.within.rows_within.Goals as goal

pub returns-clause-rows : goal.returns-clause-rows
returns-clause-rows c =
    let window = c.args.window.now in
    let none : AreRowsOf [] (has c.args.behind.now) (reverse c.new-rows.result) =
    subst (AreRowsOf [] (has c.args.behind.now)) (sym (ap reverse c.new-rows.ensures)) (record { long = omega arith; each = λ k reg l. absurd (omega (arith, l)) }) in
    let first = subst (λ (w : List Insn). AreRowsOf w (has c.args.behind.now) (reverse c.add_rows.new.rows)) (append-nil window) (c.in_ok-add_rows.ensures.rows [] none) in
    subst (AreRowsOf (c.args.front.now ++ window) (has c.args.behind.now)) (sym c.turned.ensures) (c.in_ok-add_rows-2.ensures.rows window first)

pub returns-clause-narrow : goal.returns-clause-narrow
returns-clause-narrow c = subst AreNarrow (sym c.turned.ensures) (narrow_turned c.add_rows-2.new.rows c.in_ok-add_rows-2.ensures.narrow)
