use Rattle.std.proofs.Common.{◌-◌, ◌≤◌, ◌^◌, length, [], ◌∷◌, ◌&&◌, ◌||◌, ◌++◌, not, List, drop, reverse, drop_of_length-le, le_refl, sym, ap, subst, ◌∙◌, arith}
use Rattle.std.proofs.lemmas.List.{reverse-append}
use Rattle.reg_rows.specs.Row.{has}
use Rattle.rtx_tree.specs.declared.function.Insn.{Insn}
use Rattle.reg_uses.specs.Uses.{insn_uses, insn_defines}
use Rattle.std.proofs.lemmas.List.Elements.{All-push}
use Rattle.live_chain.specs.Narrow.{AreNarrow}
use Rattle.live_chain.specs.machine.Window.{AreRowsOf, first_has}
use Rattle.live_chain.proofs.WindowLaws.{AreRowsOf-cons, drop_step}
use Rattle.live_chain.proofs.within.add_rows.Goals as goal

pub loop-at-init : goal.loop-at-init
loop-at-init c = record {
  place = omega arith;
  rows = λ after are. subst (λ (w : List Insn). AreRowsOf (w ++ after) (has c.args.behind.now) (reverse c.args.rows.now)) (sym (drop_of_length-le c.args.window.now (le_refl _))) are;
  narrow = c.requires.rows;
}

pub loop-at-preserved : goal.loop-at-preserved
loop-at-preserved c =
    let at = c.loop-at.at in
    let window = c.args.window.now in
    let i = c.index-window-at.result in
    record {
      place = omega (arith, c.loop-at.invariant.place);
      rows = λ after are. subst (AreRowsOf (drop (at - 1) window ++ after) (has c.args.behind.now)) (sym (ap reverse c.in_ok-push.ensures.ok ∙ reverse-append c.loop-at.rows (c.in_ok-row.row ∷ [])))
          (AreRowsOf-cons (drop at window ++ after) (drop (at - 1) window ++ after) i c.args.behind.now c.in_ok-row.row (reverse c.loop-at.rows)
          (ap (λ (w : List Insn). w ++ after) (drop_step window at i (omega (arith, c.loop-at-test.true)) (omega (arith, c.loop-at.invariant.place)) c.index-window-at.is))
          (c.loop-at.invariant.rows after are)
          (λ reg. c.in_ok-row.ensures.row reg ∙ ap (λ l. insn_uses i reg || (not (insn_defines i reg) && first_has (reverse l) c.args.behind.now reg)) c.as_slice.ensures.value));
      narrow = subst AreNarrow (sym c.in_ok-push.ensures.ok) (All-push (λ row. length row ≤ 2 ^ 26) c.loop-at.rows c.in_ok-row.row c.loop-at.invariant.narrow c.in_ok-row.ensures.narrow);
    }

pub returns-clause-rows : goal.returns-clause-rows
returns-clause-rows c = λ after are.
    let none = c.loop-at-test.false in
    subst (λ n. AreRowsOf (drop n c.args.window.now ++ after) (has c.args.behind.now) (reverse c.loop-at.rows)) {x = c.loop-at.at} {y = 0} (omega (arith, none)) (c.loop-at.invariant.rows after are)
