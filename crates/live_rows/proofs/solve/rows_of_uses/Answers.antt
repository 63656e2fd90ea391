use Rattle.std.proofs.Common.{◌≡◌, ℕ, ◌+◌, ◌*◌, ◌<◌, ◌++◌, ◌∷◌, [], List, length, take, ap, sym, subst, ◌∙◌, arith, rules}
use Rattle.std.specs.Prelude.{All}
use Rattle.std.proofs.lemmas.List.{take_more}
use Rattle.reg_rows.specs.Row.{has, lists}
use Rattle.reg_rows.specs.Table.{has_at, IsTable}
use Rattle.live_rows.specs.declared.node.Node.{Node}
use Rattle.live_rows.specs.Paths.{Fits}
use Rattle.live_rows.specs.machine.Rows.{uses_at}
use Rattle.live_rows.proofs.TableLaws.{uses_push, IsTable-push}
use Rattle.live_rows.proofs.solve.rows_of_uses.Goals as goal

pub listed-requires : goal.listed-requires
listed-requires c =
    let node = c.node-item.result in
    let fits : Fits c.args.width node = subst (Fits c.args.width) (sym c.node-item.is) (c.requires.fits c.loop-node.node-index node (omega arith)) in
    subst (All (λ reg. reg < 64 * c.args.width)) (sym c.as_slice.ensures.value) fits.uses

pub loop-node-preserved : goal.loop-node-preserved
loop-node-preserved c =
    let inv = c.loop-node.invariant in
    let rows = c.loop-node.rows.items in
    let k = c.loop-node.node-index in
    let node = c.node-item.result in
    let row = c.in_ok-row.row in
    let pushed = c.in_ok-push.ensures.items in
    let before = take k c.args.nodes.now in
    let len : length before ≡ k = search rules in
    let here : (reg : ℕ) → has row reg ≡ lists node.uses reg = λ reg. c.in_ok-row.ensures.each reg ∙ ap (λ (regs : List ℕ). lists regs reg) c.as_slice.ensures.value in
    let more : take (k + 1) c.args.nodes.now ≡ before ++ node ∷ [] = take_more c.args.nodes.now k node (omega arith) ∙ ap (λ (n : Node). before ++ n ∷ []) (sym c.node-item.is) in
    record {
      long = search rules;
      table = subst (IsTable c.args.width) (sym pushed) (IsTable-push c.args.width rows row inv.table c.in_ok-row.ensures.width c.in_ok-row.ensures.fits);
      each = λ at reg. ap (λ (rs : List (List ℕ)). has_at rs at reg) pushed ∙ (uses_push rows before row node (omega (arith, inv.long, len)) inv.each here at reg ∙ ap (λ (ns : List Node). uses_at ns at reg) (sym more));
    }
