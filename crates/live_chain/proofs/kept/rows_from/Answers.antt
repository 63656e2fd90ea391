use Rattle.std.proofs.Common.{◌&&◌, ◌++◌, not, List, rules, ap, subst, ◌∙◌}
use Rattle.std.specs.Prelude.{slice_range}
use Rattle.reg_rows.specs.Row.{has}
use Rattle.rtx_tree.specs.RegSet.{has_reg}
use Rattle.rtx_tree.specs.declared.function.Insn.{Insn}
use Rattle.live_chain.specs.machine.Window.{is_settled, IsBlockTo, AreRowsOf}
use Rattle.live_chain.proofs.TailLaws.{found_in}
use Rattle.live_chain.proofs.kept.rows_from.Goals as goal

pub returns : goal.returns
returns c =
    let a = c.args in
    let block : IsBlockTo a.insns.now c.in-Some.from a.first c.in_ok-left.left = search rules in
    let front = slice_range a.insns.now c.in-Some.from a.first in
    let tail = slice_range a.insns.now a.end c.tail_end-to.result in
    record {
      order = block.order;
      passing = block.passing;
      to = c.tail_end-to.result;
      beyond = c.tail_end-to.ensures.order;
      fits = c.tail_end-to.ensures.within;
      tail = c.tail_end-to.ensures.tail;
      demands = found_in a.old.now a.new.now tail front (has a.behind.now) c.in_ok-differing.differing c.in_ok-left.left c.in_ok-differing.ensures
          (λ reg. c.in_ok-left.ensures reg ∙ ap (λ l. has_reg l reg && not (is_settled a.old.now a.new.now tail reg)) c.as_slice.ensures.value) block.named;
      rows = subst (λ (w : List Insn). AreRowsOf (w ++ a.new.now) (has a.behind.now) c.in_ok-rows.rows) (c.as_slice-2.ensures.value ∙ c.in_ok-front.ensures) c.in_ok-rows.ensures.rows;
      narrow = c.in_ok-rows.ensures.narrow;
    }
