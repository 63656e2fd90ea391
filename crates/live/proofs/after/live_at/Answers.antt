use Rattle.std.proofs.Common.{ℕ, ◌||◌, List, ap, ◌∙◌}
use Rattle.rtx_tree.specs.RegSet.{has_reg}
use Rattle.live_rows.specs.machine.Rows.{at_place}
use Rattle.live.proofs.AfterLaws.{live_after_is}
use Rattle.live.proofs.after.live_at.Goals as goal

pub returns : goal.returns
returns c = λ f place exact places.
    let next = c.args.next in
    live_after_is f c.args.rows.now place next.first next.second c.add_place.new.set c.add_place-2.new.set exact places
    (λ reg. c.in_ok-add_place.ensures reg ∙ ap (λ (regs : List ℕ). has_reg regs reg || at_place next.first c.args.rows.now reg) c.new-set.ensures)
    (λ reg. c.in_ok-add_place-2.ensures reg) c.contains-first.ensures.ordered
