use Rattle.std.proofs.Common.{sym}
use Rattle.rtx_tree.specs.Patterns.{is_label}
use Rattle.live_chain.proofs.LeadLaws.{found_at, passed_at}
use Rattle.live_chain.proofs.leads.label_place.Goals as goal

pub returns-then-is_label : goal.returns-then-is_label
returns-then-is_label c =
    found_at (is_label c.args.uid) c.args.insns.now c.loop-at.at c.item.result.now c.loop-at.invariant c.item.ensures
    (sym c.if-is_label.ensures)

pub loop-at-preserved : goal.loop-at-preserved
loop-at-preserved c =
    passed_at (is_label c.args.uid) c.args.insns.now c.loop-at.at c.item.result.now c.loop-at.invariant c.item.ensures
    (sym c.if-is_label.ensures)
