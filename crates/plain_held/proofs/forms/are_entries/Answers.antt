use Rattle.std.proofs.Common.{arith}
use Rattle.plain_held.specs.Rows.{entry_of}
use Rattle.plain_held.proofs.Same.{one_more}
use Rattle.plain_held.proofs.forms.are_entries.Goals as goal

pub loop-i-preserved : goal.loop-i-preserved
loop-i-preserved c =
    one_more entry_of c.args.entries.now c.args.rows.now c.loop-i.i c.index-entries-i.result _ c.loop-i.invariant (omega arith) (omega arith) c.index-entries-i.is (c.in_ok-is_entry.ensures.0 c.if-not-branch.false)
