use Rattle.md_pred.proofs.Keeping.{all_kept}
use Rattle.md_pred.proofs.definitions.Definitions.of.Goals as goal

pub returns : goal.returns
returns c = all_kept c.loop-entry.definitions c.args.entries.now c.loop-entry.entry-index c.loop-entry-test.false c.loop-entry.invariant
