use Rattle.std.proofs.Common.{◌+◌, ◌*◌, length}
use Rattle.pred_rows.proofs.asked.+asked.Given as goal

abbrev pub decreases-holds_at : goal.decreases-holds_at
decreases-holds_at g l = 2 * length l.nodes.now

abbrev pub decreases-node_answer : goal.decreases-node_answer
decreases-node_answer g l = 2 * length l.before.now + 1
