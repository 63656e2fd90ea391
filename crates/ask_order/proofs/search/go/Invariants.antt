use Rattle.std.proofs.Common.{length}
use Rattle.ask_order.proofs.Paths.{Searches}
use Rattle.ask_order.proofs.Measure.{measure}
use Rattle.ask_order.proofs.search.go.Given as goal

abbrev pub invariant-loop-stack : goal.invariant-loop-stack
invariant-loop-stack l = Searches l.asked l.root l.fn.known l.known l.order l.stack l.place

abbrev pub decreases-loop-stack : goal.decreases-loop-stack
decreases-loop-stack l = measure (length l.asked) l.known l.stack l.place
