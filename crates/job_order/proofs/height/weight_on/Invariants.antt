use Rattle.std.proofs.Common.{◌≡◌, drop}
use Rattle.job_order.specs.Jobs.{weight_on}
use Rattle.job_order.proofs.height.weight_on.Given as goal

abbrev pub invariant-loop-ask : goal.invariant-loop-ask
invariant-loop-ask l = weight_on l.place (drop l.ask-index l.asks) ≡ weight_on l.place l.asks
