use Rattle.std.proofs.Common.{◌≡◌, ◌++◌, ◌+◌, ◌-◌}
use Rattle.code_eval.specs.Start.{zeros}
use Rattle.code_eval.proofs.start.push_zeros.Given as goal

abbrev pub invariant-loop-place : goal.invariant-loop-place
invariant-loop-place l = l.bytes.items ++ zeros (l.address + l.place) (l.count - l.place) ≡ l.initial.bytes.items ++ zeros l.address l.count
