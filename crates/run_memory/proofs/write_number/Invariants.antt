use Rattle.std.proofs.Common.{◌≡◌, ◌+◌, ◌-◌}
use Rattle.run_memory.specs.RunMemory.{with_number}
use Rattle.run_memory.proofs.write_number.Given as goal

abbrev pub invariant-loop-place : goal.invariant-loop-place
invariant-loop-place l = with_number l.memory (l.address + l.place) (l.count - l.place) l.rest ≡ with_number l.initial.memory l.address l.count l.number
