use Rattle.std.proofs.Common.{◌≡◌, drop}
use Rattle.run_memory.specs.RunMemory.{written}
use Rattle.run_memory.proofs.write_all.Given as goal

abbrev pub invariant-loop-write : goal.invariant-loop-write
invariant-loop-write l = written (drop l.write-index l.write-items) l.memory ≡ written l.write-items l.initial.memory
