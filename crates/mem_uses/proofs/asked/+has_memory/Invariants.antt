use Rattle.std.proofs.Common.{◌≡◌, drop}
use Rattle.std.specs.List.{list_any}
use Rattle.mem_uses.specs.Memory.{has_memory}
use Rattle.mem_uses.proofs.asked.+has_memory.Given as goal

abbrev pub invariant-loop-kid : goal.invariant-loop-kid
invariant-loop-kid l = list_any has_memory (drop l.kid-index l.kid-items) ≡ has_memory l.x
