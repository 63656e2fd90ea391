use Rattle.std.proofs.Common.{◌≡◌, ◌++◌, length}
use Rattle.rtx_tree.specs.Memories.{IsOrdered}
use Rattle.run_memory.specs.RunMemory.{visible}
use Rattle.run_memory.proofs.visible_part.Given as goal

abbrev pub invariant-loop-byte : goal.invariant-loop-byte
invariant-loop-byte l = record {
  made : l.part ++ visible l.ranges l.rest ≡ visible l.ranges l.memory;
  ordered : IsOrdered l.rest;
}

abbrev pub decreases-loop-byte : goal.decreases-loop-byte
decreases-loop-byte l = length l.rest
