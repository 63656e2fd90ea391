use Rattle.std.proofs.Common.{◌≡◌, ◌++◌}
use Rattle.insn_fuse.specs.Fused.{mentioned_at}
use Rattle.insn_fuse.proofs.Paths.{left_from}
use Rattle.insn_fuse.proofs.reads.+mentioned_at.Given as goal

abbrev pub invariant-loop-i : goal.invariant-loop-i
invariant-loop-i l = l.paths ++ left_from (mentioned_at l.reg) l.i l.kids ≡ mentioned_at l.reg l.x
