use Rattle.std.proofs.Common.{◌≡◌, ◌++◌}
use Rattle.insn_fuse.specs.Fused.{effect_reads}
use Rattle.insn_fuse.proofs.Paths.{left_from}
use Rattle.insn_fuse.proofs.reads.all_reads.Given as goal

abbrev pub invariant-loop-i : goal.invariant-loop-i
invariant-loop-i l = l.paths ++ left_from (effect_reads l.reg) l.i l.effects ≡ left_from (effect_reads l.reg) 0 l.effects
