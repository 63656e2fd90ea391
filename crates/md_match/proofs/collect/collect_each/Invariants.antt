use Rattle.std.proofs.Common.{map, Bor}
use Rattle.rtx_tree.specs.declared.tree.Rtx.{Rtx}
use Rattle.md_match.proofs.Reaching.{Reaches}
use Rattle.md_match.proofs.collect.collect_each.Given as goal

abbrev pub invariant-loop-i : goal.invariant-loop-i
invariant-loop-i l = Reaches l.patterns (map (λ (insn : Bor Rtx). insn.now) l.insns) l.fn.operands l.i l.operands
