use Rattle.std.proofs.Common.{map, Bor}
use Rattle.rtx_tree.specs.declared.tree.Rtx.{Rtx}
use Rattle.md_match.proofs.Parts.{Decides}
use Rattle.md_match.proofs.makes.makes_each.Given as goal

abbrev pub invariant-loop-i : goal.invariant-loop-i
invariant-loop-i l = Decides l.patterns (map (λ (insn : Bor Rtx). insn.now) l.insns) l.operands l.i
