use Rattle.md_match.proofs.Parts.{Decides}
use Rattle.md_match.proofs.makes.+making.Given as goal

abbrev pub invariant-makes_all-loop-i : goal.invariant-makes_all-loop-i
invariant-makes_all-loop-i l = Decides l.patterns l.insns l.operands l.i
