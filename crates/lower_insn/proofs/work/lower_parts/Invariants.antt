use Rattle.std.proofs.Common.{◌≡◌, true, map}
use Rattle.lower_insn.specs.declared.part.Part.TheVariants as part
use Rattle.lower_insn.proofs.work.lower_parts.Given as goal

abbrev pub invariant-loop-tree : goal.invariant-loop-tree
invariant-loop-tree l = l.parts ≡ map (part.Lower true) l.yielded
