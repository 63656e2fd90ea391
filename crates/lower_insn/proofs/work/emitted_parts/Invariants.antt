use Rattle.std.proofs.Common.{◌≡◌, map}
use Rattle.lower_insn.specs.declared.part.Part.TheVariants as part
use Rattle.lower_insn.proofs.work.emitted_parts.Given as goal

abbrev pub invariant-loop-tree : goal.invariant-loop-tree
invariant-loop-tree l = l.parts ≡ map part.Emitted l.yielded
