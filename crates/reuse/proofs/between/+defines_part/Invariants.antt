use Rattle.std.proofs.Common.{◌≡◌, drop}
use Rattle.std.specs.List.{list_any}
use Rattle.reuse.specs.Reuse.{defines_part}
use Rattle.reuse.proofs.between.+defines_part.Given as goal

abbrev pub invariant-loop-kid : goal.invariant-loop-kid
invariant-loop-kid l = list_any (defines_part l.insn) (drop l.kid-index l.kid-items) ≡ defines_part l.insn l.x
