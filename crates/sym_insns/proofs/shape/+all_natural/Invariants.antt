use Rattle.std.proofs.Common.{◌≡◌, drop}
use Rattle.std.specs.List.{list_all}
use Rattle.sym_insns.specs.Shape.{all_natural}
use Rattle.sym_insns.proofs.shape.+all_natural.Given as goal

abbrev pub invariant-loop-kid : goal.invariant-loop-kid
invariant-loop-kid l = list_all all_natural (drop l.kid-index l.kid-items) ≡ all_natural l.x
