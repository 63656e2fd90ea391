use Rattle.std.proofs.Common.{◌≡◌, map, drop}
use Rattle.lisp_read.specs.Shape.{first_atom, first_there}
use Rattle.lisp_read.proofs.shape.+first_atom.Given as goal

abbrev pub invariant-loop-item : goal.invariant-loop-item
invariant-loop-item l = first_there (map first_atom (drop l.item-index l.item-items)) ≡ first_atom l.tree
