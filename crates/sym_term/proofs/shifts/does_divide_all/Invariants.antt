use Rattle.std.proofs.Common.{◌≡◌, map, drop}
use Rattle.term_tree.specs.Tree.{atoms_of}
use Rattle.term_tree.specs.View.{atom_of}
use Rattle.term_cuts.specs.term_mean.Shifts.{divides_all}
use Rattle.sym_term.proofs.shifts.does_divide_all.Given as goal

abbrev pub invariant-loop-atom : goal.invariant-loop-atom
invariant-loop-atom l =
    divides_all l.d (atoms_of (map atom_of (drop l.atom-index l.atoms))) ≡ divides_all l.d (atoms_of (map atom_of l.atoms))
