use Rattle.std.proofs.Common.{◌≡◌, map, drop, ◌++◌}
use Rattle.term_tree.specs.Tree.{atoms_of}
use Rattle.term_tree.specs.View.{atom_of}
use Rattle.term_cuts.specs.term_mean.Shifts.{quotients}
use Rattle.sym_term.proofs.shifts.quotients.Given as goal

abbrev pub invariant-loop-atom : goal.invariant-loop-atom
invariant-loop-atom l =
    map atom_of l.quotients.items ++ quotients l.d (atoms_of (map atom_of (drop l.atom-index l.atoms))) ≡ quotients l.d (atoms_of (map atom_of l.atoms))
