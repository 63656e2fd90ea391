use Rattle.std.proofs.Common.{◌≡◌, map, drop, ◌++◌}
use Rattle.term_mean.specs.Sums.{all_atoms}
use Rattle.term_tree.specs.View.{atom_of}
use Rattle.term_sums.proofs.sums.all_atoms.Given as goal

abbrev pub invariant-loop-x : goal.invariant-loop-x
invariant-loop-x l =
    map atom_of l.atoms.items ++ all_atoms l.w (map atom_of (drop l.x-index l.terms)) ≡ all_atoms l.w (map atom_of l.terms)
