use Rattle.std.proofs.Common.{◌≡◌, map, drop}
use Rattle.term_mean.specs.Sums.{constants_at}
use Rattle.term_tree.specs.View.{atom_of}
use Rattle.term_sums.proofs.sums.constants.Given as goal

abbrev pub invariant-loop-x : goal.invariant-loop-x
invariant-loop-x l =
    constants_at l.w l.so_far (map atom_of (drop l.x-index l.terms)) ≡ constants_at l.w l.constant (map atom_of l.terms)
