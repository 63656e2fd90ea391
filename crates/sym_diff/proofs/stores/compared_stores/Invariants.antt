use Rattle.std.proofs.Common.{◌≡◌, map, drop}
use Rattle.sym_term.specs.Views.{store_of}
use Rattle.sym_diff.specs.Compared.{compared_stores}
use Rattle.sym_diff.proofs.stores.compared_stores.Given as goal

abbrev pub invariant-loop-at : goal.invariant-loop-at
invariant-loop-at l =
    compared_stores l.at (drop l.at (map store_of l.a)) (drop l.at (map store_of l.b))
    ≡ compared_stores 0 (map store_of l.a) (map store_of l.b)
