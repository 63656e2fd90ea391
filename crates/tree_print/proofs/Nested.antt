-- The parts of a list or a vector.
use Rattle.std.proofs.Common.{◌≡◌, List}
use Rattle.rtx_tree.specs.declared.place.Place.{Place}
use Rattle.lisp_read.specs.declared.class.Bracket.{Bracket}
use Rattle.lisp_read.specs.declared.class.Bracket.TheVariants.{Round, Square}
use Rattle.lisp_read.specs.declared.tree.Tree.{Tree}
use Rattle.lisp_read.specs.Part.{enclosed, parts_of, parts_of_all}
use Rattle.lisp_read.proofs.PartLemmas.{parts_of-List, parts_of-Vector}
use Rattle.lisp_read.proofs.Decodes.{nested}

pub parts_of_nested : (k : Bracket) (p : Place) (ts : List Tree) → parts_of (nested k p ts) ≡ enclosed k p (parts_of_all ts)
parts_of_nested Round p ts = parts_of-List p ts
parts_of_nested Square p ts = parts_of-Vector p ts
