-- What the code's own types are in the words of the definitions.
use Rattle.std.specs.Prelude.{Option, Some, None}
use Rattle.term_tree.specs.Tree.{Tree}
use Rattle.term_tree.specs.View.{tree_of}
use Rattle.term_tree.specs.declared.term.Term.{Term}
use Rattle.term_cuts.specs.term_mean.Zero.{Extended, Operands}
use Rattle.term_zero.specs.declared.operands.Extended as code_extended
use Rattle.term_zero.specs.declared.operands.Operands as code_operands
use Rattle.term_zero.specs.declared.zero.Difference.{Difference}

abbrev pub extended_of : code_extended.Extended → Extended
extended_of x = record { kind = x.kind; width = x.width }

abbrev pub extended_found : Option code_extended.Extended → Option Extended
extended_found (Some x) = Some (extended_of x)
extended_found None = None

abbrev pub tree_found : Option Term → Option Tree
tree_found (Some t) = Some (tree_of t)
tree_found None = None

abbrev pub operands_of_code : code_operands.Operands → Operands
operands_of_code x = record { kind = x.kind; width = x.width; left = tree_of x.left; right = tree_of x.right }

abbrev pub operands_found : Option code_operands.Operands → Option Operands
operands_found (Some x) = Some (operands_of_code x)
operands_found None = None

abbrev pub difference_found : Difference → Tree × Tree
difference_found d = (tree_of d.left, tree_of d.right)

abbrev pub parts_found : Option Difference → Option (Tree × Tree)
parts_found (Some d) = Some (difference_found d)
parts_found None = None
