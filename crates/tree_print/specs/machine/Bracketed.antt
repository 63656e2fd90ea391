-- Trees in brackets of a kind.
use Rattle.std.specs.Prelude.{ℕ, List, [], ◌∷◌, ◌++◌}
use Rattle.lisp_read.specs.declared.class.Bracket.{Bracket}
use Rattle.lisp_read.specs.declared.tree.Tree.{Tree}
use Rattle.lisp_read.specs.Class.{open_byte, close_byte}
use Rattle.tree_print.specs.Print.{separated}

abbrev pub bracketed_trees : Bracket → List Tree → List ℕ
bracketed_trees kind ts = open_byte kind ∷ (separated ts ++ close_byte kind ∷ [])
