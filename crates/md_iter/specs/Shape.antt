-- The trees of a vector.
use Rattle.std.specs.Prelude.{List, Option, Some, None}
use Rattle.lisp_read.specs.declared.tree.Tree.{Tree, out-Tree}
use Rattle.lisp_read.specs.declared.tree.Tree.TheOpen.{Tree-F}

-- the trees of a vector
abbrev pub vector_at : Tree-F Tree → Option (List Tree)
vector_at (Tree-F.Vector place items) = Some items
vector_at _ = None

abbrev pub vector_of : Tree → Option (List Tree)
vector_of t = vector_at (out-Tree t)
