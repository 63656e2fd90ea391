-- An expression that a tree stands for is read back from the tree that its text writes.
use Rattle.std.proofs.Common.{◌≡◌}
use Rattle.rtx_tree.specs.declared.tree.Rtx.{Rtx}
use Rattle.lisp_read.specs.declared.position.Position.{Position}
use Rattle.lisp_read.specs.declared.tree.Tree.{Tree}
use Rattle.lisp_read.specs.Parsed.{stands}
use Rattle.lisp_read.specs.Expression.{read_at}
use Rattle.lisp_read.specs.Shape.{vector_of}
use Rattle.rtl_print.proofs.Induction.{Holds, holds_of_each}
use Rattle.rtl_print.proofs.KidsBack.{node_back, parallel_back}
use Rattle.rtl_print.proofs.Words.{Back, leaf_back}

abbrev Q : Position → Tree → Rtx → Type 0
Q p t x = Back p x

holds : Holds Q
holds = record {
  leaf = λ p h t a ts x placed items l. leaf_back p h t x placed l;
  parallel = λ p h t a v kids placed c items is all. parallel_back p h (vector_of v) kids placed c all;
  node = λ p h t a ts ps kids placed items parts each. node_back p h a ts ps kids placed parts each;
}

pub back : (p : Position) (t : Tree) (x : Rtx) → read_at p t ≡ stands x → Back p x
back p t x e = holds_of_each Q holds t p x e
