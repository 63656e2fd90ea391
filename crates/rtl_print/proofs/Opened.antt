-- A tree that is the same as one with a head: its parts, and how it is read.
use Rattle.std.proofs.Common.{◌≡◌, ℕ, List, [], ◌∷◌, map, true, false, Option, Some, ap, ◌∙◌}
use Rattle.std.specs.Prelude.{option_and_then}
use Rattle.rtx_tree.specs.declared.code.Code.{Code}
use Rattle.rtx_tree.specs.declared.code.Mode.{Mode}
use Rattle.lisp_read.specs.declared.head.Opening.{Opening}
use Rattle.lisp_read.specs.declared.position.Position.{Position}
use Rattle.lisp_read.specs.declared.tree.Tree.{Tree, out-Tree}
use Rattle.lisp_read.specs.declared.tree.Tree.TheOpen.{Tree-F}
use Rattle.lisp_read.specs.Head.{head_in}
use Rattle.lisp_read.specs.Shape.{items_at, items_of, atom_at, atom_of, is_nested_at, is_nested, is_vector_at, is_vector}
use Rattle.lisp_read.specs.Expression.{meaning_of, head_of_items, head_of, placed, class_of, read_at, list_by, expression_by}
use Rattle.lisp_read.proofs.Meanings.{read_at_out}
use Rattle.tree_print.specs.Print.{nowhere}
use Rattle.rtl_print.specs.Print.{head_text}
use Rattle.rtl_print.proofs.Heads.{head_with, head_again}
use Rattle.rtl_print.proofs.Same.{Same, AllSame, IsList, IsAtomOf, as_list, as_atom}
use Rattle.rtl_print.proofs.Written.{atom, list}

pub record Opened (t : Tree) (text : List ℕ) (ps : List Tree) : Type 0 where
  pub head : Tree
  pub parts : List Tree
  pub items : items_of t ≡ head ∷ parts
  pub word : atom_of head ≡ Some text
  pub same : AllSame parts ps
  pub nested : is_nested t ≡ true
  pub no_vector : is_vector t ≡ false

pub opened : (t : Tree) (text : List ℕ) (ps : List Tree) → Same t (list (atom text ∷ ps)) → Opened t text ps
opened t text ps e = by_items l.items l.is l.same
  where
    l : IsList t (atom text ∷ ps)
    l = as_list t nowhere (atom text ∷ ps) e

    by_items : (items : List Tree) → out-Tree t ≡ Tree-F.List l.place items → AllSame items (atom text ∷ ps) → Opened t text ps
    by_items [] is s = absurd s
    by_items (head ∷ parts) is s =
        let a : IsAtomOf head text = as_atom head nowhere text s.0 in
        record {
          head = head;
          parts = parts;
          items = ap items_at is;
          word = ap atom_at a.is;
          same = s.1;
          nested = ap is_nested_at is;
          no_vector = ap is_vector_at is;
        }

pub head_of_opened : (t : Tree) (c : Code) (m : Mode) (ps : List Tree) → Opened t (head_text c m) ps → head_of t ≡ Some (head_with c m)
head_of_opened t c m ps o = ap head_of_items o.items ∙ (ap (option_and_then head_in) o.word ∙ head_again c m)

pub read_opened : (p : Position) (t : Tree) (c : Code) (m : Mode) (ps : List Tree) (o : Opened t (head_text c m) ps) (h : Opening) → placed p (head_with c m) ≡ Some h →
    read_at p t ≡ list_by (class_of h) p h t (map meaning_of (o.head ∷ o.parts))
read_opened p t c m ps o h e =
    read_at_out p t
    ∙ (ap (λ (x : Option Opening). expression_by p x t (map meaning_of (items_of t))) (ap (option_and_then (placed p)) (head_of_opened t c m ps o) ∙ e)
    ∙ ap (λ (ts : List Tree). list_by (class_of h) p h t (map meaning_of ts)) o.items)
