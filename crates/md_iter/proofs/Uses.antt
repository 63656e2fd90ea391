-- The iterators that some trees use, and the trees under a choice, one tree more.
use Rattle.std.proofs.Common.{◌≡◌, ℕ, ◌+◌, ◌<◌, Bool, false, List, [], ◌∷◌, ◌++◌, length, drop, get_or, sym, ap, ◌∙◌, append_assoc}
use Rattle.std.specs.List.{fold}
use Rattle.std.proofs.lemmas.List.{at_drop_more}
use Rattle.std.proofs.lemmas.List.Sums.{fold-append}
use Rattle.lisp_read.specs.declared.tree.Tree.{Tree}
use Rattle.md_iter.specs.declared.definition.FormIterator.{FormIterator}
use Rattle.md_iter.specs.declared.definition.Definitions.{Definitions}
use Rattle.md_iter.specs.Choice.{Chosen, added, uses}
use Rattle.md_iter.specs.Substitution.{substituted}
use Rattle.md_iter.specs.machine.Steps.{substituted_trees, uses_of}

at : {A : Type 0} (read : List Tree → A) (trees : List Tree) (i : ℕ) (t : Tree) → i < length trees → t ≡ get_or trees i t → read (drop i trees) ≡ read (t ∷ drop (i + 1) trees)
at read trees i t within is = at_drop_more read trees i t within ∙ ap (λ u. read (u ∷ drop (i + 1) trees)) (sym is)

pub uses_next : (iterators : List FormIterator) (trees : List Tree) (i : ℕ) (t : Tree) (is_head : Bool) (used whole : List FormIterator) →
    i < length trees → t ≡ get_or trees i t → fold added used (uses_of iterators (drop i trees) is_head) ≡ whole → fold added (fold added used (uses iterators t is_head)) (uses_of iterators (drop (i + 1) trees) false) ≡ whole
uses_next iterators trees i t is_head used whole within is h =
    sym (fold-append added used (uses iterators t is_head) (uses_of iterators (drop (i + 1) trees) false))
    ∙ sym (at (λ ts. fold added used (uses_of iterators ts is_head)) trees i t within is)
    ∙ h

pub substituted_next : (definitions : Definitions) (choice : List Chosen) (trees : List Tree) (i : ℕ) (t x : Tree) (is_head : Bool) (out whole : List Tree) →
    i < length trees → t ≡ get_or trees i t → x ≡ substituted definitions choice t is_head → out ++ substituted_trees definitions choice (drop i trees) is_head ≡ whole → (out ++ x ∷ []) ++ substituted_trees definitions choice (drop (i + 1) trees) false ≡ whole
substituted_next definitions choice trees i t x is_head out whole within is e h =
    append_assoc out (x ∷ []) (substituted_trees definitions choice (drop (i + 1) trees) false)
    ∙ ap (λ y. out ++ y ∷ substituted_trees definitions choice (drop (i + 1) trees) false) e
    ∙ sym (at (λ ts. out ++ substituted_trees definitions choice ts is_head) trees i t within is)
    ∙ h
