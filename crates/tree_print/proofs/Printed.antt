-- The printed text of a tree, its depth, and the tree without places, one level at a time.
use Rattle.std.proofs.Common.{◌≡◌, ℕ, suc, List, [], ◌∷◌, ◌++◌, map, flat_map, drop, refl, sym, ap, ◌∙◌}
use Rattle.std.proofs.lemmas.List.Folds.{flat_map-map}
use Rattle.rtx_tree.specs.declared.place.Place.{Place}
use Rattle.lisp_read.specs.declared.class.Bracket.{Bracket}
use Rattle.lisp_read.specs.declared.class.Bracket.TheVariants.{Round, Square}
use Rattle.lisp_read.specs.declared.tree.Tree.{Tree}
use Rattle.lisp_read.specs.declared.tree.Tree.TheFolds.{fold-roll-Tree}
use Rattle.lisp_read.specs.declared.tree.Tree.TheOpen.{Tree-F}
use Rattle.lisp_read.specs.declared.tree.Tree.TheVariants as tree
use Rattle.lisp_read.specs.declared.tree.Tree.TheVariants.{rolls-Atom, rolls-Str, rolls-Block, rolls-List, rolls-Vector}
use Rattle.lisp_read.specs.Bytes.{quote, open_brace, close_brace}
use Rattle.lisp_read.specs.Class.{open_byte, close_byte}
use Rattle.tree_print.specs.Print.{printed_step, printed_tree, spaced, bracketed, unplaced_step, unplaced, nowhere, depth_step, depth_of, greatest}
use Rattle.tree_print.specs.machine.Bracketed.{bracketed_trees}
use Rattle.lisp_read.proofs.Decodes.{nested}

pub printed_atom : (p : Place) (t : List ℕ) → printed_tree (tree.Atom p t) ≡ t
unfolding printed_tree
printed_atom p t = ap printed_tree (sym (rolls-Atom p t)) ∙ fold-roll-Tree (List ℕ) printed_step (Tree-F.Atom p t)

pub printed_string : (p : Place) (t : List ℕ) → printed_tree (tree.Str p t) ≡ quote ∷ (t ++ quote ∷ [])
unfolding printed_tree
printed_string p t = ap printed_tree (sym (rolls-Str p t)) ∙ fold-roll-Tree (List ℕ) printed_step (Tree-F.Str p t)

pub printed_block : (p : Place) (t : List ℕ) → printed_tree (tree.Block p t) ≡ open_brace ∷ (t ++ close_brace ∷ [])
unfolding printed_tree
printed_block p t = ap printed_tree (sym (rolls-Block p t)) ∙ fold-roll-Tree (List ℕ) printed_step (Tree-F.Block p t)

in_brackets : (k : Bracket) (ts : List Tree) → bracketed k (map printed_tree ts) ≡ bracketed_trees k ts
in_brackets k ts = ap (λ (inner : List ℕ). open_byte k ∷ (drop 1 inner ++ close_byte k ∷ [])) (flat_map-map spaced printed_tree ts)

pub printed_list : (p : Place) (ts : List Tree) → printed_tree (tree.List p ts) ≡ bracketed_trees Round ts
unfolding printed_tree
printed_list p ts = ap printed_tree (sym (rolls-List p ts)) ∙ (fold-roll-Tree (List ℕ) printed_step (Tree-F.List p ts) ∙ in_brackets Round ts)

pub printed_vector : (p : Place) (ts : List Tree) → printed_tree (tree.Vector p ts) ≡ bracketed_trees Square ts
unfolding printed_tree
printed_vector p ts = ap printed_tree (sym (rolls-Vector p ts)) ∙ (fold-roll-Tree (List ℕ) printed_step (Tree-F.Vector p ts) ∙ in_brackets Square ts)

pub printed_nested : (k : Bracket) (p : Place) (ts : List Tree) → printed_tree (nested k p ts) ≡ bracketed_trees k ts
printed_nested Round p ts = printed_list p ts
printed_nested Square p ts = printed_vector p ts

pub unplaced-Atom : (p : Place) (t : List ℕ) → unplaced (tree.Atom p t) ≡ tree.Atom nowhere t
unfolding unplaced
unplaced-Atom p t = ap unplaced (sym (rolls-Atom p t)) ∙ fold-roll-Tree Tree unplaced_step (Tree-F.Atom p t)

pub unplaced-Str : (p : Place) (t : List ℕ) → unplaced (tree.Str p t) ≡ tree.Str nowhere t
unfolding unplaced
unplaced-Str p t = ap unplaced (sym (rolls-Str p t)) ∙ fold-roll-Tree Tree unplaced_step (Tree-F.Str p t)

pub unplaced-Block : (p : Place) (t : List ℕ) → unplaced (tree.Block p t) ≡ tree.Block nowhere t
unfolding unplaced
unplaced-Block p t = ap unplaced (sym (rolls-Block p t)) ∙ fold-roll-Tree Tree unplaced_step (Tree-F.Block p t)

pub unplaced-nested : (k : Bracket) (p : Place) (ts : List Tree) → unplaced (nested k p ts) ≡ nested k nowhere (map unplaced ts)
unfolding unplaced
unplaced-nested Round p ts = ap unplaced (sym (rolls-List p ts)) ∙ fold-roll-Tree Tree unplaced_step (Tree-F.List p ts)
unplaced-nested Square p ts = ap unplaced (sym (rolls-Vector p ts)) ∙ fold-roll-Tree Tree unplaced_step (Tree-F.Vector p ts)

pub depth-nested : (k : Bracket) (p : Place) (ts : List Tree) → depth_of (nested k p ts) ≡ suc (greatest (map depth_of ts))
unfolding depth_of
depth-nested Round p ts = ap depth_of (sym (rolls-List p ts)) ∙ fold-roll-Tree ℕ depth_step (Tree-F.List p ts)
depth-nested Square p ts = ap depth_of (sym (rolls-Vector p ts)) ∙ fold-roll-Tree ℕ depth_step (Tree-F.Vector p ts)
