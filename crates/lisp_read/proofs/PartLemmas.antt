-- The parts of trees, one level at a time.
use Rattle.std.proofs.Common.{◌≡◌, ℕ, List, [], ◌∷◌, sym, ap, ◌∙◌}
use Rattle.std.proofs.lemmas.List.Folds.{flat_map-map}
use Rattle.rtx_tree.specs.declared.place.Place.{Place}
use Rattle.lisp_read.specs.declared.class.Bracket.TheVariants.{Round, Square}
use Rattle.lisp_read.specs.declared.tree.Tree.{Tree}
use Rattle.lisp_read.specs.declared.tree.Tree.TheFolds.{fold-roll-Tree}
use Rattle.lisp_read.specs.declared.tree.Tree.TheOpen.{Tree-F}
use Rattle.lisp_read.specs.declared.tree.Tree.TheVariants as tree
use Rattle.lisp_read.specs.declared.tree.Tree.TheVariants.{rolls-Atom, rolls-Str, rolls-Block, rolls-List, rolls-Vector}
use Rattle.lisp_read.specs.Part.{Part, Atom, Str, Block, enclosed, parts_step, parts_of, parts_of_all}

pub parts_of-Atom : (p : Place) (t : List ℕ) → parts_of (tree.Atom p t) ≡ Atom p t ∷ []
parts_of-Atom p t = ap parts_of (sym (rolls-Atom p t)) ∙ fold-roll-Tree (List Part) parts_step (Tree-F.Atom p t)

pub parts_of-Str : (p : Place) (t : List ℕ) → parts_of (tree.Str p t) ≡ Str p t ∷ []
parts_of-Str p t = ap parts_of (sym (rolls-Str p t)) ∙ fold-roll-Tree (List Part) parts_step (Tree-F.Str p t)

pub parts_of-Block : (p : Place) (t : List ℕ) → parts_of (tree.Block p t) ≡ Block p t ∷ []
parts_of-Block p t = ap parts_of (sym (rolls-Block p t)) ∙ fold-roll-Tree (List Part) parts_step (Tree-F.Block p t)

pub parts_of-List : (p : Place) (ts : List Tree) → parts_of (tree.List p ts) ≡ enclosed Round p (parts_of_all ts)
parts_of-List p ts =
    ap parts_of (sym (rolls-List p ts)) ∙ fold-roll-Tree (List Part) parts_step (Tree-F.List p ts)
    ∙ ap (enclosed Round p) (flat_map-map (λ (ps : List Part). ps) parts_of ts)

pub parts_of-Vector : (p : Place) (ts : List Tree) → parts_of (tree.Vector p ts) ≡ enclosed Square p (parts_of_all ts)
parts_of-Vector p ts =
    ap parts_of (sym (rolls-Vector p ts)) ∙ fold-roll-Tree (List Part) parts_step (Tree-F.Vector p ts)
    ∙ ap (enclosed Square p) (flat_map-map (λ (ps : List Part). ps) parts_of ts)

pub ruleset part_laws = (parts_of-Atom, parts_of-Str, parts_of-Block, parts_of-List, parts_of-Vector)
