-- The parts of a tree without places are its parts without places.
use Rattle.std.proofs.Common.{◌≡◌, List, [], ◌∷◌, ◌++◌, map, flat_map, refl, sym, ap, ◌∙◌}
use Rattle.std.specs.List.{AllByRecursion}
use Rattle.std.proofs.lemmas.List.{map-append}
use Rattle.std.proofs.lemmas.List.Concat.{flat_map-cons}
use Rattle.rtx_tree.specs.declared.place.Place.{Place}
use Rattle.lisp_read.specs.declared.class.Bracket.{Bracket}
use Rattle.lisp_read.specs.declared.class.Bracket.TheVariants.{Round, Square}
use Rattle.lisp_read.specs.declared.tree.Tree.{Tree}
use Rattle.lisp_read.specs.declared.tree.Tree.TheVariants as tree
use Rattle.lisp_read.specs.Part.{Part, Atom, Str, Block, Open, Close, enclosed, parts_of, parts_of_all}
use Rattle.tree_print.specs.Print.{unplaced, nowhere}
use Rattle.lisp_read.proofs.PartLemmas.{parts_of-Atom, parts_of-Str, parts_of-Block}
use Rattle.tree_print.proofs.Nested.{parts_of_nested}
use Rattle.lisp_read.proofs.Decodes.{nested, same_trees}
use Rattle.lisp_read.proofs.TreeInduction.{Steps, induction}
use Rattle.tree_print.proofs.Printed.{unplaced-Atom, unplaced-Str, unplaced-Block, unplaced-nested}

abbrev pub bare : Part → Part
bare (Atom p t) = Atom nowhere t
bare (Str p t) = Str nowhere t
bare (Block p t) = Block nowhere t
bare (Open k p) = Open k nowhere
bare (Close k) = Close k

Bares : Tree → Type 0
Bares t = parts_of (unplaced t) ≡ map bare (parts_of t)

all_bare : (ts : List Tree) → AllByRecursion Bares ts → parts_of_all (map unplaced ts) ≡ map bare (parts_of_all ts)
unfolding Bares
all_bare [] h = refl
all_bare (t ∷ ts) h =
    flat_map-cons parts_of (unplaced t) (map unplaced ts)
    ∙ ap (λ (ps : List Part). ps ++ parts_of_all (map unplaced ts)) h.0
    ∙ ap (λ (ps : List Part). map bare (parts_of t) ++ ps) (all_bare ts h.1)
    ∙ sym (map-append bare (parts_of t) (parts_of_all ts))
    ∙ ap (map bare) (sym (flat_map-cons parts_of t ts))

nested_bare : (k : Bracket) (p : Place) (ts : List Tree) → AllByRecursion Bares ts → Bares (nested k p ts)
unfolding Bares
nested_bare k p ts h =
    ap parts_of (unplaced-nested k p ts)
    ∙ parts_of_nested k nowhere (map unplaced ts)
    ∙ ap (enclosed k nowhere) (all_bare ts h)
    ∙ ap (λ (ps : List Part). Open k nowhere ∷ ps) (sym (map-append bare (parts_of_all ts) (Close k ∷ [])))
    ∙ ap (map bare) (sym (parts_of_nested k p ts))

steps : Steps Bares
unfolding Bares
steps = record {
  atom = λ p t. ap parts_of (unplaced-Atom p t) ∙ parts_of-Atom nowhere t ∙ ap (map bare) (sym (parts_of-Atom p t));
  string = λ p t. ap parts_of (unplaced-Str p t) ∙ parts_of-Str nowhere t ∙ ap (map bare) (sym (parts_of-Str p t));
  block = λ p t. ap parts_of (unplaced-Block p t) ∙ parts_of-Block nowhere t ∙ ap (map bare) (sym (parts_of-Block p t));
  list = λ p ts h. nested_bare Round p ts h;
  vector = λ p ts h. nested_bare Square p ts h;
}

pub parts_unplaced : (t : Tree) → parts_of (unplaced t) ≡ map bare (parts_of t)
unfolding Bares
parts_unplaced t = induction Bares steps t

all_unplaced : (ts : List Tree) → parts_of_all (map unplaced ts) ≡ map bare (parts_of_all ts)
unfolding Bares
all_unplaced ts = all_bare ts (every ts)
  where
    every : (us : List Tree) → AllByRecursion Bares us
    every [] = tt
    every (u ∷ us) = (parts_unplaced u, every us)

-- trees whose parts are those of other trees, places aside, are these trees, places aside
pub same_unplaced : (ts us : List Tree) → map bare (parts_of_all ts) ≡ map bare (parts_of_all us) → map unplaced ts ≡ map unplaced us
same_unplaced ts us e = same_trees (map unplaced ts) (map unplaced us) (all_unplaced ts ∙ (e ∙ sym (all_unplaced us)))
