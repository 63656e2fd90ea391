-- What a tree stands for, by what the trees in it stand for.
use Rattle.std.proofs.Common.{◌≡◌, List, [], ◌∷◌, ◌&&◌, map, refl, ap, ◌∙◌}
use Rattle.std.specs.List.{list_all}
use Rattle.rtx_tree.specs.declared.tree.Rtx.{Rtx}
use Rattle.lisp_read.specs.declared.tree.Tree.{Tree, out-Tree}
use Rattle.lisp_read.specs.declared.tree.Tree.TheOpen.{Tree-F}
use Rattle.lisp_read.specs.declared.tree.Tree.TheFolds.{fold-Tree, fold_out-Tree, map-Tree}
use Rattle.lisp_read.specs.declared.position.Position.{Position}
use Rattle.lisp_read.specs.declared.position.Position.TheVariants.{Pattern}
use Rattle.lisp_read.specs.Shape.{items_at, items_of, vector_at, vector_of, is_vector_at, is_vector, is_nested}
use Rattle.lisp_read.specs.Parsed.{Parsed, outside, parsed_map, parsed_then, each_parsed}
use Rattle.lisp_read.specs.Expression.{Meaning, meaning_of, meaning_by, meaning_step, each_read, inside_at, inside_of, expression_by, head_of_items, placed, head_at, read_at, elements_of, patterns}
use Rattle.std.specs.Prelude.{option_and_then, if◌then◌else◌}

reading : Tree → Tree → Meaning
reading = fold-Tree (Tree → Meaning) meaning_step

each_read_map : (ts : List Tree) → each_read (map reading ts) ts ≡ map meaning_of ts
unfolding meaning_of reading
each_read_map [] = refl
each_read_map (t ∷ ts) = ap (λ (xs : List Meaning). meaning_of t ∷ xs) (each_read_map ts)

inside_map : (o : Tree-F Tree) → each_read (inside_at (map-Tree Tree (Tree → Meaning) reading o)) (inside_at o) ≡ map meaning_of (inside_at o)
inside_map (Tree-F.Atom place text) = refl
inside_map (Tree-F.Str place text) = refl
inside_map (Tree-F.Block place text) = refl
inside_map (Tree-F.List place items) = each_read_map items
inside_map (Tree-F.Vector place items) = each_read_map items

meaning_out : (t : Tree) → meaning_of t ≡ meaning_by t (map meaning_of (inside_of t))
unfolding meaning_of reading
meaning_out t =
    ap (λ (read : Tree → Meaning). read t) (fold_out-Tree (Tree → Meaning) meaning_step t)
    ∙ ap (meaning_by t) (inside_map (out-Tree t))

-- a list that begins with a head is all that is inside
list_inside : (p : Position) (t : Tree) (o : Tree-F Tree) →
    expression_by p (option_and_then (placed p) (head_of_items (items_at o))) t (map meaning_of (inside_at o))
    ≡ expression_by p (option_and_then (placed p) (head_of_items (items_at o))) t (map meaning_of (items_at o))
list_inside p t (Tree-F.Atom place text) = refl
list_inside p t (Tree-F.Str place text) = refl
list_inside p t (Tree-F.Block place text) = refl
list_inside p t (Tree-F.List place items) = refl
list_inside p t (Tree-F.Vector place items) = refl

pub read_at_out : (p : Position) (t : Tree) → read_at p t ≡ expression_by p (head_at p t) t (map meaning_of (items_of t))
read_at_out p t = ap (λ (m : Meaning). m.at p) (meaning_out t) ∙ list_inside p t (out-Tree t)

pub patterns_map : (ts : List Tree) → patterns (map meaning_of ts) ≡ each_parsed (read_at Pattern) ts
patterns_map [] = refl
patterns_map (t ∷ ts) = ap (λ (rest : Parsed (List Rtx)). parsed_then (read_at Pattern t) (λ (y : Rtx). parsed_map (λ (ys : List Rtx). y ∷ ys) rest)) (patterns_map ts)

elements_inside : (t : Tree) (o : Tree-F Tree) → (if is_vector_at o && list_all is_nested (vector_at o) then patterns (map meaning_of (inside_at o)) else outside t)
    ≡ (if is_vector_at o && list_all is_nested (vector_at o) then each_parsed (read_at Pattern) (vector_at o) else outside t)
elements_inside t (Tree-F.Atom place text) = refl
elements_inside t (Tree-F.Str place text) = refl
elements_inside t (Tree-F.Block place text) = refl
elements_inside t (Tree-F.List place items) = refl
elements_inside t (Tree-F.Vector place items) = rw (patterns_map items) refl

-- the vector of a `parallel`, by its trees
pub elements_out : (t : Tree) → elements_of t ≡ (if is_vector t && list_all is_nested (vector_of t) then each_parsed (read_at Pattern) (vector_of t) else outside t)
elements_out t = ap (λ (m : Meaning). m.elements) (meaning_out t) ∙ elements_inside t (out-Tree t)
