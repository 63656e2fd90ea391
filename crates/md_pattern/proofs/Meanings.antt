-- What a tree stands for, by what the trees in it stand for.
use Rattle.std.proofs.Common.{◌≡◌, List, [], ◌∷◌, Err, map, refl, ap, ◌∙◌, if◌then◌else◌}
use Rattle.rtx_tree.specs.declared.constants.Constant.{Constant}
use Rattle.lisp_read.specs.declared.tree.Tree.{Tree, out-Tree}
use Rattle.lisp_read.specs.declared.tree.Tree.TheOpen.{Tree-F}
use Rattle.lisp_read.specs.declared.tree.Tree.TheFolds.{fold-Tree, fold_out-Tree, map-Tree}
use Rattle.lisp_read.specs.Shape.{items_at, items_of, vector_at, vector_of, is_vector_at, is_vector}
use Rattle.lisp_read.specs.Expression.{inside_at, inside_of}
use Rattle.md_pattern.specs.declared.reason.Reason.TheVariants as reason
use Rattle.md_pattern.specs.Pattern.{Meaning, meaning_of, meaning_by, meaning_step, each_read, each, list_by, pattern_of, patterns_of}

reading : List Constant → Tree → Tree → Meaning
reading constants = fold-Tree (Tree → Meaning) (meaning_step constants)

each_read_map : (constants : List Constant) (ts : List Tree) → each_read (map (reading constants) ts) ts ≡ map (meaning_of constants) ts
unfolding meaning_of reading
each_read_map constants [] = refl
each_read_map constants (t ∷ ts) = ap (λ (xs : List Meaning). meaning_of constants t ∷ xs) (each_read_map constants ts)

-- the trees within a tree, each read with its own meaning
pub inside_map : {A : Type 0} (each : List (Tree → A) → List Tree → List A) (read : Tree → Tree → A) (mean : Tree → A) →
    ((ts : List Tree) → each (map read ts) ts ≡ map mean ts) → (o : Tree-F Tree) →
    each (inside_at (map-Tree Tree (Tree → A) read o)) (inside_at o) ≡ map mean (inside_at o)
inside_map each read mean all (Tree-F.Atom place text) = all []
inside_map each read mean all (Tree-F.Str place text) = all []
inside_map each read mean all (Tree-F.Block place text) = all []
inside_map each read mean all (Tree-F.List place items) = all items
inside_map each read mean all (Tree-F.Vector place items) = all items

-- what only goes by a list's items
pub list_inside : {A B : Type 0} (by : List Tree → List A → B) → ((xs ys : List A) → by [] xs ≡ by [] ys) → (mean : Tree → A) (o : Tree-F Tree) →
    by (items_at o) (map mean (inside_at o)) ≡ by (items_at o) (map mean (items_at o))
list_inside by none mean (Tree-F.Atom place text) = refl
list_inside by none mean (Tree-F.Str place text) = refl
list_inside by none mean (Tree-F.Block place text) = refl
list_inside by none mean (Tree-F.List place items) = refl
list_inside by none mean (Tree-F.Vector place items) = none (map mean items) []

meaning_out : (constants : List Constant) (t : Tree) → meaning_of constants t ≡ meaning_by constants t (map (meaning_of constants) (inside_of t))
unfolding meaning_of reading
meaning_out constants t =
    ap (λ (read : Tree → Meaning). read t) (fold_out-Tree (Tree → Meaning) (meaning_step constants) t)
    ∙ ap (meaning_by constants t) (inside_map each_read (reading constants) (meaning_of constants) (each_read_map constants) (out-Tree t))

-- a list, by its items
pub pattern_out : (constants : List Constant) (t : Tree) → pattern_of constants t ≡ list_by constants (items_of t) (map (meaning_of constants) (items_of t))
pattern_out constants t = ap (λ (m : Meaning). m.pattern) (meaning_out constants t) ∙ list_inside (list_by constants) (λ xs ys. refl) (meaning_of constants) (out-Tree t)

vector_inside : (constants : List Constant) (o : Tree-F Tree) → (if is_vector_at o then each (map (meaning_of constants) (inside_at o)) else Err reason.Parts)
    ≡ (if is_vector_at o then each (map (meaning_of constants) (vector_at o)) else Err reason.Parts)
vector_inside constants (Tree-F.Atom place text) = refl
vector_inside constants (Tree-F.Str place text) = refl
vector_inside constants (Tree-F.Block place text) = refl
vector_inside constants (Tree-F.List place items) = refl
vector_inside constants (Tree-F.Vector place items) = refl

-- a vector, by its trees
pub vector_out : (constants : List Constant) (t : Tree) → patterns_of constants t ≡ (if is_vector t then each (map (meaning_of constants) (vector_of t)) else Err reason.Parts)
vector_out constants t = ap (λ (m : Meaning). m.vector) (meaning_out constants t) ∙ vector_inside constants (out-Tree t)
