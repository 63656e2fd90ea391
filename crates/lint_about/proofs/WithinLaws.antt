-- What is first found in a tree, by what is first found in the trees of it.
use Rattle.std.proofs.Common.{◌≡◌, ℕ, List, [], ◌∷◌, ◌++◌, Option, Some, None, map, refl, sym, ap, ◌∙◌}
use Rattle.std.specs.List.{flat_map}
use Rattle.std.specs.Option.{option_or}
use Rattle.rtx_tree.specs.declared.constants.Constant.{Constant}
use Rattle.lisp_read.specs.declared.tree.Tree.{Tree, out-Tree}
use Rattle.lisp_read.specs.declared.tree.Tree.TheOpen.{Tree-F}
use Rattle.lisp_read.specs.declared.tree.Tree.TheFolds.{fold-Tree, fold_out-Tree, map-Tree}
use Rattle.lisp_read.specs.Expression.{inside_at, inside_of}
use Rattle.lint_about.specs.declared.sought.Sought.{Sought}
use Rattle.lint_about.specs.Within.{each_gone, within_step, within, first_found, placed, place_within, found_at, first_in}

-- ---- the trees within a tree

going : Tree → Tree → List Tree
going = fold-Tree (Tree → List Tree) within_step

each_gone_flat : (ts : List Tree) → each_gone (map going ts) ts ≡ flat_map within ts
unfolding within going
each_gone_flat [] = refl
each_gone_flat (t ∷ ts) = ap (λ (rest : List Tree). within t ++ rest) (each_gone_flat ts)

inside_gone : (o : Tree-F Tree) → each_gone (inside_at (map-Tree Tree (Tree → List Tree) going o)) (inside_at o) ≡ flat_map within (inside_at o)
inside_gone (Tree-F.Atom place text) = refl
inside_gone (Tree-F.Str place text) = refl
inside_gone (Tree-F.Block place text) = refl
inside_gone (Tree-F.List place items) = each_gone_flat items
inside_gone (Tree-F.Vector place items) = each_gone_flat items

within_out : (t : Tree) → within t ≡ flat_map within (inside_of t) ++ t ∷ []
unfolding within going
within_out t =
    ap (λ (go : Tree → List Tree). go t) (fold_out-Tree (Tree → List Tree) within_step t)
    ∙ ap (λ (trees : List Tree). trees ++ t ∷ []) (inside_gone (out-Tree t))

-- ---- the first thing found

or_assoc : {B : Type 0} (a b d : Option B) → option_or (option_or a b) d ≡ option_or a (option_or b d)
or_assoc None b d = refl
or_assoc (Some x) b d = refl

or_none : {B : Type 0} (a : Option B) → option_or a None ≡ a
or_none None = refl
or_none (Some x) = refl

pub found_append : {A B : Type 0} (look : A → Option B) (xs ys : List A) → first_found look (xs ++ ys) ≡ option_or (first_found look xs) (first_found look ys)
found_append look [] ys = refl
found_append look (x ∷ xs) ys = ap (option_or (look x)) (found_append look xs ys) ∙ sym (or_assoc (look x) (first_found look xs) (first_found look ys))

-- what is first found in the trees of a tree
abbrev through : {B : Type 0} → (Tree → Option B) → Tree → Option B
through look t = first_found look (within t)

found_flat : {B : Type 0} (look : Tree → Option B) (ts : List Tree) → first_found look (flat_map within ts) ≡ first_found (through look) ts
found_flat look [] = refl
found_flat look (t ∷ ts) = found_append look (within t) (flat_map within ts) ∙ ap (option_or (through look t)) (found_flat look ts)

through_out : {B : Type 0} (look : Tree → Option B) (t : Tree) → through look t ≡ option_or (first_found (through look) (inside_of t)) (look t)
through_out look t =
    ap (first_found look) (within_out t)
    ∙ found_append look (flat_map within (inside_of t)) (t ∷ [])
    ∙ ap (λ (a : Option _). option_or a (option_or (look t) None)) (found_flat look (inside_of t))
    ∙ ap (option_or (first_found (through look) (inside_of t))) (or_none (look t))

-- ---- as the code looks

pub placed_inside : (text : List ℕ) (t : Tree) → place_within text t ≡ option_or (first_found (place_within text) (inside_of t)) (placed text t)
unfolding place_within
placed_inside text t = through_out (placed text) t

pub found_inside : (constants : List Constant) (s : Sought) (t : Tree) → first_in constants s t ≡ option_or (first_found (first_in constants s) (inside_of t)) (found_at constants s t)
unfolding first_in
found_inside constants s t = through_out (found_at constants s) t
