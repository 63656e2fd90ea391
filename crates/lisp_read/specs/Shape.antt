-- What a tree of the text is, looked at from outside.
use Rattle.std.specs.Prelude.{ℕ, Bool, true, false, List, [], ◌∷◌, Option, Some, None, codes, unwrap_or}
use Rattle.std.specs.Str.{bytes_eq}
use Rattle.rtx_tree.specs.declared.place.Place.{Place}
use Rattle.lisp_read.specs.declared.tree.Tree.{Tree, out-Tree}
use Rattle.lisp_read.specs.declared.tree.Tree.TheOpen.{Tree-F}
use Rattle.lisp_read.specs.declared.tree.Tree.TheFolds.{fold-Tree}

-- the place of a tree's first byte
abbrev pub place_at : Tree-F Tree → Place
place_at (Tree-F.Atom place text) = place
place_at (Tree-F.Str place text) = place
place_at (Tree-F.Block place text) = place
place_at (Tree-F.List place items) = place
place_at (Tree-F.Vector place items) = place

abbrev pub place_of : Tree → Place
place_of t = place_at (out-Tree t)

-- the text of an atom
abbrev pub atom_at : Tree-F Tree → Option (List ℕ)
atom_at (Tree-F.Atom place text) = Some text
atom_at _ = None

abbrev pub atom_of : Tree → Option (List ℕ)
atom_of t = atom_at (out-Tree t)

-- the text between the quotes of a string
abbrev pub string_at : Tree-F Tree → Option (List ℕ)
string_at (Tree-F.Str place text) = Some text
string_at _ = None

abbrev pub string_of : Tree → Option (List ℕ)
string_of t = string_at (out-Tree t)

-- the trees of a list; none where the tree is no list
abbrev pub items_at : Tree-F Tree → List Tree
items_at (Tree-F.List place items) = items
items_at _ = []

abbrev pub items_of : Tree → List Tree
items_of t = items_at (out-Tree t)

-- the trees of a vector; none where the tree is no vector
abbrev pub vector_at : Tree-F Tree → List Tree
vector_at (Tree-F.Vector place items) = items
vector_at _ = []

abbrev pub vector_of : Tree → List Tree
vector_of t = vector_at (out-Tree t)

abbrev pub is_vector_at : Tree-F Tree → Bool
is_vector_at (Tree-F.Vector place items) = true
is_vector_at _ = false

abbrev pub is_vector : Tree → Bool
is_vector t = is_vector_at (out-Tree t)

-- a list or a vector: what can be outside the language by itself
abbrev pub is_nested_at : Tree-F Tree → Bool
is_nested_at (Tree-F.List place items) = true
is_nested_at (Tree-F.Vector place items) = true
is_nested_at _ = false

abbrev pub is_nested : Tree → Bool
is_nested t = is_nested_at (out-Tree t)

-- the atom of this text
abbrev pub is_text : List ℕ → Option (List ℕ) → Bool
is_text word None = false
is_text word (Some text) = bytes_eq text word

abbrev pub is_word : List ℕ → Tree → Bool
is_word word t = is_text word (atom_of t)

-- the first of these that is there
abbrev pub first_there : List (Option (List ℕ)) → Option (List ℕ)
first_there [] = None
first_there (Some x ∷ xs) = Some x
first_there (None ∷ xs) = first_there xs

abbrev pub first_atom_step : Tree-F (Option (List ℕ)) → Option (List ℕ)
first_atom_step (Tree-F.Atom place text) = Some text
first_atom_step (Tree-F.Str place text) = None
first_atom_step (Tree-F.Block place text) = None
first_atom_step (Tree-F.List place items) = first_there items
first_atom_step (Tree-F.Vector place items) = first_there items

-- the first atom in the order of the text, at any depth
abbrev pub first_atom : Tree → Option (List ℕ)
first_atom = fold-Tree (Option (List ℕ)) first_atom_step

-- what a tree is called in a refusal
abbrev pub tree_name : Tree → List ℕ
tree_name t = unwrap_or (first_atom t) (codes "-")
