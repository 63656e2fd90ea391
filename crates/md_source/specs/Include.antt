-- The directive that includes a file: GCC Internals, "Including Patterns in Machine Descriptions".
use Rattle.std.specs.Prelude.{ℕ, Bool, List, [], ◌∷◌, Option, None, is_some, codes, if◌then◌else◌}
use Rattle.std.specs.List.{list_any}
use Rattle.lisp_read.specs.declared.tree.Tree.{Tree}
use Rattle.lisp_read.specs.Shape.{is_word, string_of, items_of}

-- the word and a string, and no more: the bytes between the quotes, as they stand, are the name of
-- a file
abbrev pub name_in : List Tree → Option (List ℕ)
name_in (word ∷ name ∷ []) = if is_word (codes "include") word then string_of name else None
name_in _ = None

-- the name of the file that a tree includes; none where the tree is no such list, which then stays
-- a tree
abbrev pub included_name : Tree → Option (List ℕ)
included_name t = name_in (items_of t)

-- a tree among some includes a file
abbrev pub include_some : List Tree → Bool
include_some trees = list_any (λ t. is_some (included_name t)) trees
