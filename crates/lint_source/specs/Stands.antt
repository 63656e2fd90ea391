-- Which file each tree of a description stands in: GCC Internals, "Including Patterns in Machine
-- Descriptions". The files stand in the order of the trees, of which there are as many.
use Rattle.std.specs.Prelude.{◌≡◌, ℕ, List, [], ◌∷◌, ◌++◌, Some, None}
use Rattle.lisp_read.specs.declared.tree.Tree.{Tree}
use Rattle.lisp_read.specs.Reading.{ReadsAs, Trees}
use Rattle.md_source.specs.Include.{included_name}
use Rattle.md_source.specs.Source.{Source, text_of}

mutual
  -- The files of the trees that the file of a name comes to. Of a file of which nothing is known
  -- they may be any.
  pub data FileHas (source : Source) : List ℕ → List (List ℕ) → Type 0 where
    unknown : (name : List ℕ) (files : List (List ℕ)) → text_of source name ≡ None →
        FileHas source name files
    read : (name text : List ℕ) (trees : List Tree) (files : List (List ℕ)) →
        text_of source name ≡ Some text → ReadsAs text (Trees trees) →
        TreesStand source name trees files → FileHas source name files

  -- Each tree of a file stands in it. In the place of one that includes a file stand the trees of
  -- that.
  pub data TreesStand (source : Source) : List ℕ → List Tree → List (List ℕ) → Type 0 where
    none : (name : List ℕ) → TreesStand source name [] []
    kept : (name : List ℕ) (t : Tree) (rest : List Tree) (files : List (List ℕ)) →
        included_name t ≡ None → TreesStand source name rest files →
        TreesStand source name (t ∷ rest) (name ∷ files)
    included : (name : List ℕ) (t : Tree) (rest : List Tree) (other : List ℕ)
        (inner files : List (List ℕ)) → included_name t ≡ Some other →
        FileHas source other inner → TreesStand source name rest files →
        TreesStand source name (t ∷ rest) (inner ++ files)
