-- Where the files fail while a description is read: GCC Internals, "Including Patterns in Machine
-- Descriptions". The names that were asked for end at the one that failed, and nothing that is read
-- before it is refused.
use Rattle.std.specs.Prelude.{◌≡◌, ◌≢◌, ℕ, ◌+◌, ◌<◌, ◌≤◌, ⊤, List, [], ◌∷◌, ◌++◌, length, Option, Some, None, Ok, if◌then◌else◌}
use Rattle.std.specs.Str.{bytes_eq}
use Rattle.rtx_tree.specs.Limit.{most_bytes, most_within}
use Rattle.lisp_read.specs.declared.tree.Tree.{Tree}
use Rattle.lisp_read.specs.Reading.{ReadsAs, Trees}
use Rattle.md_source.specs.declared.trees.Gathered.{Gathered}
use Rattle.md_source.specs.Include.{included_name}
use Rattle.md_source.specs.Source.{Source, shipped_name, text_of, FileComes}

-- ---- the names that files are asked for, in order, until a file is read with all its includes

-- for the text of a name alone: files are not asked for the shipped description
abbrev pub own_name : List ℕ → List (List ℕ)
own_name name = if bytes_eq name shipped_name then [] else name ∷ []

mutual
  -- A file of which nothing is known may include anything.
  pub data FileAsks (source : Source) : List ℕ → List (List ℕ) → Type 0 where
    unknown : (name : List ℕ) (names : List (List ℕ)) → text_of source name ≡ None →
        FileAsks source name (own_name name ++ names)
    read : (name text : List ℕ) (trees : List Tree) (names : List (List ℕ)) →
        text_of source name ≡ Some text → ReadsAs text (Trees trees) →
        TreesAsk source trees names → FileAsks source name (own_name name ++ names)

  pub data TreesAsk (source : Source) : List Tree → List (List ℕ) → Type 0 where
    none : TreesAsk source [] []
    kept : (t : Tree) (rest : List Tree) (names : List (List ℕ)) → included_name t ≡ None →
        TreesAsk source rest names → TreesAsk source (t ∷ rest) names
    included : (t : Tree) (rest : List Tree) (name : List ℕ) (names more : List (List ℕ)) →
        included_name t ≡ Some name → FileAsks source name names → TreesAsk source rest more →
        TreesAsk source (t ∷ rest) (names ++ more)

-- ---- a fault

mutual
  -- Files are asked for these names until they fail, where a file is read as so many within each
  -- other, after so many bytes. It fails itself, if its text is not known to be too long; or it is
  -- read whole, and one that it includes fails.
  pub data FileFaults (source : Source) : (within used : ℕ) → List ℕ → List (List ℕ) → Type 0 where
    itself : (within used : ℕ) (name : List ℕ) → name ≢ shipped_name →
        ((text : List ℕ) → text_of source name ≡ Some text → used + length text ≤ most_bytes) →
        FileFaults source within used name (name ∷ [])
    unknown : (within used : ℕ) (name : List ℕ) (names : List (List ℕ)) →
        text_of source name ≡ None → FileFaults source within used name (own_name name ++ names)
    read : (within used : ℕ) (name text : List ℕ) (trees : List Tree) (names : List (List ℕ)) →
        text_of source name ≡ Some text → used + length text ≤ most_bytes →
        ReadsAs text (Trees trees) → TreesFault source within (used + length text) trees names →
        FileFaults source within used name (own_name name ++ names)

  -- The includes before the one that fails come to their trees.
  pub data TreesFault (source : Source) : (within used : ℕ) → List Tree → List (List ℕ) → Type 0 where
    kept : (within used : ℕ) (t : Tree) (rest : List Tree) (names : List (List ℕ)) →
        included_name t ≡ None → TreesFault source within used rest names →
        TreesFault source within used (t ∷ rest) names
    passed : (within used : ℕ) (t : Tree) (rest : List Tree) (name : List ℕ) (file : Gathered)
        (names more : List (List ℕ)) → included_name t ≡ Some name → within < most_within →
        FileComes source (within + 1) used name (Ok file) → FileAsks source name names →
        TreesFault source within file.used rest more →
        TreesFault source within used (t ∷ rest) (names ++ more)
    fails : (within used : ℕ) (t : Tree) (rest : List Tree) (name : List ℕ)
        (names : List (List ℕ)) → included_name t ≡ Some name → within < most_within →
        FileFaults source (within + 1) used name names →
        TreesFault source within used (t ∷ rest) names

-- Files are asked for these names until they fail, while the description of a name is read.
abbrev pub FaultsAt : Source → List ℕ → List (List ℕ) → Type 0
FaultsAt source name asked = FileFaults source 1 0 name asked

-- where a list of names is told before and after, it grew by these
abbrev pub Grew : Option (List (List ℕ)) → Option (List (List ℕ)) → List (List ℕ) → Type 0
Grew None now names = ⊤
Grew (Some before) None names = ⊥
Grew (Some before) (Some now) names = now ≡ before ++ names

-- names of this kind were asked for
abbrev pub AsksBy : (List (List ℕ) → Type 0) → Option (List (List ℕ)) → Option (List (List ℕ)) → Type 0
AsksBy P before now = (names : List (List ℕ)) × P names × Grew before now names
