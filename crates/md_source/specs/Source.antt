-- The trees of a machine description, with its includes at their places: GCC Internals, "Including
-- Patterns in Machine Descriptions". How much may be read, and how many files may stand within each
-- other, is the profile of this project.
use Rattle.std.specs.Prelude.{◌≡◌, ℕ, ◌+◌, ◌<◌, ◌≤◌, List, [], ◌∷◌, ◌++◌, length, Option, Some, None, Result, Ok, Err, codes, if◌then◌else◌}
use Rattle.std.specs.Str.{bytes_eq}
use Rattle.rtx_tree.specs.Limit.{most_bytes, most_within}
use Rattle.rtx_tree.specs.declared.place.Place.{Place}
use Rattle.lisp_read.specs.declared.tree.Tree.{Tree}
use Rattle.lisp_read.specs.Reading.{ReadsAs, Trees, Syntax, Depth}
use Rattle.rv_target.specs.Shipped.{shipped_text}
use Rattle.md_source.specs.declared.trees.Gathered.{Gathered}
use Rattle.md_source.specs.declared.refusal.SourceRefusal.{SourceRefusal}
use Rattle.md_source.specs.declared.refusal.SourceRefusal.TheVariants as refusal
use Rattle.md_source.specs.Include.{included_name}

-- what is known of the bytes of files, by their names
abbrev pub Source : Type 0
Source = List ℕ → Option (List ℕ)

-- the name of the shipped description, whose text is never that of a file
abbrev pub shipped_name : List ℕ
shipped_name = codes "rv64im"

abbrev pub text_of : Source → List ℕ → Option (List ℕ)
text_of source name = if bytes_eq name shipped_name then Some shipped_text else source name

-- trees, and how many bytes were read by then; or the refusal
abbrev pub Outcome : Type 0
Outcome = Result Gathered SourceRefusal

-- an outcome with some trees in front
abbrev pub in_front : List Tree → Outcome → Outcome
in_front trees (Ok more) = Ok (record { trees = trees ++ more.trees; used = more.used })
in_front trees (Err e) = Err e

mutual
  -- What the file of a name comes to, as so many files within each other, after so many bytes were
  -- read. A file of which nothing is known may come to anything. One that is too long is refused;
  -- one that is known is read whole before anything that it includes.
  pub data FileComes (source : Source) : (within used : ℕ) → List ℕ → Outcome → Type 0 where
    unknown : (within used : ℕ) (name : List ℕ) (outcome : Outcome) → text_of source name ≡ None →
        FileComes source within used name outcome
    too_long : (within used : ℕ) (name text : List ℕ) → text_of source name ≡ Some text →
        most_bytes < used + length text → FileComes source within used name (Err refusal.Text)
    syntax : (within used : ℕ) (name text : List ℕ) (place : Place) →
        text_of source name ≡ Some text → used + length text ≤ most_bytes →
        ReadsAs text (Syntax place) →
        FileComes source within used name (Err (refusal.Syntax name place))
    depth : (within used : ℕ) (name text : List ℕ) (place : Place) →
        text_of source name ≡ Some text → used + length text ≤ most_bytes →
        ReadsAs text (Depth place) →
        FileComes source within used name (Err refusal.Depth)
    read : (within used : ℕ) (name text : List ℕ) (trees : List Tree) (outcome : Outcome) →
        text_of source name ≡ Some text → used + length text ≤ most_bytes →
        ReadsAs text (Trees trees) →
        TreesCome source within (used + length text) trees outcome → FileComes source within used name outcome

  -- What the trees of a file come to: each stays, but one that includes a file gives its place to
  -- the trees of that file. The first refusal ends it.
  pub data TreesCome (source : Source) : (within used : ℕ) → List Tree → Outcome → Type 0 where
    none : (within used : ℕ) →
        TreesCome source within used [] (Ok (record { trees = []; used = used }))
    kept : (within used : ℕ) (t : Tree) (rest : List Tree) (outcome : Outcome) →
        included_name t ≡ None → TreesCome source within used rest outcome →
        TreesCome source within used (t ∷ rest) (in_front (t ∷ []) outcome)
    included : (within used : ℕ) (t : Tree) (rest : List Tree) (name : List ℕ) (file : Gathered) (outcome : Outcome) → included_name t ≡ Some name → within < most_within →
        FileComes source (within + 1) used name (Ok file) → TreesCome source within file.used rest outcome →
        TreesCome source within used (t ∷ rest) (in_front file.trees outcome)
    refused : (within used : ℕ) (t : Tree) (rest : List Tree) (name : List ℕ) (e : SourceRefusal) →
        included_name t ≡ Some name → within < most_within →
        FileComes source (within + 1) used name (Err e) → TreesCome source within used (t ∷ rest) (Err e)
    too_deep : (within used : ℕ) (t : Tree) (rest : List Tree) (name : List ℕ) →
        included_name t ≡ Some name → most_within ≤ within →
        TreesCome source within used (t ∷ rest) (Err refusal.Include)

-- What the description of a name comes to: its trees, or the refusal.
abbrev pub DescriptionComes : Source → List ℕ → Result (List Tree) SourceRefusal → Type 0
DescriptionComes source name (Ok trees) =
    (used : ℕ) × FileComes source 1 0 name (Ok (record { trees = trees; used = used }))
DescriptionComes source name (Err e) = FileComes source 1 0 name (Err e)
