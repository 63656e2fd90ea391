-- Which names files are asked for: GCC Internals, "Including Patterns in Machine Descriptions".
-- Each is the description's own, or is named by an include in a text that was read before.
use Rattle.std.specs.Prelude.{◌≡◌, ◌≢◌, ℕ, ◌⊎◌, ⊤, List, [], ◌∷◌, ◌++◌, Option, Some, None, IsSome, Contains}
use Rattle.lisp_read.specs.declared.tree.Tree.{Tree}
use Rattle.lisp_read.specs.Reading.{ReadsAs, Trees}
use Rattle.md_source.specs.Include.{included_name}
use Rattle.md_source.specs.Source.{Source, shipped_name, text_of}

-- the text of a name is known, and one of its trees includes the other name
pub record Includes (source : Source) (name other : List ℕ) : Type 0 where
  pub text : List ℕ
  pub known : text_of source name ≡ Some text
  pub trees : List Tree
  pub reads : ReadsAs text (Trees trees)
  pub tree : Tree
  pub stands : Contains trees tree
  pub names : included_name tree ≡ Some other

-- a text of which nothing is known may include anything
abbrev pub MayInclude : Source → List ℕ → List ℕ → Type 0
MayInclude source name other = Includes source name other ⊎ (text_of source name ≡ None)

-- the text of a name was read, where these names were asked for: it is the shipped description, or
-- one of them
abbrev pub WasRead : List (List ℕ) → List ℕ → Type 0
WasRead before n = (n ≡ shipped_name) ⊎ Contains before n

-- A name that may be asked for, where those were asked for before: the description's own, or one
-- that is included in the text of such a name which was read.
pub data MayAsk (source : Source) (name : List ℕ) (before : List (List ℕ)) : List ℕ → Type 0 where
  itself : MayAsk source name before name
  included : (n other : List ℕ) → MayAsk source name before n → WasRead before n →
      MayInclude source n other → MayAsk source name before other

-- Names as they may be asked for, in their order. The shipped description is never among them.
pub data AreNamed (source : Source) (name : List ℕ) : List (List ℕ) → Type 0 where
  none : AreNamed source name []
  more : (names : List (List ℕ)) (n : List ℕ) → AreNamed source name names →
      MayAsk source name names n → n ≢ shipped_name → AreNamed source name (names ++ n ∷ [])

-- where a list of names is told before and after, it grew by names of this kind
abbrev pub GrewBy : (List (List ℕ) → Type 0) → Option (List (List ℕ)) → Option (List (List ℕ)) →
    Type 0
GrewBy P None now = ⊤
GrewBy P (Some before) None = ⊥
GrewBy P (Some before) (Some now) = (names : List (List ℕ)) × (now ≡ before ++ names) × P names

-- ---- the names that a description is made of

pub data IsNamed (source : Source) (name : List ℕ) : List ℕ → Type 0 where
  itself : IsNamed source name name
  included : (n other : List ℕ) → IsNamed source name n → Includes source n other →
      IsNamed source name other

-- the text of each is known
abbrev pub IsKnown : Source → List ℕ → Type 0
IsKnown source name = (n : List ℕ) → IsNamed source name n → IsSome (text_of source n)
