-- The steps of the code, for the contracts of private functions alone.
use Rattle.std.specs.Prelude.{◌≡◌, ◌≢◌, ℕ, ◌+◌, ◌<◌, ◌≤◌, ◌⊎◌, List, length, Option, Some, Result, Ok, Err, Vec}
use Rattle.std.specs.declared.alloc.Global.{Global}
use Rattle.rtx_tree.specs.declared.place.Place.{Place}
use Rattle.byte_edge.specs.Fetched.{Grows}
use Rattle.lisp_read.specs.Reading.{ReadsAs, Trees, Syntax, Depth}
use Rattle.md_source.specs.declared.refusal.SourceRefusal.{SourceRefusal}
use Rattle.md_source.specs.declared.refusal.SourceRefusal.TheVariants as refusal
use Rattle.rtx_tree.specs.Limit.{most_bytes}
use Rattle.md_source.specs.Source.{Source, Outcome, shipped_name, text_of}

-- what one text of a name comes to by itself, after so many bytes
abbrev pub TextReads : List ℕ → ℕ → List ℕ → Outcome → Type 0
TextReads name used text (Ok read) =
    (used + length text ≤ most_bytes) × (read.used ≡ used + length text) ×
    ReadsAs text (Trees read.trees)
TextReads name used text (Err refusal.Text) = most_bytes < used + length text
TextReads name used text (Err (refusal.Syntax file place)) =
    (used + length text ≤ most_bytes) × (file ≡ name) × ReadsAs text (Syntax place)
TextReads name used text (Err refusal.Depth) =
    (used + length text ≤ most_bytes) × ((place : _) × ReadsAs text (Depth place))
TextReads name used text (Err e) = ⊥

-- what the file of a name reads as, if its text is known
abbrev pub FileReads : Source → ℕ → List ℕ → Outcome → Type 0
FileReads source used name outcome =
    (text : List ℕ) → text_of source name ≡ Some text → TextReads name used text outcome

-- a file was fetched: of a name that holds these bytes they were given, or they are more than the
-- room; after a fault they are not
abbrev pub Fetched : (List ℕ → Type 0) → ℕ → Result (Vec ℕ Global) SourceRefusal → Type 0
Fetched holds room (Ok bytes) =
    (text : List ℕ) → holds text → (bytes.items ≡ text) × (length text ≤ room)
Fetched holds room (Err refusal.Text) = (text : List ℕ) → holds text → room < length text
Fetched holds room (Err refusal.ReadFault) = (text : List ℕ) → holds text → length text ≤ room
Fetched holds room (Err refusal.Memory) = Unit {0}
Fetched holds room (Err e) = ⊥

-- the refusal of a file that is no text was made, or memory ran out for it
abbrev pub IsSyntax : List ℕ → Place → SourceRefusal → Type 0
IsSyntax name place refusal.Memory = Unit {0}
IsSyntax name place e = e ≡ refusal.Syntax name place

-- a name was asked for, unless memory ran out
abbrev pub AsksName : {A : Type 0} → Option (List (List ℕ)) → Option (List (List ℕ)) → List ℕ →
    Result A SourceRefusal → Type 0
AsksName before now name (Err refusal.Memory) = Grows before now name ⊎ (now ≡ before)
AsksName before now name r = Grows before now name

-- the file of a name was asked for, but not where it is the shipped description
pub data AsksFile (before now : Option (List (List ℕ))) (name : List ℕ) : Type 0 where
  shipped : name ≡ shipped_name → now ≡ before → AsksFile before now name
  asked : name ≢ shipped_name → Grows before now name → AsksFile before now name

-- after a refusal it may be missing
abbrev pub AsksFor : {A : Type 0} → Option (List (List ℕ)) → Option (List (List ℕ)) → List ℕ →
    Result A SourceRefusal → Type 0
AsksFor before now name (Ok x) = AsksFile before now name
AsksFor before now name (Err e) = AsksFile before now name ⊎ (now ≡ before)
