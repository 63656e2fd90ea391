-- What an answer says of the files.
use Rattle.std.specs.Prelude.{◌≡◌, ℕ, List, Some, Result, Ok, Err}
use Rattle.md_source.specs.declared.refusal.SourceRefusal.{SourceRefusal}
use Rattle.md_source.specs.declared.refusal.SourceRefusal.TheVariants as refusal
use Rattle.md_source.specs.Source.{Source}

-- what is known of the files is so: each name holds the bytes that are known of it
abbrev pub Agrees : Source → (List ℕ → List ℕ → Type 0) → Type 0
Agrees source holds = (name text : List ℕ) → source name ≡ Some text → holds name text

-- a refusal has a property; want of memory and a fault are free here
abbrev pub Refuses : {A : Type 0} → SourceRefusal → (Result A SourceRefusal → Type 0) → Type 0
Refuses refusal.ReadFault P = Unit {0}
Refuses refusal.Memory P = Unit {0}
Refuses e P = P (Err e)

-- what is told is given; a refusal is the one that is told; want of memory is free,
-- and so is a fault
abbrev pub Gives : {A : Type 0} → Result A SourceRefusal → (Result A SourceRefusal → Type 0) →
    Type 0
Gives (Ok x) P = P (Ok x)
Gives (Err e) P = Refuses e P
