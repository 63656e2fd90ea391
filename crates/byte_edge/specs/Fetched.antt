-- What a call for a file gives, and which names were asked for.
use Rattle.std.specs.Prelude.{◌≡◌, ℕ, ◌<◌, ◌≤◌, ◌⊎◌, ⊤, List, [], ◌∷◌, ◌++◌, length, Result, Ok, Err}
use Rattle.std.specs.declared.option.Option.{Option}
use Rattle.std.specs.declared.option.Option.TheVariants.{Some, None}
use Rattle.byte_edge.specs.declared.files.FetchFault.{FetchFault}
use Rattle.byte_edge.specs.declared.files.FetchFault.TheVariants as fault

-- Of a name that holds these bytes: they were given, or they are more than the room; a fault comes
-- only where they aren't.
abbrev pub Fetches : {X : Type 0} → (List ℕ → Type 0) → ℕ → List ℕ → Result X FetchFault → Type 0
Fetches holds room out (Ok x) =
    (bytes : List ℕ) → holds bytes → (out ≡ bytes) × (length bytes ≤ room)
Fetches holds room out (Err fault.TooLong) = (bytes : List ℕ) → holds bytes → room < length bytes
Fetches holds room out (Err fault.Failed) = (bytes : List ℕ) → holds bytes → length bytes ≤ room
Fetches holds room out (Err fault.Memory) = ⊤

-- one name more stands at the end of a list that is told
abbrev pub Grows : Option (List (List ℕ)) → Option (List (List ℕ)) → List ℕ → Type 0
Grows None new name = ⊤
Grows (Some xs) None name = ⊥
Grows (Some xs) (Some ys) name = ys ≡ xs ++ name ∷ []

-- The name that was asked for stands at the end of the list. After `Memory` it may be missing.
abbrev pub Asks : {X : Type 0} → Option (List (List ℕ)) → Option (List (List ℕ)) → List ℕ →
    Result X FetchFault → Type 0
Asks old new name (Err fault.Memory) = Grows old new name ⊎ (new ≡ old)
Asks old new name (Err fault.TooLong) = Grows old new name
Asks old new name (Err fault.Failed) = Grows old new name
Asks old new name (Ok x) = Grows old new name
