-- The steps of the code: for the contracts of private functions alone.
use Rattle.std.specs.Prelude.{◌≡◌, ℕ, List, ◌++◌}
use Rattle.std.specs.declared.option.Option.{Option}
use Rattle.std.specs.Io.KnownBytes.{Consumes, IsAtEnd}

-- all bytes that were left stand behind those that were there
abbrev pub AppendsRest : Option (List ℕ) → Option (List ℕ) → List ℕ → List ℕ → Type 0
AppendsRest old new before after =
    (bytes : List ℕ) × (after ≡ before ++ bytes) × Consumes old new bytes × IsAtEnd new
