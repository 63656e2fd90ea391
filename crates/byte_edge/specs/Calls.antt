-- Which calls of an object in memory are to fail.
use Rattle.std.specs.Prelude.{ℕ, List, Contains}
use Rattle.byte_edge.specs.Causes.{one_more}
use Rattle.byte_edge.specs.declared.calls.Calls.{Calls}

-- no call was made yet, and those with these numbers are to fail
abbrev pub fresh : List ℕ → Calls
fresh failing = record { made = 0; failing = failing; faults = 0 }

-- The next call is to fail. Calls are counted from 1.
abbrev pub IsToFail : Calls → Type 0
IsToFail calls = Contains calls.failing (one_more calls.made)

-- one call more was made, and it didn't fail
abbrev pub passed : Calls → Calls
passed calls = record calls { made = one_more calls.made }

-- one call more was made, and it failed
abbrev pub failed : Calls → Calls
failed calls = record calls { made = one_more calls.made; faults = one_more calls.faults }
