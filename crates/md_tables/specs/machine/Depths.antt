-- How deep the definitions of predicates go, for the contracts of private functions. One that names
-- only predicates without a definition has depth 0, any other is one deeper than the deepest that
-- it names. Within n rounds those are accepted whose depth is less than n.
use Rattle.std.specs.Prelude.{◌≡◌, ℕ, ◌+◌, ◌<◌, nat_lt, Bool, false, List, Option, Some, None, map, length}
use Rattle.md_tables.specs.declared.tables.PredicateDraft.{PredicateDraft}
use Rattle.md_tables.specs.Predicates.{is_sound}

-- there is a depth, and it is less than n
abbrev pub is_below : ℕ → Option ℕ → Bool
is_below n None = false
is_below n (Some depth) = nat_lt depth n

-- which of some depths are less than n
abbrev pub below : ℕ → List (Option ℕ) → List Bool
below n depths = map (is_below n) depths

-- depths by those of the round before, as far as so many rounds can tell them
pub record IsNext (rounds : ℕ) (ds : List PredicateDraft) (depths next : List (Option ℕ)) : Type 0 where
  pub count : length next ≡ length ds
  pub sound : (n : ℕ) → n < rounds → below (n + 1) next ≡ map (is_sound ds (below n depths)) ds
