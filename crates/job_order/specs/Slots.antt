-- Where a job finds room: GCC Internals, "Specifying processor pipeline description".
use Rattle.std.specs.Prelude.{◌≡◌, ℕ, zero, suc, ◌+◌, ◌<◌, ◌≤◌, ◌==◌, ◌&&◌, max, Bool, true, bit_and, bit_or, List, [], ◌∷◌, Option, Some, None, drop, find, slice_index}
use Rattle.dfa_ways.specs.Ways.{Way, Ways}
use Rattle.job_order.specs.declared.job.Ask.{Ask}
use Rattle.job_order.specs.declared.job.Job.{Job}
use Rattle.job_order.specs.declared.placed.Placed.{Placed}

-- ---- units. In the cycles behind those of the list none is taken.

-- no unit stands in both, in the same cycle
abbrev pub are_apart : List ℕ → Way → Bool
are_apart [] way = true
are_apart (old ∷ taken) [] = true
are_apart (old ∷ taken) (units ∷ way) = bit_and old units == 0 && are_apart taken way

-- a way from a cycle on takes no unit that is taken
abbrev pub is_free : List ℕ → ℕ → Way → Bool
is_free taken cycle way = are_apart (drop cycle taken) way

-- the first way that is free from a cycle on
abbrev pub free_way : List ℕ → ℕ → Ways → Option Way
free_way taken cycle ways = find (is_free taken cycle) ways

-- what is taken where a way is taken from the first cycle on
abbrev pub taken_now : List ℕ → Way → List ℕ
taken_now taken [] = taken
taken_now [] (units ∷ way) = units ∷ way
taken_now (old ∷ taken) (units ∷ way) = bit_or old units ∷ taken_now taken way

-- and from a cycle on
abbrev pub taken_from : List ℕ → ℕ → Way → List ℕ
taken_from taken zero way = taken_now taken way
taken_from [] (suc cycle) way = 0 ∷ taken_from [] cycle way
taken_from (old ∷ taken) (suc cycle) way = old ∷ taken_from taken cycle way

-- ---- cycles

-- the first cycle that is late enough for what a job depends on
abbrev pub late_for : List ℕ → List Ask → ℕ
late_for cycles [] = 0
late_for cycles (a ∷ asks) = max (slice_index cycles a.job + a.weight) (late_for cycles asks)

-- The slot of a job: the least cycle that is late enough and from which on a way is free, and the
-- first such way.
pub record IsSlot (s : Placed) (j : Job) (cycle : ℕ) (way : Way) : Type 0 where
  pub late : late_for s.cycles j.asks ≤ cycle
  pub free : free_way s.taken cycle j.ways ≡ Some way
  pub least : (other : ℕ) → late_for s.cycles j.asks ≤ other → other < cycle →
      free_way s.taken other j.ways ≡ None
