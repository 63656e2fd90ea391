-- The best of so many plans, as it is kept while one after the other is looked at.
use Rattle.std.specs.Prelude.{ℕ, zero, suc, nat_lt, ◌==◌, Bool, false, Option, Some, None, if◌then◌else◌}
use Rattle.reload_choice.specs.declared.given.Plan.{Plan}

-- the cheaper of two; of two that cost the same the first
abbrev pub better : Option Plan → Option Plan → Option Plan
better None other = other
better (Some best) None = Some best
better (Some best) (Some other) = if nat_lt other.cost best.cost then Some other else Some best

abbrev pub best_upto : (ℕ → Option Plan) → ℕ → Option Plan
best_upto plans zero = None
best_upto plans (suc n) = better (best_upto plans n) (plans n)

-- a plan than which none costs less
abbrev pub is_free : Option Plan → Bool
is_free None = false
is_free (Some best) = best.cost == 0
