-- How many slots are free.
use Rattle.std.proofs.Common.{◌≡◌, ℕ, ◌+◌, List, ◌++◌, set, replicate, Option, Some, None, is_none, cond, arith}
use Rattle.std.specs.Prelude.{slice_get}
use Rattle.std.proofs.lemmas.Option.{slice_get_within, get_or_from_slice_get}
use Rattle.std.proofs.lemmas.List.Sums.{sum_by-set, sum_by-append}
use Rattle.std.proofs.lemmas.List.Folds.{sum_by-replicate}
use Rattle.node_pool.specs.Slots.{spare_of}

module _ {T : Type 0} where
  -- what a slot holds in the place of what it held
  pub written : (slots : List (Option T)) (at : ℕ) (old new : Option T) → slice_get slots at ≡ Some old →
      spare_of (set slots at new) + cond (is_none old) 1 0 ≡ spare_of slots + cond (is_none new) 1 0
  written slots at old new there =
      let had = get_or_from_slice_get slots at old old there in
      rw had at (sum_by-set (λ (o : Option T). cond (is_none o) 1 0) slots at new old (slice_get_within slots at old there))

  pub more_free : (slots : List (Option T)) (count : ℕ) → spare_of (slots ++ replicate count None) ≡ spare_of slots + count
  more_free slots count =
      omega (arith, sum_by-append (λ (o : Option T). cond (is_none o) 1 0) slots (replicate count None), sum_by-replicate (λ (o : Option T). cond (is_none o) 1 0) count None)
