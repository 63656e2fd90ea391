-- Two lists of stores are compared from each place on.
use Rattle.std.proofs.Common.{◌≡◌, ℕ, zero, suc, ◌+◌, ◌≤◌, List, [], ◌∷◌, length, drop, slice_get, None, refl, arith}
use Rattle.std.proofs.lemmas.List.{drop_all}
use Rattle.std.proofs.lemmas.Option.{slice_get-map}
use Rattle.term_mean.specs.Stores.{Store}
use Rattle.sym_diff.specs.Difference.{or_else}
use Rattle.sym_diff.specs.Compared.{compared_stores}
use Rattle.sym_diff.specs.machine.Places.{compared_at}

drop-nothing : (n : ℕ) → drop {A = Store} n [] ≡ []
drop-nothing zero = refl
drop-nothing (suc n) = refl

from-place : (index n : ℕ) (a b : List Store) →
    compared_stores index (drop n a) (drop n b) ≡ or_else (compared_at index (slice_get a n) (slice_get b n)) (compared_stores (index + 1) (drop (suc n) a) (drop (suc n) b))
from-place index zero [] [] = refl
from-place index zero (x ∷ a) [] = refl
from-place index zero [] (y ∷ b) = refl
from-place index zero (x ∷ a) (y ∷ b) = refl
from-place index (suc n) [] [] = refl
from-place index (suc n) (x ∷ a) [] = rw (drop-nothing n) at (from-place index n a [])
from-place index (suc n) [] (y ∷ b) = rw (drop-nothing n) at (from-place index n [] b)
from-place index (suc n) (x ∷ a) (y ∷ b) = from-place index n a b

-- the stores from a place on are those at the place, and those from the next on
pub stores-next : (n : ℕ) (a b : List Store) →
    compared_stores n (drop n a) (drop n b) ≡ or_else (compared_at n (slice_get a n) (slice_get b n)) (compared_stores (n + 1) (drop (n + 1) a) (drop (n + 1) b))
stores-next n a b = let e : suc n ≡ n + 1 = omega arith in rw e at (from-place n n a b)

-- past both lists none are left
pub stores-past : (n : ℕ) (a b : List Store) → length a ≤ n → length b ≤ n → compared_stores n (drop n a) (drop n b) ≡ None
stores-past n a b ha hb = rw (drop_all n a ha, drop_all n b hb) refl

pub ruleset stores_seen = (slice_get-map)

pub ruleset stores_follow = (stores-next, stores-past)
