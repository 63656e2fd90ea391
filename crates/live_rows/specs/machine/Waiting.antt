-- Which places wait to be visited.
use Rattle.std.specs.Prelude.{◌≡◌, ℕ, ◌<◌, Bool, true, false, ◌||◌, ◌&&◌, nat_lt, List, Option, Some, None, slice_get, length, All}
use Rattle.reg_rows.specs.Row.{has, lists}
use Rattle.live_rows.specs.declared.node.Node.{Node}
use Rattle.live_rows.specs.Paths.{leads_to}
use Rattle.live_rows.specs.machine.Rows.{IsClosedAt}

abbrev pub lists_in : Option (List ℕ) → ℕ → Bool
lists_in None place = false
lists_in (Some list) place = lists list place

-- the list at a place has another
abbrev pub listed_at : List (List ℕ) → ℕ → ℕ → Bool
listed_at back p q = lists_in (slice_get back p) q

-- the lists have numbers below a bound alone
abbrev pub IsBelow : ℕ → List (List ℕ) → Type 0
IsBelow bound back = (p q : ℕ) → listed_at back p q ≡ true → q < bound

-- the list of each place has those that lead to it
pub record IsBack (nodes : List Node) (back : List (List ℕ)) : Type 0 where
  pub each : (p q : ℕ) (node : Node) → p < length nodes → slice_get nodes q ≡ Some node →
      leads_to node p ≡ true → listed_at back p q ≡ true
  pub below : IsBelow (length nodes) back

-- a place waits: below `at` in this round, or anywhere in the next
abbrev pub waits : ℕ → List ℕ → List ℕ → ℕ → Bool
waits at now next place = (nat_lt place at && has now place) || has next place

-- a place that does not wait is closed
abbrev pub IsPending : List Node → List (List ℕ) → ℕ → List ℕ → List ℕ → Type 0
IsPending nodes rows at now next =
    (q : ℕ) (node : Node) → slice_get nodes q ≡ Some node → waits at now next q ≡ false →
    IsClosedAt nodes rows q

-- a place that is not left for a round is closed
abbrev pub AreLeft : List Node → List (List ℕ) → List ℕ → Type 0
AreLeft nodes rows now =
    (q : ℕ) (node : Node) → slice_get nodes q ≡ Some node → has now q ≡ false →
    IsClosedAt nodes rows q
