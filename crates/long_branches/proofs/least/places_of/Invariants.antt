use Rattle.std.proofs.Common.{◌≡◌, ℕ, ◌+◌, ◌≤◌, length, get_or}
use Rattle.long_branches.specs.Branches.{place}
use Rattle.long_branches.proofs.least.places_of.Given as goal

abbrev pub invariant-loop-at : goal.invariant-loop-at
invariant-loop-at l = record {
  place_is : l.place ≡ place l.pieces l.longs l.at;
  has_each : length l.places ≡ l.at + 1;
  are : (n : ℕ) → n ≤ l.at → get_or l.places n 0 ≡ place l.pieces l.longs n;
}
