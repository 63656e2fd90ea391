-- What holds of the ways of each expression: there is one, there are not too many, and each takes one
-- cycle or more, and not too many.
use Rattle.std.specs.Prelude.{◌≡◌, ℕ, ◌<◌, ◌≤◌, List, Some, length}
use Rattle.std.specs.List.{AllByRecursion}
use Rattle.rtx_tree.specs.Limit.{most_ways, most_cycles}
use Rattle.dfa_ways.specs.Ways.{Way, Ways}
use Rattle.dfa_ways.specs.Expression.{ways_of}

pub record IsWay (x : Way) : Type 0 where
  pub some : 0 < length x
  pub short : length x ≤ most_cycles

pub record AreWays (ways : Ways) : Type 0 where
  pub some : 0 < length ways
  pub few : length ways ≤ most_ways
  pub each : AllByRecursion IsWay ways

-- whatever ways an expression has, these hold of them
abbrev pub HaveWays : Type 0
HaveWays = (units : List (List ℕ)) (text : List ℕ) (ways : Ways) → ways_of units text ≡ Some ways → AreWays ways
