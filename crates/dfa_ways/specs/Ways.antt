-- The ways in which units are taken: GCC Internals, "Specifying processor pipeline description". A
-- way has a set of units for each cycle, from the first on: unit u is bit u of the set.
use Rattle.std.specs.Prelude.{ℕ, zero, suc, ◌+◌, ◌*◌, ◌==◌, nat_le, bit_and, bit_or, List, [], ◌∷◌, ◌++◌, Option, Some, None, if◌then◌else◌, length, option_map, option_and_then}
use Rattle.md_text.specs.Lists.{each}
use Rattle.rtx_tree.specs.Limit.{most_ways, most_cycles}
use Rattle.dfa_ways.specs.declared.way.Joint.{Joint}
use Rattle.dfa_ways.specs.declared.way.Joint.TheVariants as joint

abbrev pub Way : Type 0
Way = List ℕ

abbrev pub Ways : Type 0
Ways = List Way

-- ---- two ways as one

-- both from the same cycle on, the shorter with nothing behind it; none where a unit is taken twice
abbrev pub at_once : Way → Way → Option Way
at_once [] y = Some y
at_once (a ∷ x) [] = Some (a ∷ x)
at_once (a ∷ x) (b ∷ y) =
    if bit_and a b == 0 then option_map (λ z. bit_or a b ∷ z) (at_once x y) else None

-- one behind the other
abbrev pub in_turn : Way → Way → Option Way
in_turn x y = if nat_le (length x + length y) most_cycles then Some (x ++ y) else None

abbrev pub joined : Joint → Way → Way → Option Way
joined joint.Behind x y = in_turn x y
joined joint.AtOnce x y = at_once x y

-- ---- some ways with some others

-- the one way that takes no cycle
abbrev pub no_cycle : Ways
no_cycle = [] ∷ []

-- the one that takes some units in one cycle
abbrev pub one_cycle : ℕ → Ways
one_cycle units = (units ∷ []) ∷ []

-- one way with each of some
unfoldable pub with_each : Joint → Ways → Way → Option Ways
with_each how b x = each (joined how x) b

-- each of the first with each of the second: the first vary slowest
abbrev pub product : Joint → Ways → Ways → Option Ways
product how [] b = Some []
product how (x ∷ a) b = option_and_then (λ ws. option_map (λ more. ws ++ more) (product how a b)) (with_each how b x)

unfoldable pub all_joined : Joint → Ways → Ways → Option Ways
all_joined how a b = if nat_le (length a * length b) most_ways then product how a b else None

-- one of the first or one of the second
unfoldable pub one_of : Ways → Ways → Option Ways
one_of a b = if nat_le (length a + length b) most_ways then Some (a ++ b) else None

-- so many times the same ways behind some others: each time is chosen anew
abbrev pub repeated : ℕ → Ways → Ways → Option Ways
repeated zero front ways = Some front
repeated (suc n) front ways =
    option_and_then (λ more. repeated n more ways) (all_joined joint.Behind front ways)
