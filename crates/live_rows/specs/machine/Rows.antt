-- Rows that are being filled.
use Rattle.std.specs.Prelude.{◌≡◌, ℕ, Bool, true, false, ◌||◌, ◌&&◌, not, List, Option, Some, None, slice_get}
use Rattle.reg_rows.specs.Table.{has_at}
use Rattle.live_rows.specs.declared.node.Node.{Node}
use Rattle.live_rows.specs.Paths.{uses, defines, Reaches}

abbrev pub at_place : Option ℕ → List (List ℕ) → ℕ → Bool
at_place None rows reg = false
at_place (Some q) rows reg = has_at rows q reg

-- the row of a place that may follow has the register
abbrev pub after : Node → List (List ℕ) → ℕ → Bool
after node rows reg = at_place node.first rows reg || at_place node.second rows reg

-- a place that may follow has the register, and the node does not define it
abbrev pub passes : Node → List (List ℕ) → ℕ → Bool
passes node rows reg = after node rows reg && not (defines node reg)

abbrev pub uses_by : Option Node → ℕ → Bool
uses_by None reg = false
uses_by (Some node) reg = uses node reg

-- the node at a place uses the register
abbrev pub uses_at : List Node → ℕ → ℕ → Bool
uses_at nodes p reg = uses_by (slice_get nodes p) reg

-- each row has what its place uses
abbrev pub HasUses : List Node → List (List ℕ) → Type 0
HasUses nodes rows = (p reg : ℕ) → uses_at nodes p reg ≡ true → has_at rows p reg ≡ true

-- each row has only registers that a path leads to a use of
abbrev pub IsSound : List Node → List (List ℕ) → Type 0
IsSound nodes rows = (p reg : ℕ) → has_at rows p reg ≡ true → Reaches nodes reg p

-- the row of a place has what its node passes
abbrev pub IsClosedAt : List Node → List (List ℕ) → ℕ → Type 0
IsClosedAt nodes rows p =
    (node : Node) (reg : ℕ) → slice_get nodes p ≡ Some node → passes node rows reg ≡ true →
    has_at rows p reg ≡ true
