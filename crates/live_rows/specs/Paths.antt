-- Where a path leads to a use of a register: the backward flow of GCC Internals, "Liveness
-- information", over any graph.
use Rattle.std.specs.Prelude.{◌≡◌, ℕ, ◌*◌, ◌<◌, Bool, true, false, ◌==◌, ◌||◌, List, Option, Some, None, slice_get, length, All}
use Rattle.reg_rows.specs.Row.{lists}
use Rattle.reg_rows.specs.Table.{has_at, IsTable}
use Rattle.live_rows.specs.declared.node.Node.{Node}

abbrev pub uses : Node → ℕ → Bool
uses node reg = lists node.uses reg

abbrev pub defines : Node → ℕ → Bool
defines node reg = lists node.defines reg

abbrev pub is_place : Option ℕ → ℕ → Bool
is_place None place = false
is_place (Some q) place = q == place

-- the place may follow the node
abbrev pub leads_to : Node → ℕ → Bool
leads_to node place = is_place node.first place || is_place node.second place

-- a path leads from the place to a use of the register, and no place on it before defines the
-- register
pub data Reaches (nodes : List Node) (reg : ℕ) : ℕ → Type 0 where
  Here : (p : ℕ) (node : Node) → slice_get nodes p ≡ Some node → uses node reg ≡ true →
      Reaches nodes reg p
  Along : (p q : ℕ) (node : Node) → slice_get nodes p ≡ Some node → defines node reg ≡ false →
      leads_to node q ≡ true → Reaches nodes reg q → Reaches nodes reg p

-- the row of each place has exactly the registers that a path leads from it to a use of
pub record IsLiveRows (nodes : List Node) (rows : List (List ℕ)) : Type 0 where
  pub long : length rows ≡ length nodes
  pub sound : (p reg : ℕ) → has_at rows p reg ≡ true → Reaches nodes reg p
  pub complete : (p reg : ℕ) → Reaches nodes reg p → has_at rows p reg ≡ true

-- a row of so many words of 64 bits has room for each register that the node uses or defines
pub record Fits (width : ℕ) (node : Node) : Type 0 where
  pub uses : All (λ reg. reg < 64 * width) node.uses
  pub defines : All (λ reg. reg < 64 * width) node.defines

-- the rows are of one width, with room for each register that a node uses or defines
pub record HaveRoom (nodes : List Node) (rows : List (List ℕ)) : Type 0 where
  pub width : ℕ
  pub table : IsTable width rows
  pub fits : All (Fits width) nodes
