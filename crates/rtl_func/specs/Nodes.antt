-- The trees within a tree: GCC Internals, "RTL Objects".
use Rattle.std.specs.Prelude.{List, ◌∷◌, map}
use Rattle.std.specs.List.{flat_map}
use Rattle.rtx_tree.specs.declared.tree.Rtx.{Rtx, roll-Rtx}
use Rattle.rtx_tree.specs.declared.tree.Rtx.TheOpen.{Rtx-F}
use Rattle.rtx_tree.specs.declared.tree.Rtx.TheFolds.{fold-Rtx}

-- a tree beside all trees within it
pub record Nodes : Type 0 where
  pub whole : Rtx
  pub all : List Rtx

abbrev pub nodes_step : Rtx-F Nodes → Nodes
nodes_step x =
    let whole = roll-Rtx (record { code = x.code; mode = x.mode; number = x.number; name = x.name; kids = map (λ k. k.whole) x.kids }) in
    record { whole = whole; all = whole ∷ flat_map (λ k. k.all) x.kids }

-- the tree itself and all trees within it, in the order of the text
abbrev pub nodes_of : Rtx → List Rtx
nodes_of x = (fold-Rtx Nodes nodes_step x).all
