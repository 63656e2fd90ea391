-- The rows for what is put in a window's place: GCC Internals, "Liveness information".
use Rattle.std.specs.Prelude.{◌≡◌, ℕ, ◌+◌, ◌≤◌, List, length}
use Rattle.std.specs.List.{splice}
use Rattle.rtx_tree.specs.declared.function.Insn.{Insn}
use Rattle.rtx_tree.specs.declared.function.Function.{Function}
use Rattle.live.specs.Live.{AreLiveRows}
use Rattle.live_chain.specs.declared.kept.WindowRows.{WindowRows}
use Rattle.new_insns.specs.Replaced.{replaced}
use Rattle.live_chain.specs.Stays.{StaysBefore}

-- put in the place of those from their first place up to the window's end, they make of the rows of
-- a function those of the function with new instructions in the window's place; what is live in
-- front of their first place stays
pub record AreRowsFor (f : Function) (first end : ℕ) (new : List Insn) (inside : WindowRows) :
    Type 0 where
  pub order : inside.from ≤ first
  pub long : inside.from + length inside.rows ≡ first + length new
  pub rows : (rows : List (List ℕ)) → AreLiveRows f rows →
      AreLiveRows (replaced f first end new) (splice rows inside.from end inside.rows)
  pub stays : StaysBefore f (replaced f first end new) inside.from
