-- Which registers can't share a home: GCC Internals, "Liveness information" and "RTL passes" (the
-- integrated register allocator).
use Rattle.std.specs.Prelude.{◌≡◌, ℕ, ◌⊎◌, true, List, Some, slice_get}
use Rattle.rtx_tree.specs.declared.function.Insn.{Insn}
use Rattle.rtx_tree.specs.declared.function.Function.{Function}
use Rattle.reg_rows.specs.Table.{has_at}
use Rattle.reg_uses.specs.Uses.{insn_defines}
use Rattle.live.specs.Live.{IsLiveAfter}

-- an instruction defines x, and y is live after it
abbrev pub DefinesBeside : Function → ℕ → ℕ → Type 0
DefinesBeside f x y =
    (p : ℕ) × (i : Insn) × (slice_get f.insns p ≡ Some i) × (insn_defines i x ≡ true) ×
    IsLiveAfter f y p

-- two different registers conflict: one is defined where the other is live after
abbrev pub Conflict : Function → ℕ → ℕ → Type 0
Conflict f x y = DefinesBeside f x y ⊎ DefinesBeside f y x

-- the row of each register has exactly those with which it conflicts
pub record AreConflicts (f : Function) (rows : List (List ℕ)) : Type 0 where
  pub sound : (x y : ℕ) → has_at rows x y ≡ true → Conflict f x y
  pub complete : (x y : ℕ) → Conflict f x y → has_at rows x y ≡ true
