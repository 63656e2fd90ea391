-- What a window asks for and what it defines, as lists: GCC Internals, "Liveness information".
use Rattle.std.specs.Prelude.{◌≡◌, ℕ, Bool, true, false, List}
use Rattle.rtx_tree.specs.declared.function.Insn.{Insn}
use Rattle.rtx_tree.specs.RegSet.{has_reg}
use Rattle.live_chain.specs.declared.demand.Demand.{Demand}
use Rattle.live_chain.specs.machine.Window.{asks_for, defines_in}

-- the lists have what the window asks for and what it defines
pub record IsDemandOf (window : List Insn) (demand : Demand) : Type 0 where
  pub asks : (reg : ℕ) → has_reg demand.asks reg ≡ asks_for window reg
  pub defines : (reg : ℕ) → has_reg demand.defines reg ≡ defines_in window reg

-- the lists are alike in a register, where these are live behind
pub record AreLikeLists (old new : Demand) (behind : ℕ → Bool) (reg : ℕ) : Type 0 where
  pub asks : has_reg old.asks reg ≡ has_reg new.asks reg
  pub defines : has_reg old.asks reg ≡ false → behind reg ≡ true →
      has_reg old.defines reg ≡ has_reg new.defines reg
