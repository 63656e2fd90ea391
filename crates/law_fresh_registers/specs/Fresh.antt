-- Registers that a function does not name: GCC Internals, "Insns", "Registers and Memory" and "Liveness
-- information".
use Rattle.std.specs.Prelude.{◌≡◌, ℕ, suc, ◌≤◌, true, false, List, Some, slice_get}
use Rattle.bits64.specs.declared.Width.{Width}
use Rattle.rtx_tree.specs.declared.function.Function.{Function}
use Rattle.rtx_tree.specs.declared.function.Insn.{Insn}
use Rattle.rtx_tree.specs.declared.tree.Rtx.{Rtx}
use Rattle.rtx_tree.specs.Registers.{pseudo}
use Rattle.rtx_tree.specs.RegSet.{has_reg}
use Rattle.rtx_tree.specs.Tree.{mentions_reg}
use Rattle.rtl_chain.specs.Counts.{next_pseudo}
use Rattle.reg_uses.specs.Uses.{has_argument}
use Rattle.live.specs.Live.{AreLiveAfter}
use Rattle.term_mean.specs.Stores.{Store}
use Rattle.sym_insns.specs.Shape.{all_natural}
use Rattle.sym_insns.specs.Value.{made_of}
use Rattle.sym_insns.specs.sym_state.State.{Changed}
use Rattle.sym_insns.specs.sym_state.Registers.{held}

-- no call of the function hands the register over
abbrev pub IsHandedNowhere : Function → ℕ → Type 0
IsHandedNowhere f reg = (place : ℕ) (i : Insn) → slice_get f.insns place ≡ Some i → has_argument reg i.uses ≡ false

-- ---- new registers

-- none stands in an instruction
abbrev pub NewUnnamed : Type 0
NewUnnamed =
    (f : Function) (k place : ℕ) (i : Insn) → next_pseudo f.insns ≤ k → slice_get f.insns place ≡ Some i → mentions_reg (pseudo k) i.pattern ≡ false

-- and none is live behind one
abbrev pub NewNotLive : Type 0
NewNotLive =
    (f : Function) (k place : ℕ) (live : List ℕ) → next_pseudo f.insns ≤ k → IsHandedNowhere f (pseudo k) → AreLiveAfter f place live → has_reg live (pseudo k) ≡ false

-- ---- expressions

-- registers hold the same, as far as an expression names them
abbrev pub HoldTheSame : List Changed → List Changed → Rtx → Type 0
HoldTheSame regs other x = (q : ℕ) → mentions_reg (suc q) x ≡ true → held regs (suc q) ≡ held other (suc q)

-- then it has the same value and needs
abbrev pub MadeTheSame : Type 0
MadeTheSame =
    (regs other : List Changed) (stores : List Store) (x : Rtx) (w : Width) → all_natural x ≡ true → HoldTheSame regs other x → made_of regs stores x w ≡ made_of other stores x w
