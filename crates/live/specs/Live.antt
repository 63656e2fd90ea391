-- Where registers are live: GCC Internals, "Liveness information".
use Rattle.std.specs.Prelude.{◌≡◌, ◌↔◌, ℕ, ◌+◌, ◌*◌, ◌^◌, ◌<◌, ◌≤◌, Bool, true, false, ◌||◌, ◌&&◌, List, Some, slice_get, length, All}
use Rattle.std.specs.List.Sorted.{IsStrictlyIncreasing}
use Rattle.rtx_tree.specs.declared.function.Insn.{Insn}
use Rattle.rtx_tree.specs.declared.function.Function.{Function}
use Rattle.rtx_tree.specs.RegSet.{has_reg}
use Rattle.reg_rows.specs.Table.{has_at, IsTable}
use Rattle.rtl_func.specs.Paths.{leads}
use Rattle.reg_uses.specs.Uses.{insn_uses, insn_defines, is_return, return_uses}

-- an instruction of the function uses the register
abbrev pub uses_in : Function → Insn → ℕ → Bool
uses_in f i reg = insn_uses i reg || (is_return i && return_uses f reg)

-- the register is live before a place: a path of successors leads from there to a use of it, and no
-- instruction on the path before the use defines it. Past the last instruction is the end, where
-- the function returns
pub data IsLive (f : Function) (reg : ℕ) : ℕ → Type 0 where
  AtEnd : return_uses f reg ≡ true → IsLive f reg (length f.insns)
  AtUse : (p : ℕ) (i : Insn) → slice_get f.insns p ≡ Some i → uses_in f i reg ≡ true →
      IsLive f reg p
  Passing : (p q : ℕ) (i : Insn) → slice_get f.insns p ≡ Some i → insn_defines i reg ≡ false →
      leads f.insns p q ≡ true → IsLive f reg q → IsLive f reg p

-- the register is live after a place: it is live before one to which the place leads
abbrev pub IsLiveAfter : Function → ℕ → ℕ → Type 0
IsLiveAfter f reg p = (q : ℕ) × (leads f.insns p q ≡ true) × IsLive f reg q

-- a list has the registers that are live after a place, each once and in increasing order
pub record AreLiveAfter (f : Function) (p : ℕ) (regs : List ℕ) : Type 0 where
  pub ordered : IsStrictlyIncreasing regs
  pub each : (reg : ℕ) → (has_reg regs reg ≡ true) ↔ IsLiveAfter f reg p

-- for each place of the chain, and at last for its end, there is the row of the registers that are
-- live before it, with no more words of 64 bits than numbers of 32 bits ask for
pub record AreLiveRows (f : Function) (rows : List (List ℕ)) : Type 0 where
  pub long : length rows ≡ length f.insns + 1
  pub narrow : All (λ row. length row ≤ 2 ^ 26) rows
  pub sound : (p reg : ℕ) → has_at rows p reg ≡ true → IsLive f reg p
  pub complete : (p reg : ℕ) → IsLive f reg p → has_at rows p reg ≡ true

-- the rows are of one width, with room for each register that an instruction defines, and a number
-- of 32 bits tells each place
pub record HaveRoom (f : Function) (rows : List (List ℕ)) : Type 0 where
  pub short : length f.insns < 2 ^ 32
  pub width : ℕ
  pub table : IsTable width rows
  pub defined : (p : ℕ) (i : Insn) (reg : ℕ) → slice_get f.insns p ≡ Some i →
      insn_defines i reg ≡ true → reg < 64 * width
