-- A window of a chain as it is seen from outside: GCC Internals, "Liveness information", "Insns"
-- and "Jump Patterns".
use Rattle.std.specs.Prelude.{◌≡◌, ℕ, ◌<◌, ◌≤◌, ◌⊎◌, Bool, true, false, ◌||◌, ◌&&◌, not, List, [], ◌∷◌, ◌++◌, length, drop, slice_range}
use Rattle.std.specs.List.{list_any, list_all}
use Rattle.reg_rows.specs.Row.{has}
use Rattle.reg_rows.specs.Table.{has_at}
use Rattle.rtx_tree.specs.declared.function.Insn.{Insn}
use Rattle.rtx_tree.specs.Patterns.{is_label_kind}
use Rattle.rtx_tree.specs.RegSet.{has_reg}
use Rattle.rv_regs.specs.Registers.{kept_registers}
use Rattle.live_chain.specs.declared.kept.WindowRows.{WindowRows}
use Rattle.live_chain.specs.Narrow.{AreNarrow}
use Rattle.reg_uses.specs.Uses.{insn_uses, insn_defines, insn_sets, is_return}
use Rattle.rtl_func.specs.declared.flow.Flow.{Flow}
use Rattle.rtl_func.specs.declared.flow.Flow.TheVariants.{Falls}
use Rattle.rtl_func.specs.Blocks.{is_jump_kind}
use Rattle.rtl_func.specs.Successors.{flow_of}

-- the window asks for a register: it uses it before it defines it
abbrev pub asks_for : List Insn → ℕ → Bool
asks_for [] reg = false
asks_for (i ∷ window) reg = insn_uses i reg || (not (insn_defines i reg) && asks_for window reg)

-- an instruction of the window defines the register
abbrev pub defines_in : List Insn → ℕ → Bool
defines_in window reg = list_any (λ i. insn_defines i reg) window

-- a `set` of the window sets the register
abbrev pub sets_in : List Insn → ℕ → Bool
sets_in window reg = list_any (insn_sets reg) window

-- where the window leads: where its last instruction does, or on where there is none
abbrev pub flow_behind : List Insn → Flow
flow_behind [] = Falls
flow_behind (i ∷ []) = flow_of i
flow_behind (i ∷ j ∷ window) = flow_behind (j ∷ window)

-- neither a label nor a return
abbrev pub is_inner : Insn → Bool
is_inner i = not (is_label_kind i.kind) && not (is_return i)

-- an instruction leads on to the next alone, and is entered from the one in front of it alone
abbrev pub passes : Insn → Bool
passes i = is_inner i && not (is_jump_kind i.kind)

-- the window is left at its end alone, by no return, and entered at its beginning alone
abbrev pub leads_last : List Insn → Bool
leads_last [] = true
leads_last (i ∷ []) = is_inner i
leads_last (i ∷ j ∷ window) = passes i && leads_last (j ∷ window)

-- an instruction of the window uses the register or defines it
abbrev pub names_in : List Insn → ℕ → Bool
names_in window reg = list_any (λ i. insn_uses i reg || insn_defines i reg) window

-- two windows are entered and left alike: they lead to the same places, and set the same of the
-- registers that a return uses where they are set
pub record AreLikeEnds (old new : List Insn) : Type 0 where
  pub old_leads : leads_last old ≡ true
  pub new_leads : leads_last new ≡ true
  pub flow : flow_behind old ≡ flow_behind new
  pub sets : (reg : ℕ) → has_reg kept_registers reg ≡ true → sets_in old reg ≡ sets_in new reg

-- two windows are alike in a register: both ask for it, or neither does, and then, where it is live
-- behind, both define it, or neither does
pub record IsAlike (old new : List Insn) (behind : ℕ → Bool) (reg : ℕ) : Type 0 where
  pub asks : asks_for old reg ≡ asks_for new reg
  pub defines : asks_for old reg ≡ false → behind reg ≡ true →
      defines_in old reg ≡ defines_in new reg

-- two windows are the same from outside, where these registers are live behind them
pub record AreSameOutside (old new : List Insn) (behind : ℕ → Bool) : Type 0 where
  pub ends : AreLikeEnds old new
  pub demands : (reg : ℕ) → IsAlike old new behind reg

-- the register is live before the window, where these are live behind it
abbrev pub is_live_before : List Insn → (ℕ → Bool) → ℕ → Bool
is_live_before window behind reg =
    asks_for window reg || (not (defines_in window reg) && behind reg)

-- the rows of what is live before each instruction of the window, where these are live behind it
pub record AreRowsOf (window : List Insn) (behind : ℕ → Bool) (rows : List (List ℕ)) : Type 0 where
  pub long : length rows ≡ length window
  pub each : (k reg : ℕ) → k < length window →
      has_at rows k reg ≡ is_live_before (drop k window) behind reg

-- the first of the rows, or the row behind them where there is none, has the register
abbrev pub first_has : List (List ℕ) → List ℕ → ℕ → Bool
first_has [] behind reg = has behind reg
first_has (row ∷ rows) behind reg = has row reg

-- the window from one place up to another leads on from each of its instructions to the next alone,
-- and each of these registers is used or defined in it
pub record IsBlockTo (insns : List Insn) (from first : ℕ) (regs : List ℕ) : Type 0 where
  pub order : from ≤ first
  pub passing : list_all passes (slice_range insns from first) ≡ true
  pub named : (reg : ℕ) → has_reg regs reg ≡ true → names_in (slice_range insns from first) reg ≡ true

-- what stands behind two windows: it is left at its end alone, by no return, and entered at its
-- beginning alone, and each of the windows leads on from each of its instructions to the next alone,
-- or nothing is seen there
pub record IsTailOf (old new tail : List Insn) : Type 0 where
  pub leading : leads_last tail ≡ true
  pub led : (tail ≡ []) ⊎ ((list_all passes old ≡ true) × (list_all passes new ≡ true))

-- two windows leave a register alone, and what stands behind them asks for it
abbrev pub is_settled : List Insn → List Insn → List Insn → ℕ → Bool
is_settled old new tail reg =
    not (defines_in old reg) && (not (defines_in new reg) && asks_for tail reg)

-- rows of a new window, and of what stands in front of it from where on the old one and it, both with
-- what stands there, are the same from outside
pub record AreInside (insns : List Insn) (first : ℕ) (old new : List Insn) (behind : ℕ → Bool) (inside : WindowRows) : Type 0 where
  pub order : inside.from ≤ first
  pub passing : list_all passes (slice_range insns inside.from first) ≡ true
  pub demands : (reg : ℕ) → IsAlike (slice_range insns inside.from first ++ old) (slice_range insns inside.from first ++ new) behind reg
  pub rows : AreRowsOf (slice_range insns inside.from first ++ new) behind inside.rows
  pub narrow : AreNarrow inside.rows

-- rows of a new window, and of what stands in front of it from where on each register in which the
-- old one and it are not alike is used or defined there, or settled by what stands behind
pub record AreFound (insns : List Insn) (first end : ℕ) (old new : List Insn) (behind : ℕ → Bool) (inside : WindowRows) : Type 0 where
  pub order : inside.from ≤ first
  pub passing : list_all passes (slice_range insns inside.from first) ≡ true
  pub to : ℕ
  pub beyond : end ≤ to
  pub fits : to ≤ length insns
  pub tail : IsTailOf old new (slice_range insns end to)
  pub demands : (reg : ℕ) → IsAlike old new behind reg ⊎ ((is_settled old new (slice_range insns end to) reg ≡ true) ⊎ (names_in (slice_range insns inside.from first) reg ≡ true))
  pub rows : AreRowsOf (slice_range insns inside.from first ++ new) behind inside.rows
  pub narrow : AreNarrow inside.rows
