-- The items of a function, which has a number, place by place: a label; nothing for a barrier, and
-- for a `use` or a `clobber` alone; the line of a return; or lines that do what the instruction
-- does, over what is live behind it (GCC Internals, "Insns", "Side Effect Expressions" and
-- "Liveness information"; RISC-V assembly manual, `ret`).
use Rattle.std.specs.Prelude.{◌≡◌, ℕ, ◌+◌, ◌<◌, ◌&&◌, not, Bool, true, false, List, [], ◌∷◌, ◌++◌, map, Option, Some}
use Rattle.rtx_tree.specs.Tree.{head_of}
use Rattle.rtx_tree.specs.declared.code.Code as rtl
use Rattle.rtx_tree.specs.declared.code.Code.TheVariants.{Use, Clobber}
use Rattle.rtx_tree.specs.declared.function.Insn.{Insn}
use Rattle.rtx_tree.specs.declared.function.Function.{Function}
use Rattle.rtx_tree.specs.declared.function.Kind.TheVariants as kind
use Rattle.rtl_step.specs.Step.{is_mark}
use Rattle.reg_uses.specs.Uses.{is_return}
use Rattle.live.specs.Live.{IsLiveAfter}
use Rattle.rv_text.specs.Lines.{action_of}
use Rattle.rv_text.specs.declared.action.Action.{Action}
use Rattle.rv_text.specs.declared.action.Action.TheVariants as action
use Rattle.rv_text.specs.declared.action.Source.TheVariants.{First, ReturnAddress}
use Rattle.rv_text.specs.declared.line.Line.{Line}
use Rattle.rv_text.specs.declared.line.CodeItem.{CodeItem}
use Rattle.rv_text.specs.declared.line.CodeItem.TheVariants.{Label, Code}
use Rattle.law_window_runs.specs.same_behaviour.Ending.{IsUid}
use Rattle.law_window_runs.specs.Same.{DoSame}
use Rattle.law_window_runs.specs.Uses.{window_uses}

-- ---- one place

-- a `use` or a `clobber`
abbrev pub is_quiet : rtl.Code → Bool
is_quiet Use = true
is_quiet Clobber = true
is_quiet _ = false

-- `ret`, or `jr ra`
pub data IsReturnLine (line : Line) : Type 0 where
  ret : action_of line ≡ Some (action.Return ReturnAddress) → IsReturnLine line
  jr : action_of line ≡ Some (action.Return First) → line.rs ≡ 1 → IsReturnLine line

-- the line calls
abbrev pub is_call : Option Action → Bool
is_call (Some action.Call) = true
is_call (Some action.CallRegister) = true
is_call _ = false

-- a line that calls is the last
abbrev pub calls_last : List Line → Bool
calls_last [] = true
calls_last (line ∷ []) = true
calls_last (line ∷ lines) = not (is_call (action_of line)) && calls_last lines

-- the hard registers that are live behind a place
abbrev pub IsLiveBehind : Function → ℕ → ℕ → Type 0
IsLiveBehind f place reg = IsLiveAfter f reg place × (reg < 32)

-- lines that do what the instruction at a place does, where it uses hard registers alone; behind a
-- call there is none
pub record AreLinesAt (number : ℕ) (f : Function) (place : ℕ) (i : Insn) (lines : List Line) : Type 0 where
  pub is_none : is_mark i.kind ≡ false
  pub last : calls_last lines ≡ true
  pub hard : (reg : ℕ) → 31 < reg → window_uses (i ∷ []) reg ≡ false
  pub same : DoSame number (i ∷ []) lines (IsLiveBehind f place)

-- what stands for the instruction at a place
pub data AreItemsAt (number : ℕ) (f : Function) (place : ℕ) (i : Insn) : List CodeItem → Type 0 where
  label : i.kind ≡ kind.Label → IsUid i.uid → AreItemsAt number f place i (Label number i.uid ∷ [])
  barrier : i.kind ≡ kind.Barrier → AreItemsAt number f place i []
  quiet : i.kind ≡ kind.Plain → is_quiet (head_of i.pattern).code ≡ true →
      AreItemsAt number f place i []
  returning : (line : Line) → i.kind ≡ kind.Jump → is_return i ≡ true → IsReturnLine line →
      AreItemsAt number f place i (Code line ∷ [])
  window : (lines : List Line) → AreLinesAt number f place i lines →
      AreItemsAt number f place i (map Code lines)

-- ---- the whole

-- the items of the rest of a chain, which begins at a place
pub data AreItemsFrom (number : ℕ) (f : Function) : ℕ → List Insn → List CodeItem → Type 0 where
  end : (place : ℕ) → AreItemsFrom number f place [] []
  next : (place : ℕ) (i : Insn) (insns : List Insn) (items rest : List CodeItem) →
      AreItemsAt number f place i items →
      AreItemsFrom number f (place + 1) insns rest → AreItemsFrom number f place (i ∷ insns) (items ++ rest)

-- The items of a function. Nothing stands behind them: it is no matter of the items where a run
-- returns at the end of the chain.
abbrev pub AreItems : ℕ → Function → List CodeItem → Type 0
AreItems number f items = AreItemsFrom number f 0 f.insns items
