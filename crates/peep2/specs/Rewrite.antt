-- A window of instructions that a form rewrites: GCC Internals, "RTL to RTL Peephole Optimizers"
-- and "Defining Machine-Specific Peephole Optimizers" (peep2_reg_dead_p).
use Rattle.std.specs.Prelude.{◌≡◌, ◌↔◌, ℕ, ◌+◌, ◌-◌, ◌<◌, ◌≤◌, Bool, true, false, not, ◌&&◌, ◌||◌, List, [], ◌∷◌, map, length, Option, Some, option_map, option_and_then, slice_get}
use Rattle.std.specs.List.Sorted.{IsStrictlyIncreasing}
use Rattle.rtx_tree.specs.declared.tree.Rtx.{Rtx}
use Rattle.rtx_tree.specs.declared.function.Insn.{Insn}
use Rattle.rtx_tree.specs.declared.function.Function.{Function}
use Rattle.rtx_tree.specs.RegSet.{has_reg}
use Rattle.rtl_func.specs.Blocks.{is_jump_kind}
use Rattle.live.specs.Live.{IsLive, IsLiveAfter}
use Rattle.new_insns.specs.Replaced.{window}
use Rattle.c_eval.specs.declared.facts.Facts.{Facts}
use Rattle.md_match.specs.Pattern.{Ops}
use Rattle.md_forms.specs.declared.form.Entry.{Entry}
use Rattle.md_forms.specs.declared.form.Form.{Form}
use Rattle.md_desc.specs.md_pred.Holds.{holds}
use Rattle.md_recog.specs.declared.half.Half.TheVariants as half
use Rattle.md_recog.specs.Recog.{MatchesAt}
use Rattle.form_needs.specs.Needs.{is_kind}
use Rattle.gen_emit.specs.declared.emission.Emission.{Emission}
use Rattle.md_emit.specs.Emitted.{says_at, emitted_by}
use Rattle.peep2.specs.Scratch.{scratches_of, free_registers, with_scratches}

-- ---- windows

abbrev pub is_end : List Insn → Bool
is_end [] = true
is_end (i ∷ insns) = false

-- instructions that stand in one block: no label and no barrier is among them, and no jump but as
-- the last
abbrev pub is_run : List Insn → Bool
is_run [] = true
is_run (i ∷ insns) =
    (is_kind i.kind && (is_end insns || not (is_jump_kind i.kind))) && is_run insns

-- so many such instructions stand from a place on
pub record IsRun (f : Function) (place count : ℕ) : Type 0 where
  pub some : 0 < count
  pub within : place + count ≤ length f.insns
  pub joined : is_run (window f place (place + count)) ≡ true

-- the patterns of so many instructions from a place on
abbrev pub patterns_from : Function → ℕ → ℕ → List Rtx
patterns_from f place count = map (λ (i : Insn). i.pattern) (window f place (place + count))

-- ---- what conditions know

-- a list has the hard registers that are not live right before a place
pub record AreDeadBefore (f : Function) (place : ℕ) (regs : List ℕ) : Type 0 where
  pub ordered : IsStrictlyIncreasing regs
  pub each : (reg : ℕ) → (has_reg regs reg ≡ true) ↔ ((reg < 32) × (IsLive f reg place → ⊥))

-- and those that are not live after it
pub record AreDeadAfter (f : Function) (place : ℕ) (regs : List ℕ) : Type 0 where
  pub ordered : IsStrictlyIncreasing regs
  pub each : (reg : ℕ) → (has_reg regs reg ≡ true) ↔ ((reg < 32) × (IsLiveAfter f reg place → ⊥))

-- the registers that are dead right before each instruction of a window, and last those that are
-- behind it
pub record AreDeadIn (f : Function) (place count : ℕ) (dead : List (List ℕ)) : Type 0 where
  pub long : length dead ≡ count + 1
  pub before : (k : ℕ) (regs : List ℕ) → k < count → slice_get dead k ≡ Some regs →
      AreDeadBefore f (place + k) regs
  pub behind : (regs : List ℕ) → slice_get dead count ≡ Some regs →
      AreDeadAfter f (place + count - 1) regs

-- what conditions know of a window: registers have homes, and no new ones may be made
pub record AreFactsAt (f : Function) (place count : ℕ) (facts : Facts) : Type 0 where
  pub reloaded : facts.reloaded ≡ true
  pub new_pseudos : facts.new_pseudos ≡ false
  pub dead : AreDeadIn f place count facts.dead

-- ---- what a form makes of a window

-- the operands with registers for the scratches among a form's elements
abbrev pub given_to : Form → Facts → List Rtx → Ops → Option Ops
given_to says facts insns operands = with_scratches (scratches_of says.patterns) (free_registers facts.dead insns) operands

-- and for those of the form with an index
abbrev pub given_by : List Entry → Facts → List Rtx → ℕ → Ops → Option Ops
given_by forms facts insns form operands =
    option_and_then (λ says. given_to says facts insns operands) (says_at forms form)

-- the sequence that it puts in the place of instructions; none where it fails
abbrev pub rewritten_by : List Entry → Facts → List Rtx → ℕ → Ops → Option (List Rtx)
rewritten_by forms facts insns form operands =
    option_and_then (λ given. option_map (λ (e : Emission). e.sequence) (emitted_by forms facts form given 0)) (given_by forms facts insns form operands)

-- A form makes a sequence of instructions: its window matches them with operands, before scratches
-- are given registers, and with these it does not fail.
pub record Makes (forms : List Entry) (facts : Facts) (insns : List Rtx) (form : ℕ) (sequence : List Rtx) : Type 0 where
  pub operands : Ops
  pub matches : MatchesAt (holds forms) facts half.Window insns forms form operands
  pub gives : rewritten_by forms facts insns form operands ≡ Some sequence

-- a form rewrites so many instructions from a place on into a sequence
pub record Rewrites (forms : List Entry) (f : Function) (place count form : ℕ) (sequence : List Rtx) : Type 0 where
  pub run : IsRun f place count
  pub facts : Facts
  pub known : AreFactsAt f place count facts
  pub makes : Makes forms facts (patterns_from f place count) form sequence

-- the first form that does
pub record IsRewrite (forms : List Entry) (f : Function) (place count form : ℕ) (sequence : List Rtx) : Type 0 where
  pub rewrites : Rewrites forms f place count form sequence
  pub first : (many other : ℕ) (otherwise : List Rtx) →
      Rewrites forms f place many other otherwise → form ≤ other

-- no form rewrites instructions from a place on
abbrev pub IsLeft : List Entry → Function → ℕ → Type 0
IsLeft forms f place =
    (count form : ℕ) (sequence : List Rtx) → Rewrites forms f place count form sequence → ⊥
