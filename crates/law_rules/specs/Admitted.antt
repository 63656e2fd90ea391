-- Functions that keep the rules of well-formed functions and are within the limits: GCC Internals,
-- "Insns" and "RTL Objects".
use Rattle.std.specs.Prelude.{◌≡◌, ℕ, true, List, Some, None, slice_get}
use Rattle.rtx_tree.specs.declared.function.Insn.{Insn}
use Rattle.rtx_tree.specs.declared.function.Function.{Function}
use Rattle.rtx_tree.specs.declared.function.Kind.TheVariants.{Label, Barrier}
use Rattle.rtx_tree.specs.Patterns.{nothing_rtx}
use Rattle.rtl_func.specs.Rules.{keeps}
use Rattle.rtl_func.specs.Uids.{is_ruled}
use Rattle.rtl_func.specs.declared.rules.InsnRule.{InsnRule}
use Rattle.law_window_lines.specs.same_behaviour.Ending.{IsUid}
use Rattle.func_input.specs.Refused.{refused_behind}

-- behind some functions it isn't refused
abbrev pub IsAdmitted : Function → Type 0
IsAdmitted f = (before : List Function) × (refused_behind before f ≡ None)

-- an instruction stands at a place of a chain
abbrev pub StandsAt : List Insn → ℕ → Insn → Type 0
StandsAt insns place i = slice_get insns place ≡ Some i

-- each instruction and label keeps each rule on patterns; barriers have none
abbrev pub KeepEach : Function → Type 0
KeepEach f =
    (rule : InsnRule) (place : ℕ) (i : Insn) → StandsAt f.insns place i → is_ruled i ≡ true →
    keeps rule f i ≡ true

-- a barrier does nothing
abbrev pub BarriersDoNothing : List Insn → Type 0
BarriersDoNothing insns =
    (place : ℕ) (i : Insn) → StandsAt insns place i → i.kind ≡ Barrier → i.pattern ≡ nothing_rtx

-- a label has a number of 32 bits, and no other label has it
pub record AreLabels (insns : List Insn) : Type 0 where
  pub fit : (place : ℕ) (i : Insn) → StandsAt insns place i → i.kind ≡ Label → IsUid i.uid
  pub differ : (p q : ℕ) (i j : Insn) → StandsAt insns p i → StandsAt insns q j → i.kind ≡ Label →
      j.kind ≡ Label →
      i.uid ≡ j.uid → p ≡ q

-- a function that keeps the rules; its chain may have the return at its end
pub record IsWellFormed (f : Function) : Type 0 where
  pub keep : KeepEach f
  pub barriers : BarriersDoNothing f.insns
  pub labels : AreLabels f.insns
