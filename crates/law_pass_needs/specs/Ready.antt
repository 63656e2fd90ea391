-- What is asked of each instruction of a function for which lines are to stand, wherever it came
-- from: GCC Internals, "Insns" (code_label, barrier).
use Rattle.std.specs.Prelude.{◌≡◌, ℕ, true, false}
use Rattle.std.specs.List.{AllByRecursion}
use Rattle.rtx_tree.specs.declared.function.Insn.{Insn}
use Rattle.rtx_tree.specs.declared.function.Function.{Function}
use Rattle.rtx_tree.specs.declared.function.Kind.TheVariants.{Label}
use Rattle.rtl_step.specs.Step.{is_mark}
use Rattle.reg_uses.specs.Effects.{pattern_defines}
use Rattle.law_rules.specs.same_behaviour.Ending.{IsUid}

-- Labels and barriers define nothing, and a label has a number of 32 bits.
pub record IsInsnReady (i : Insn) : Type 0 where
  pub marks : is_mark i.kind ≡ true → (reg : ℕ) → pattern_defines reg i.pattern ≡ false
  pub label : i.kind ≡ Label → IsUid i.uid

abbrev pub AreReady : Function → Type 0
AreReady f = AllByRecursion IsInsnReady f.insns
