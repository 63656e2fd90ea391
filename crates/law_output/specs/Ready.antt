-- What is asked of each instruction of a function whose registers have homes, for lines to stand
-- for it: GCC Internals, "Insns", "Side Effect Expressions" and "Registers and Memory".
use Rattle.std.specs.Prelude.{◌≡◌, ℕ, true, false}
use Rattle.std.specs.List.{All, AllByRecursion}
use Rattle.rtx_tree.specs.declared.function.Insn.{Insn}
use Rattle.rtx_tree.specs.declared.function.Function.{Function}
use Rattle.rtx_tree.specs.declared.function.Kind.TheVariants.{Plain, Label}
use Rattle.rtx_tree.specs.Tree.{head_of, kids_of}
use Rattle.rtl_step.specs.Step.{is_mark}
use Rattle.reg_uses.specs.Effects.{effects_of, pattern_defines}
use Rattle.same_behaviour.specs.Ending.{IsUid}
use Rattle.law_window_lines.specs.Left.{IsSetNamed}
use Rattle.asm_out.specs.form_needs.Needs.{needs_form, is_silent}
use Rattle.law_pass_needs.specs.law_rules.ForLines.{UsesHard, IsQuiet}

pub record IsInsnWritable (i : Insn) : Type 0 where
  -- a label and a barrier define nothing, and a label has a number of 32 bits
  pub marks : is_mark i.kind ≡ true → (reg : ℕ) → pattern_defines reg i.pattern ≡ false
  pub label : i.kind ≡ Label → IsUid i.uid
  -- what gives nothing at output is quiet
  pub silent : is_silent i ≡ true → IsQuiet i
  -- what needs a form uses hard registers alone
  pub formed : needs_form i ≡ true → UsesHard i
  -- the register that a `set` sets counts as it
  pub named : i.kind ≡ Plain →
      All (λ x. IsSetNamed (head_of x).code (kids_of x)) (effects_of i.pattern)

abbrev pub AreWritable : Function → Type 0
AreWritable f = AllByRecursion IsInsnWritable f.insns
