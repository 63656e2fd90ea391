-- What holds of each instruction of a function from the first split on, whether its registers have
-- homes already or not: GCC Internals, "Insns", "Side Effect Expressions" and "Registers and
-- Memory"; RISC-V ELF psABI, "Integer Register Convention".
use Rattle.std.specs.Prelude.{◌≡◌, ℕ, true, false}
use Rattle.std.specs.List.{AllByRecursion}
use Rattle.rtx_tree.specs.declared.function.Insn.{Insn}
use Rattle.rtx_tree.specs.declared.function.Function.{Function}
use Rattle.rtx_tree.specs.declared.function.Kind.TheVariants.{Plain, Label}
use Rattle.rtx_tree.specs.Tree.{head_of}
use Rattle.rtl_step.specs.Step.{is_mark}
use Rattle.rtl_func.specs.Calls.{is_argument}
use Rattle.reg_uses.specs.Effects.{pattern_defines}
use Rattle.reg_uses.specs.Uses.{has_argument}
use Rattle.same_behaviour.specs.Ending.{IsUid}
use Rattle.sym_insns.specs.Shape.{all_natural}
use Rattle.split.specs.form_needs.Needs.{is_note}

pub record IsInsnPlaced (i : Insn) : Type 0 where
  -- a label and a barrier define nothing, and a label has a number of 32 bits
  pub marks : is_mark i.kind ≡ true → (reg : ℕ) → pattern_defines reg i.pattern ≡ false
  pub label : i.kind ≡ Label → IsUid i.uid
  -- a use or a clobber alone is no jump and no call
  pub plain : is_mark i.kind ≡ false → is_note (head_of i.pattern).code ≡ true → i.kind ≡ Plain
  -- no register has a number below 0
  pub natural : all_natural i.pattern ≡ true
  -- a call is handed a0 to a7
  pub passed : is_mark i.kind ≡ false → (reg : ℕ) → has_argument reg i.uses ≡ true →
      is_argument reg ≡ true

abbrev pub ArePlaced : Function → Type 0
ArePlaced f = AllByRecursion IsInsnPlaced f.insns
