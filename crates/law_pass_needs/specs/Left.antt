-- What a pass leaves of a function as it was: GCC Internals, "Insns" (code_label, barrier).
use Rattle.std.specs.Prelude.{◌≡◌, Bool, List, filter}
use Rattle.rtx_tree.specs.declared.function.Insn.{Insn}
use Rattle.rtx_tree.specs.declared.function.Function.{Function}
use Rattle.rtl_step.specs.Step as step

abbrev pub is_mark : Insn → Bool
is_mark i = step.is_mark i.kind

-- the labels and barriers of a chain, in their order
abbrev pub marks : List Insn → List Insn
marks insns = filter is_mark insns

-- the functions differ in their instructions alone
pub record SameMarks (f g : Function) : Type 0 where
  pub name_is : g.name ≡ f.name
  pub marks_are : marks g.insns ≡ marks f.insns
  pub locals_are : g.locals ≡ f.locals
  pub result_is : g.result ≡ f.result
  pub result_reg_is : g.result_reg ≡ f.result_reg
