-- What holds of a function whose registers have no homes yet, and what is asked of one that is to
-- be reloaded: GCC Internals, "RTL Objects", "Insns", "Side Effect Expressions" and "Registers and
-- Memory"; RISC-V ELF psABI, "Integer Calling Convention". A function that keeps the rules has it,
-- and each pass keeps it.
use Rattle.std.specs.Prelude.{◌≡◌, ◌⊎◌, ◌==◌, true, false, List}
use Rattle.std.specs.List.{AllByRecursion, IsDistinct}
use Rattle.rtx_tree.specs.declared.function.Insn.{Insn}
use Rattle.rtx_tree.specs.declared.function.Function.{Function}
use Rattle.rtx_tree.specs.declared.function.Kind.TheVariants.{Jump}
use Rattle.rtx_tree.specs.Registers.{virtual_stack_vars}
use Rattle.rtl_step.specs.Step.{is_mark}
use Rattle.rtl_func.specs.Calls.{argument_registers}
use Rattle.rtl_func.specs.Kinds.{is_nothing}
use Rattle.rtl_func.specs.Successors.{jump_flow}
use Rattle.rtl_func.specs.Uids.{uids_of}
use Rattle.reg_uses.specs.Effects.{pattern_defines}
use Rattle.reg_uses.specs.Uses.{is_return}
use Rattle.law_rules.specs.Sorts.{Leads}
use Rattle.sym_insns.specs.Shape.{is_shaped, all_natural}

pub record IsInsnReloadable (i : Insn) : Type 0 where
  -- an instruction has the parts and the modes that the table of codes asks for, and the kind of
  -- its pattern
  pub shaped : is_mark i.kind ≡ false → is_shaped i ≡ true
  -- a label and a barrier hold nothing
  pub empty : is_mark i.kind ≡ true → is_nothing i.pattern ≡ true
  -- no register has a number below 0
  pub natural : all_natural i.pattern ≡ true
  -- of the hard registers it names a0 to a7 alone, and a call is handed these alone
  pub arguments : is_mark i.kind ≡ false → argument_registers i.pattern i.uses ≡ true
  -- the address past the locals is never changed
  pub vars : pattern_defines virtual_stack_vars i.pattern ≡ false

-- no two instructions or labels have one uid
abbrev pub UidsDiffer : Function → Type 0
UidsDiffer f = IsDistinct ◌==◌ (uids_of f.insns)

-- a jump is a return, or leads to a label of the chain
abbrev pub LeadsWithin : List Insn → Insn → Type 0
LeadsWithin insns i = i.kind ≡ Jump → (is_return i ≡ true) ⊎ Leads insns (jump_flow i.pattern)

pub record IsReloadable (f : Function) : Type 0 where
  pub each : AllByRecursion IsInsnReloadable f.insns
  pub jumps : AllByRecursion (LeadsWithin f.insns) f.insns
  pub uids : UidsDiffer f
