-- What stands at the places of a function that keeps the rules: GCC Internals, "Insns", "Jump
-- Patterns" and "Side Effect Expressions".
use Rattle.std.specs.Prelude.{◌≡◌, ℕ, true, List, Some}
use Rattle.rtx_tree.specs.declared.code.Code.TheVariants.{Set, Use, Clobber, Parallel}
use Rattle.rtx_tree.specs.declared.function.Insn.{Insn}
use Rattle.rtx_tree.specs.declared.function.Kind.TheVariants as kind
use Rattle.rtx_tree.specs.Patterns.{place_of, nothing_rtx}
use Rattle.rtx_tree.specs.Tree.{head_of}
use Rattle.rtl_func.specs.Kinds.{is_nothing, is_call_tree}
use Rattle.rtl_func.specs.Successors.{jump_flow}
use Rattle.rtl_func.specs.declared.flow.Flow.{Flow}
use Rattle.rtl_func.specs.declared.flow.Flow.TheVariants.{Goes, Branches}
use Rattle.reg_uses.specs.Uses.{is_return}

-- to a label that stands, always or by a condition
pub data Leads (insns : List Insn) : Flow → Type 0 where
  goes : (uid place : ℕ) → place_of uid insns ≡ Some place → Leads insns (Goes uid)
  branches : (uid place : ℕ) → place_of uid insns ≡ Some place → Leads insns (Branches uid)

-- What stands at a place of a chain: a label; a barrier; an instruction that is one effect, or some
-- at once; a return, or a jump to a label; or a call.
pub data IsSort (insns : List Insn) (i : Insn) : Type 0 where
  label : i.kind ≡ kind.Label → is_nothing i.pattern ≡ true → IsSort insns i
  barrier : i.kind ≡ kind.Barrier → i.pattern ≡ nothing_rtx → IsSort insns i
  sets : i.kind ≡ kind.Plain → (head_of i.pattern).code ≡ Set → IsSort insns i
  uses : i.kind ≡ kind.Plain → (head_of i.pattern).code ≡ Use → IsSort insns i
  clobbers : i.kind ≡ kind.Plain → (head_of i.pattern).code ≡ Clobber → IsSort insns i
  at_once : i.kind ≡ kind.Plain → (head_of i.pattern).code ≡ Parallel → IsSort insns i
  returns : i.kind ≡ kind.Jump → is_return i ≡ true → IsSort insns i
  jumps : i.kind ≡ kind.Jump → Leads insns (jump_flow i.pattern) → IsSort insns i
  calls : i.kind ≡ kind.Call → is_call_tree i.pattern ≡ true → IsSort insns i
