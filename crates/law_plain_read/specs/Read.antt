-- What is read of an input can be printed: GCC Internals, "RTL Objects", "RTL Function Units" and
-- "Insns" (CALL_INSN_FUNCTION_USAGE).
use Rattle.std.specs.Prelude.{◌≡◌, true, Bool, List}
use Rattle.std.specs.List.{AllByRecursion, list_all}
use Rattle.rtx_tree.specs.declared.function.ArgUse.{ArgUse}
use Rattle.rtx_tree.specs.declared.function.Function.{Function}
use Rattle.rtx_tree.specs.declared.function.Insn.{Insn}
use Rattle.rtl_func.specs.Shapes.{has_mode}
use Rattle.lisp_read.specs.declared.tree.Tree.{Tree}
use Rattle.lisp_read.specs.Parsed.{stands}
use Rattle.rtl_read.specs.Syntax.{functions_in}
use Rattle.law_plain_leaves.specs.Machine.{ArePrintable}

-- the uses of a call have modes
abbrev pub are_moded : List ArgUse → Bool
are_moded uses = list_all (λ (u : ArgUse). has_mode u.mode) uses

-- an instruction's pattern can be printed, and what it uses has modes
pub record IsReadable (i : Insn) : Type 0 where
  pub printable : ArePrintable i.pattern
  pub moded : are_moded i.uses ≡ true

abbrev pub AreReadable : Function → Type 0
AreReadable f = AllByRecursion IsReadable f.insns

-- the functions that trees stand for
abbrev pub PlainRead : Type 0
PlainRead = (trees : List Tree) (functions : List Function) → functions_in trees ≡ stands functions → AllByRecursion AreReadable functions
