-- A function as the tree that its canonical text writes.
use Rattle.std.proofs.Common.{ℕ, List, [], ◌∷◌, map, Option, Some, None, codes}
use Rattle.std.specs.Fmt.{decimal}
use Rattle.rtx_tree.specs.declared.code.Code.TheVariants.{Use}
use Rattle.rtx_tree.specs.declared.code.Mode.{Mode}
use Rattle.rtx_tree.specs.declared.code.Mode.TheVariants.{Void}
use Rattle.rtx_tree.specs.declared.function.ArgUse.{ArgUse}
use Rattle.rtx_tree.specs.declared.function.Function.{Function}
use Rattle.rtx_tree.specs.declared.function.Insn.{Insn}
use Rattle.rtx_tree.specs.declared.function.Kind.{Kind}
use Rattle.rtx_tree.specs.declared.function.Kind.TheVariants.{Plain, Jump, Call, Label, Barrier}
use Rattle.rtx_tree.specs.declared.tree.Rtx.{Rtx}
use Rattle.rtx_tree.specs.Tree.{node_of, reg_of}
use Rattle.lisp_read.specs.declared.tree.Tree.{Tree}
use Rattle.rtl_print.proofs.Written.{atom, string, list, written}

-- (use (reg:MODE R))
abbrev pub use_rtx : ArgUse → Rtx
use_rtx u = node_of Use Void (reg_of u.mode u.reg ∷ [])

unfoldable pub uses_tree : List ArgUse → Tree
uses_tree [] = list (atom (codes "nil") ∷ [])
uses_tree (u ∷ us) = list (atom (codes "expr_list") ∷ written (use_rtx u) ∷ uses_tree us ∷ [])

abbrev pub parts_of_insn : Kind → Insn → List Tree
parts_of_insn Plain i = atom (codes "cinsn") ∷ atom (decimal i.uid) ∷ written i.pattern ∷ []
parts_of_insn Jump i = atom (codes "cjump_insn") ∷ atom (decimal i.uid) ∷ written i.pattern ∷ []
parts_of_insn Call i = atom (codes "ccall_insn") ∷ atom (decimal i.uid) ∷ written i.pattern ∷ uses_tree i.uses ∷ []
parts_of_insn Label i = atom (codes "clabel") ∷ atom (decimal i.uid) ∷ []
parts_of_insn Barrier i = atom (codes "cbarrier") ∷ []

unfoldable pub insn_tree : Insn → Tree
insn_tree i = list (parts_of_insn i.kind i)

abbrev pub chain_tree : List Insn → Tree
chain_tree insns = list (atom (codes "insn-chain") ∷ map insn_tree insns)

abbrev pub locals_tree : ℕ → Tree
locals_tree locals = list (atom (codes "locals") ∷ atom (decimal locals) ∷ [])

abbrev pub result_tree : Mode → ℕ → Tree
result_tree mode reg = list (atom (codes "crtl") ∷ list (atom (codes "return_rtx") ∷ written (reg_of mode reg) ∷ []) ∷ [])

abbrev pub result_trees : Option Mode → ℕ → List Tree
result_trees None reg = []
result_trees (Some mode) reg = result_tree mode reg ∷ []

abbrev pub function_tree : Function → Tree
function_tree f = list (atom (codes "function") ∷ string f.name ∷ chain_tree f.insns ∷ locals_tree f.locals ∷ result_trees f.result f.result_reg)
