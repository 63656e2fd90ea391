-- What is read back from what is printed.
use Rattle.std.specs.Prelude.{◌≡◌, ◌≤◌, Bool, true, false, not, List, [], ◌∷◌, flat_map, Some}
use Rattle.std.specs.List.{list_all}
use Rattle.rtx_tree.specs.declared.code.Code.{Code}
use Rattle.rtx_tree.specs.declared.code.Code.TheVariants.{Parallel}
use Rattle.rtx_tree.specs.declared.function.Function.{Function}
use Rattle.rtx_tree.specs.declared.function.Insn.{Insn}
use Rattle.rtx_tree.specs.declared.function.Kind.{Kind}
use Rattle.rtx_tree.specs.declared.function.Kind.TheVariants.{Call}
use Rattle.rtx_tree.specs.declared.tree.Rtx.{Rtx, out-Rtx}
use Rattle.lisp_read.specs.declared.position.Position.{Position}
use Rattle.lisp_read.specs.declared.tree.Tree.{Tree}
use Rattle.lisp_read.specs.Expression.{read_at}
use Rattle.lisp_read.specs.Parsed.{stands}
use Rattle.lisp_read.specs.Reading.{ReadsAs, Trees}
use Rattle.rtx_tree.specs.Limit.{most_open}
use Rattle.tree_print.specs.Print.{depth_of}
use Rattle.rtl_read.specs.Call.{is_dropped_code}
use Rattle.rtl_read.specs.Function.{function_of}
use Rattle.rtl_read.specs.Syntax.{functions_in}
use Rattle.rtl_print.specs.Canonical.{printed_function}
use Rattle.rtl_print.specs.Print.{printed}

-- ---- expressions

-- an expression that some tree of a text stands for at a position
pub record IsReadableAt (p : Position) (x : Rtx) : Type 0 where
  pub tree : Tree
  pub shallow : depth_of tree ≤ most_open
  pub stands_for : read_at p tree ≡ stands x

-- the text of an expression is read as one tree, which stands for it at a position
pub record ReadsBackAt (p : Position) (x : Rtx) : Type 0 where
  pub tree : Tree
  pub reads : ReadsAs (printed x) (Trees (tree ∷ []))
  pub stands_for : read_at p tree ≡ stands x

-- ---- functions

-- Reading drops each `use` and `clobber` in the `parallel` of a call, and puts an effect that is
-- left alone in the place of the `parallel`. An instruction is settled where this has nothing more
-- to do.
abbrev pub is_effect : Rtx → Bool
is_effect x = not (is_dropped_code (Some (out-Rtx x).code))

abbrev pub settled_by : Code → List Rtx → Bool
settled_by Parallel (x ∷ []) = false
settled_by Parallel kids = list_all is_effect kids
settled_by _ kids = true

abbrev pub is_settled_pattern : Rtx → Bool
is_settled_pattern x = settled_by (out-Rtx x).code (out-Rtx x).kids

abbrev pub settled_in : Kind → Rtx → Bool
settled_in Call pattern = is_settled_pattern pattern
settled_in _ pattern = true

abbrev pub is_settled : Insn → Bool
is_settled i = settled_in i.kind i.pattern

-- a function that some tree of a text stands for, its calls being settled
pub record IsReadable (f : Function) : Type 0 where
  pub tree : Tree
  pub shallow : depth_of tree ≤ most_open
  pub stands_for : function_of tree ≡ stands f
  pub settled : list_all is_settled f.insns ≡ true

abbrev pub AreReadable : List Function → Type 0
AreReadable [] = Unit {0}
AreReadable (f ∷ fs) = IsReadable f × AreReadable fs

-- the canonical text of a function is read as one tree, which stands for it
pub record ReadsBack (f : Function) : Type 0 where
  pub tree : Tree
  pub reads : ReadsAs (printed_function f) (Trees (tree ∷ []))
  pub stands_for : function_of tree ≡ stands f

-- the canonical texts of functions, one behind the other, are read as trees whose functions are
-- these
pub record AllReadBack (fs : List Function) : Type 0 where
  pub trees : List Tree
  pub reads : ReadsAs (flat_map printed_function fs) (Trees trees)
  pub stand_for : functions_in trees ≡ stands fs
