-- The functions of an input: GCC Internals, "RTL Function Units".
use Rattle.std.specs.Prelude.{List}
use Rattle.rtx_tree.specs.declared.function.Function.{Function}
use Rattle.lisp_read.specs.declared.tree.Tree.{Tree}
use Rattle.lisp_read.specs.Parsed.{Parsed, each_parsed}
use Rattle.rtl_read.specs.Function.{function_of}

-- the functions of an input, in order
abbrev pub functions_in : List Tree → Parsed (List Function)
functions_in trees = each_parsed function_of trees
