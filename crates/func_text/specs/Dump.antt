-- What `dump` tells of functions: each as it is behind a pass, in canonical text. GCC Internals,
-- "Passes and Files of the Compiler" and "Insns".
use Rattle.std.specs.Prelude.{List, Ok, Err}
use Rattle.rtx_tree.specs.declared.function.Function.{Function}
use Rattle.run_refusal.specs.declared.refusal.Refusal.{Refusal}
use Rattle.md_forms.specs.declared.form.Entry.{Entry}
use Rattle.rtl_print.specs.Canonical.{printed_function}
use Rattle.pass_name.specs.declared.pass.Pass.{Pass}
use Rattle.pass_name.specs.declared.road.Road.TheVariants.{Usual}
use Rattle.func_input.specs.Outcome.{Outcome}
use Rattle.func_after.specs.Each.{EachComes}
use Rattle.func_after.specs.After.{IsBehind}
use Rattle.func_after.specs.declared.compilation.Compilation.{Compilation}

-- a function: what refuses it on the usual road to the pass, or its text behind it
pub data FunctionComes (forms : List Entry) (pass : Pass) (f : Function) : Outcome → Type 0 where
  refused : (e : Refusal) → IsBehind forms Usual f pass (Err e) → FunctionComes forms pass f (Err e)
  printed : (m : Compilation) → IsBehind forms Usual f pass (Ok m) →
      FunctionComes forms pass f (Ok (printed_function m.function))

-- some functions, one behind the other
abbrev pub FunctionsCome : List Entry → Pass → List Function → Outcome → Type 0
FunctionsCome forms pass = EachComes (FunctionComes forms pass)
