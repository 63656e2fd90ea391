-- What functions come to behind a pass is one outcome.
use Rattle.std.proofs.Common.{◌≡◌, List, Ok, Err, refl, sym, ap, ◌∙◌}
use Rattle.rtx_tree.specs.declared.function.Function.{Function}
use Rattle.md_forms.specs.declared.form.Entry.{Entry}
use Rattle.rtl_print.specs.Canonical.{printed_function}
use Rattle.pass_name.specs.declared.pass.Pass.{Pass}
use Rattle.pass_name.specs.declared.road.Road.TheVariants.{Usual}
use Rattle.func_input.specs.Outcome.{Outcome}
use Rattle.func_after.specs.After.{Answer, IsBehind}
use Rattle.func_after.proofs.OneAfter.{one_behind}
use Rattle.func_after.proofs.Each.{one_each}
use Rattle.func_text.specs.Dump.{FunctionComes, FunctionsCome}

-- what is told of an answer
abbrev told : Answer → Outcome
told (Ok m) = Ok (printed_function m.function)
told (Err e) = Err e

-- an outcome is told of an answer
record Tells (forms : List Entry) (pass : Pass) (f : Function) (o : Outcome) : Type 0 where
  pub answer : Answer
  pub is_after : IsBehind forms Usual f pass answer
  pub is_told : o ≡ told answer

tells : (forms : List Entry) (pass : Pass) (f : Function) (o : Outcome) → FunctionComes forms pass f o → Tells forms pass f o
tells forms pass f _ (FunctionComes.refused e after) = record { answer = Err e; is_after = after; is_told = refl }
tells forms pass f _ (FunctionComes.printed m after) = record { answer = Ok m; is_after = after; is_told = refl }

function_one : (forms : List Entry) (pass : Pass) (f : Function) (a b : Outcome) → FunctionComes forms pass f a → FunctionComes forms pass f b → a ≡ b
function_one forms pass f a b m n =
    let one = tells forms pass f a m in
    let other = tells forms pass f b n in
    one.is_told ∙ ap told (one_behind forms Usual f pass one.answer other.answer one.is_after other.is_after) ∙ sym other.is_told

pub functions_one : (forms : List Entry) (pass : Pass) (fs : List Function) (a b : Outcome) → FunctionsCome forms pass fs a → FunctionsCome forms pass fs b → a ≡ b
functions_one forms pass fs a b m n = one_each (FunctionComes forms pass) (function_one forms pass) fs a b m n
