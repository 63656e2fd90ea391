-- What a function comes to, from what the calls gave.
use Rattle.std.proofs.Common.{ℕ, List, Result, Ok, Err}
use Rattle.rtx_tree.specs.declared.function.Function.{Function}
use Rattle.run_refusal.specs.declared.refusal.Refusal.{Refusal}
use Rattle.pass_name.specs.declared.road.Road.TheVariants.{Usual}
use Rattle.md_forms.specs.declared.form.Entry.{Entry}
use Rattle.func_input.specs.Input.{RefusesWith}
use Rattle.func_input.specs.machine.Steps.{AppendedSome}
use Rattle.func_input.proofs.Refusing.{refuses_map}
use Rattle.func_after.specs.Each.{EachComes}
use Rattle.func_after.specs.After.{AfterComes}
use Rattle.func_after.specs.declared.compilation.Compilation.{Compilation}
use Rattle.func_text.specs.Recog.{OutputComes, FunctionComes}

-- a pass refused it
pub after_refuses : (es : List Entry) (f : Function) (e : Refusal) → RefusesWith e (AfterComes es Usual f) → RefusesWith e (FunctionComes es f)
after_refuses es f e r = refuses_map e (AfterComes es Usual f) (FunctionComes es f) (λ e after. FunctionComes.refused e after) r

-- or it did not, and then the lines tell
pub function_comes : {B : Type 0} (es : List Entry) (f : Function) (m : Compilation) (old new : List ℕ) (r : Result B Refusal) →
    AfterComes es Usual f (Ok m) → AppendedSome old new r (EachComes (OutputComes es f.name) m.function.insns) →
    AppendedSome old new r (FunctionComes es f)
function_comes es f m old new (Ok z) after out = (out.0, FunctionComes.printed m (Ok out.0) after out.1, out.2)
function_comes es f m old new (Err e) after out =
    refuses_map e (EachComes (OutputComes es f.name) m.function.insns) (FunctionComes es f)
    (λ e out. FunctionComes.printed m (Err e) after out) out
