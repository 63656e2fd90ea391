-- What a function comes to, from what the passes gave.
use Rattle.std.proofs.Common.{List}
use Rattle.rtx_tree.specs.declared.function.Function.{Function}
use Rattle.run_refusal.specs.declared.refusal.Refusal.{Refusal}
use Rattle.md_forms.specs.declared.form.Entry.{Entry}
use Rattle.pass_name.specs.declared.pass.Pass.{Pass}
use Rattle.pass_name.specs.declared.road.Road.TheVariants.{Usual}
use Rattle.func_input.specs.Input.{RefusesWith}
use Rattle.func_input.proofs.Refusing.{refuses_map}
use Rattle.func_after.specs.After.{IsBehind}
use Rattle.func_text.specs.Dump.{FunctionComes}

-- a pass refused it
pub behind_refuses : (forms : List Entry) (pass : Pass) (f : Function) (e : Refusal) → RefusesWith e (IsBehind forms Usual f pass) → RefusesWith e (FunctionComes forms pass f)
behind_refuses forms pass f e r = refuses_map e (IsBehind forms Usual f pass) (FunctionComes forms pass f) (λ e behind. FunctionComes.refused e behind) r
