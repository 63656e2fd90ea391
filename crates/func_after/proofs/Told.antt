-- What is told of an instruction, from what the calls gave.
use Rattle.std.proofs.Common.{◌≡◌, ℕ, List, Err, sym, subst}
use Rattle.rtx_tree.specs.declared.function.Insn.{Insn}
use Rattle.pass_name.specs.declared.pass.Pass.{Pass}
use Rattle.run_refusal.specs.declared.refusal.Refusal.{Refusal}
use Rattle.func_input.specs.Input.{RefusesWith}
use Rattle.func_input.specs.Outcome.{Outcome}
use Rattle.func_after.specs.After.{unmatched_at}

-- an instruction without a match was told
pub told_unmatched : (pass : Pass) (function : List ℕ) (i : Insn) (e : Refusal) (P : Outcome → Type 0) → e ≡ unmatched_at pass function i → P (Err (unmatched_at pass function i)) → RefusesWith e P
told_unmatched pass function i e P is holds = subst (λ e. RefusesWith e P) (sym is) holds
