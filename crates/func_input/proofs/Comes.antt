-- What an input comes to, from what its parts gave.
use Rattle.std.proofs.Common.{◌≡◌, ℕ, List, Result, Ok, Err, None, Vec}
use Rattle.std.specs.declared.alloc.Global.{Global}
use Rattle.rtx_tree.specs.declared.function.Function.{Function}
use Rattle.run_refusal.specs.declared.refusal.Refusal.{Refusal}
use Rattle.func_input.specs.Refused.{first_refused}
use Rattle.func_input.specs.Input.{IsRead, FunctionsComeTo, InputComesTo}
use Rattle.func_input.specs.Outcome.{Outcome, Gives}
use Rattle.func_input.proofs.Refusing.{refuses_map}
use Rattle.func_input.proofs.Any.{Last, read_comes}

-- what a call told has any property that follows from its own
pub gives_map : (result : Result (Vec ℕ Global) Refusal) (P Q : Outcome → Type 0) → ((o : Outcome) → P o → Q o) → Gives result P → Gives result Q
gives_map (Ok text) P Q follows h = follows (Ok text.items) h
gives_map (Err e) P Q follows h = refuses_map e P Q (λ e. follows (Err e)) h

-- what the functions came to, the bytes come to
pub comes_to : (last : Last (List ℕ)) (bytes : List ℕ) (functions : List Function) (result : Result (Vec ℕ Global) Refusal) → IsRead bytes functions → Gives result (FunctionsComeTo last functions) → Gives result (InputComesTo last bytes)
comes_to last bytes functions result read h = gives_map result (FunctionsComeTo last functions) (InputComesTo last bytes) (λ o comes. read_comes last bytes functions o read comes) h

-- what the last step gave, the functions come to where none is refused
pub functions_come : (last : Last (List ℕ)) (functions : List Function) (result : Result (Vec ℕ Global) Refusal) → first_refused functions ≡ None → Gives result (last functions) → Gives result (FunctionsComeTo last functions)
functions_come last functions result none h = gives_map result (last functions) (FunctionsComeTo last functions) (λ o own. FunctionsComeTo.admitted o none own) h
