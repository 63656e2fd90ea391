-- What a command over the functions of an input comes to: a text, or a refusal.
use Rattle.std.specs.Prelude.{ℕ, List, ◌++◌, Result, Ok, Err, Vec}
use Rattle.std.specs.declared.alloc.Global.{Global}
use Rattle.run_refusal.specs.declared.refusal.Refusal.{Refusal}
use Rattle.func_input.specs.Input.{RefusesWith}

-- a text, or the first refusal on the way to it
abbrev pub Outcome : Type 0
Outcome = Result (List ℕ) Refusal

-- a text and another behind it
abbrev pub outcome_map : (List ℕ → List ℕ) → Outcome → Outcome
outcome_map f (Ok text) = Ok (f text)
outcome_map f (Err e) = Err e

abbrev pub outcome_then : Outcome → Outcome → Outcome
outcome_then (Ok text) rest = outcome_map (λ more. text ++ more) rest
outcome_then (Err e) rest = Err e

-- ---- what a call has done

-- what is told is given; a refusal is the one that is told; want of memory is free
abbrev pub Gives : Result (Vec ℕ Global) Refusal → (Outcome → Type 0) → Type 0
Gives (Ok text) P = P (Ok text.items)
Gives (Err e) P = RefusesWith e P
