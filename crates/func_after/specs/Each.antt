-- What some things come to, one behind the other: the texts of all in their order, or the first
-- refusal.
use Rattle.std.specs.Prelude.{ℕ, List, [], ◌∷◌, ◌++◌, Ok, Err}
use Rattle.run_refusal.specs.declared.refusal.Refusal.{Refusal}
use Rattle.func_input.specs.Outcome.{Outcome, outcome_map}

pub data EachComes {A : Type 0} (comes : A → Outcome → Type 0) : List A → Outcome → Type 0 where
  none : EachComes comes [] (Ok [])
  refused : (x : A) (xs : List A) (e : Refusal) → comes x (Err e) → EachComes comes (x ∷ xs) (Err e)
  goes_on : (x : A) (xs : List A) (text : List ℕ) (rest : Outcome) → comes x (Ok text) →
      EachComes comes xs rest → EachComes comes (x ∷ xs) (outcome_map (λ more. text ++ more) rest)
