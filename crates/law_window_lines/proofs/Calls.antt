-- The calls of both sides, one behind the other.
use Rattle.std.proofs.Common.{◌≡◌, ℕ, zero, suc, ◌+◌, arith, length, drop, List, [], ◌∷◌, ◌++◌, Some, refl, sym, ap, subst}
use Rattle.std.specs.List.{All}
use Rattle.std.specs.Prelude.{slice_get}
use Rattle.std.proofs.lemmas.List.Elements.{All-head, All-drop}
use Rattle.rtl_step.specs.declared.call.CallEvent.{CallEvent}
use Rattle.rv_line.specs.declared.outcome.CodeCall.{CodeCall}
use Rattle.law_window_runs.specs.same_behaviour.Same.{SameCall, SameCalls}

alone : (event : CallEvent) (call : CodeCall) → SameCall event call → SameCalls (event ∷ []) (call ∷ [])
alone event call same = (refl, λ i e c at at'. by_place i e c at at')
  where
    by_place : (i : ℕ) (e : CallEvent) (c : CodeCall) → slice_get (event ∷ []) i ≡ Some e → slice_get (call ∷ []) i ≡ Some c → SameCall e c
    by_place zero e c at at' = let this : event ≡ e = cc in let that : call ≡ c = cc in
        subst (λ e. SameCall e c) this (subst (λ c. SameCall event c) that same)
    by_place (suc i) e c at at' = absurd (let no : ⊥ = cc in no)

first_of : (e : CallEvent) (events : List CallEvent) (c : CodeCall) (calls : List CodeCall) → SameCalls (e ∷ events) (c ∷ calls) →
    SameCall e c
first_of e events c calls same = same.1 0 e c refl refl

rest_of : (e : CallEvent) (events : List CallEvent) (c : CodeCall) (calls : List CodeCall) → SameCalls (e ∷ events) (c ∷ calls) →
    SameCalls events calls
rest_of e events c calls same = (let long = same.0 in omega (arith, long), λ i. same.1 (suc i))

with_first : (e : CallEvent) (events : List CallEvent) (c : CodeCall) (calls : List CodeCall) → SameCall e c → SameCalls events calls →
    SameCalls (e ∷ events) (c ∷ calls)
with_first e events c calls first rest = (ap suc rest.0, λ i e' c' at at'. by_place i e' c' at at')
  where
    by_place : (i : ℕ) (e' : CallEvent) (c' : CodeCall) → slice_get (e ∷ events) i ≡ Some e' → slice_get (c ∷ calls) i ≡ Some c' →
        SameCall e' c'
    by_place zero e' c' at at' = let this : e ≡ e' = cc in let that : c ≡ c' = cc in
        subst (λ e. SameCall e c') this (subst (λ c. SameCall e c) that first)
    by_place (suc i) e' c' at at' = rest.1 i e' c' at at'

-- one call more on each side
pub same_more : (events : List CallEvent) (calls : List CodeCall) (event : CallEvent) (call : CodeCall) → SameCalls events calls →
    SameCall event call → SameCalls (events ++ event ∷ []) (calls ++ call ∷ [])
same_more [] [] event call same one = alone event call one
same_more [] (c ∷ calls) event call same one = absurd (let long = same.0 in omega (arith, long))
same_more (e ∷ events) [] event call same one = absurd (let long = same.0 in omega (arith, long))
same_more (e ∷ events) (c ∷ calls) event call same one =
    with_first e (events ++ event ∷ []) c (calls ++ call ∷ []) (first_of e events c calls same)
    (same_more events calls event call (rest_of e events c calls same) one)

pub length_more : (events : List CallEvent) (event : CallEvent) → length (events ++ event ∷ []) ≡ length events + 1
length_more [] event = refl
length_more (e ∷ events) event = let rest = length_more events event in omega (arith, rest)

-- the next of a list of which some are done is as all are
pub next_is : {X : Type 0} (P : X → Type 0) (xs rest : List X) (done : ℕ) (x : X) → All P xs → x ∷ rest ≡ drop done xs → P x
next_is P xs rest done x all is = All-head P x rest (subst (All P) (sym is) (All-drop P done xs all))
