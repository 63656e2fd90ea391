-- The first function that is refused, one function after the other.
use Rattle.std.proofs.Common.{◌≡◌, ◌<◌, ℕ, suc, ◌+◌, List, ◌∷◌, length, drop, take, get_or, Result, Err, Some, None, sym, ap, ◌∙◌, add-one}
use Rattle.std.proofs.Math.Seq.{drop-cons}
use Rattle.std.specs.Prelude.{slice_get}
use Rattle.rtl_func.specs.Faults as rules
use Rattle.rtl_func.specs.Rules.{faults_by}
use Rattle.rtx_tree.specs.declared.function.Function.{Function}
use Rattle.run_refusal.specs.declared.refusal.Refusal.{Refusal}
use Rattle.func_input.specs.Refused.{or_later, limit_passed, refused_at, refused_behind, refused_from, rule_broken, first_refused}
use Rattle.func_input.specs.Input.{FunctionsComeTo, FunctionsGive, RefusesWith}
use Rattle.func_input.specs.machine.Steps.{TellsOf}
use Rattle.func_input.proofs.Refusing.{refuses_map}

-- what is left of a list at a place, where a thing stands there
pub drop_at : {A : Type 0} (xs : List A) (i : ℕ) (x : A) → i < length xs → x ≡ get_or xs i x → drop i xs ≡ x ∷ drop (i + 1) xs
drop_at {A = A} xs i x within is =
    let lt : i < length xs = within in
    let cons : drop i xs ≡ get_or xs i x ∷ drop (suc i) xs = drop-cons xs i x lt in
    rw add-one (cons ∙ ap (λ (u : A). u ∷ drop (suc i) xs) (sym is))

-- the function at a place, by those that stand before
pub refused_here : (functions : List Function) (index : ℕ) (f : Function) → slice_get functions index ≡ Some f → refused_at functions index f ≡ refused_behind (take index functions) f
refused_here functions index f at = ap (λ o. or_later (rule_broken f (rules.first_fault (faults_by functions index o))) (limit_passed f)) at

-- one that is not refused leads on
pub checked_on : (functions : List Function) (index : ℕ) (f : Function) (rest : List Function) → refused_at functions index f ≡ None → refused_from functions index (f ∷ rest) ≡ first_refused functions →
    refused_from functions (index + 1) rest ≡ first_refused functions
checked_on functions index f rest none so_far = sym (ap (λ o. or_later o (refused_from functions (index + 1) rest)) none) ∙ so_far

-- one that is is the first
pub checked_here : (functions : List Function) (index : ℕ) (f : Function) (rest : List Function) (e : Refusal) → RefusesWith e (TellsOf (refused_at functions index f)) →
    refused_from functions index (f ∷ rest) ≡ first_refused functions → RefusesWith e (FunctionsGive functions)
checked_here functions index f rest e h so_far =
    refuses_map e (TellsOf (refused_at functions index f)) (FunctionsGive functions)
    (λ e is. FunctionsComeTo.refused e (sym so_far ∙ ap (λ o. or_later o (refused_from functions (index + 1) rest)) (is.1 ∙ ap (λ (r : Refusal). Some r) (same_told is.0 e is.2)))) h
  where
    same_told : (r e : Refusal) → ◌≡◌ {A = Result (Unit {0}) Refusal} (Err e) (Err r) → r ≡ e
    same_told r e is = cc
