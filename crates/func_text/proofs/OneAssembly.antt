-- What functions come to is one assembly, or one refusal.
use Rattle.std.proofs.Common.{◌≡◌, ℕ, ◌+◌, List, length, Ok, Err, refl, ap, subst, ◌∙◌}
use Rattle.rtx_tree.specs.declared.function.Function.{Function}
use Rattle.run_refusal.specs.declared.refusal.Refusal.{Refusal}
use Rattle.pass_name.specs.declared.road.Road.{Road}
use Rattle.md_forms.specs.declared.form.Entry.{Entry}
use Rattle.func_input.proofs.One as input
use Rattle.func_input.proofs.One.{one_coming_to}
use Rattle.func_after.specs.After.{Answer, AfterComes}
use Rattle.func_after.specs.declared.compilation.Compilation.{Compilation}
use Rattle.func_after.proofs.OneAfter.{one_after}
use Rattle.asm_out.specs.Comes as out
use Rattle.asm_out.proofs.PlaceOne.{function_one}
use Rattle.func_text.specs.declared.assembly.Assembly.{Assembly}
use Rattle.func_text.specs.Assembly.{told_for, FunctionComes, Outcome, AreWritten, AssemblyComes, outcome_behind}
use Rattle.func_text.specs.Compile.{FunctionsCome, InputComes}

module _ (forms : List Entry) (road : Road) where
  not_both : {P : Type 0} (f : Function) (e : Refusal) (m : Compilation) → AfterComes forms road f (Err e) → AfterComes forms road f (Ok m) → P
  not_both f e m wrong after =
      absurd (let same : ◌≡◌ {A = Answer} (Err e) (Ok m) = one_after forms road f (Err e) (Ok m) wrong after in let never : ⊥ = cc in never)

  same_err : (e d : Refusal) → ◌≡◌ {A = Answer} (Err e) (Err d) → ◌≡◌ {A = Outcome} (Err e) (Err d)
  same_err e d is = ap (λ (x : Refusal). Err x) (let same : e ≡ d = cc in same)

  same_made : (m n : Compilation) → ◌≡◌ {A = Answer} (Ok m) (Ok n) → m ≡ n
  same_made m n is = cc

  one_function : (number size : ℕ) (f : Function) (a b : Outcome) → FunctionComes forms road number size f a →
      FunctionComes forms road number size f b → a ≡ b
  one_function number size f _ _ (FunctionComes.refused e after) (FunctionComes.refused d after') = same_err e d (one_after forms road f (Err e) (Err d) after after')
  one_function number size f _ _ (FunctionComes.refused e after) (FunctionComes.written m o after' comes) = not_both f e m after after'
  one_function number size f _ _ (FunctionComes.written m o after comes) (FunctionComes.refused e after') = not_both f e m after' after
  one_function number size f _ _ (FunctionComes.written m o after comes) (FunctionComes.written n p after' comes') =
      let same : m ≡ n = same_made m n (one_after forms road f (Ok m) (Ok n) after after') in
      ap (λ (k : Compilation). told_for f k o) same
      ∙ ap (told_for f n)
      (function_one forms number n.function size o p
      (subst (λ (k : Compilation). out.FunctionComes forms number k.function size o) same comes) comes')

  same_one : (a b : Assembly) → ◌≡◌ {A = Outcome} (Ok a) (Ok b) → a ≡ b
  same_one a b is = cc

  apart : {P : Type 0} (e : Refusal) (a : Assembly) → ◌≡◌ {A = Outcome} (Err e) (Ok a) → P
  apart e a is = absurd (let none : ⊥ = cc in none)

  one_written : (number size : ℕ) (functions : List Function) (a b : Outcome) → AreWritten forms road number size functions a → AreWritten forms road number size functions b → a ≡ b
  one_written number size _ _ _ (AreWritten.none _ _) (AreWritten.none _ _) = refl
  one_written number size _ _ _ (AreWritten.refused _ _ f functions e comes) (AreWritten.refused _ _ _ _ d comes') =
      one_function number size f (Err e) (Err d) comes comes'
  one_written number size _ _ _ (AreWritten.refused _ _ f functions e comes)
      (AreWritten.goes_on _ _ _ _ one rest small comes' more) =
      apart e one (one_function number size f (Err e) (Ok one) comes comes')
  one_written number size _ _ _ (AreWritten.goes_on _ _ f functions one rest small comes more)
      (AreWritten.refused _ _ _ _ e comes') =
      apart e one (one_function number size f (Err e) (Ok one) comes' comes)
  one_written number size _ _ _ (AreWritten.goes_on _ _ f functions one rest small comes more)
      (AreWritten.goes_on _ _ _ _ one' rest' small' comes' more') =
      let same : one ≡ one' = same_one one one' (one_function number size f (Ok one) (Ok one') comes comes') in
      let here : AreWritten forms road (number + 1) (size + length one'.text) functions rest =
      subst (λ (a : Assembly). AreWritten forms road (number + 1) (size + length a.text) functions rest) same more in
      ap (λ (a : Assembly). outcome_behind a rest) same
      ∙ ap (outcome_behind one') (one_written (number + 1) (size + length one'.text) functions rest rest' here more')

  pub one_assembly : (functions : List Function) (a b : Outcome) → AssemblyComes forms road functions a → AssemblyComes forms road functions b → a ≡ b
  one_assembly functions a b p q = one_written 0 0 functions a b p q

  -- what functions come to, they come to alone
  pub one_coming : (functions : List Function) (a b : Outcome) → FunctionsCome forms road functions a → FunctionsCome forms road functions b → a ≡ b
  one_coming functions a b p q = input.one_coming (AssemblyComes forms road) functions a b one_assembly p q

  -- bytes come to one
  pub one_coming_of : (bytes : List ℕ) (a b : Outcome) → InputComes forms road bytes a → InputComes forms road bytes b → a ≡ b
  one_coming_of bytes a b p q = one_coming_to (AssemblyComes forms road) bytes a b one_assembly p q
