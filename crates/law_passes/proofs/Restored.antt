-- What a function with its frame comes to, which restores what its caller had in sp, ra and s0 to s11, and what comes to the same as that.
use Rattle.std.proofs.Common.{◌≡◌, ◌≢◌, ℕ, zero, suc, arith, length, List, [], ◌∷◌, map, Option, Some, refl, ap, subst, ◌∙◌}
use Rattle.std.specs.Prelude.{slice_index}
use Rattle.rtx_tree.specs.declared.code.Mode.{Mode}
use Rattle.rtx_tree.specs.declared.function.Function.{Function}
use Rattle.rtx_tree.specs.declared.machine.Start.{Start}
use Rattle.rtx_tree.specs.declared.machine.World.{World}
use Rattle.rtl_step.specs.Step.{step}
use Rattle.rtl_step.specs.declared.step.State.{State}
use Rattle.rtl_step.specs.declared.step.StepEnd.{StepEnd}
use Rattle.rtl_step.specs.declared.step.StepEnd.TheVariants as ends
use Rattle.func_run.specs.Run.{run, run_of, go_on}
use Rattle.func_run.specs.declared.outcome.Outcome.{Outcome}
use Rattle.func_run.specs.declared.outcome.Outcome.TheVariants.{Running, Asked, Returned, Undefined}
use Rattle.rv_line.specs.declared.outcome.CodeOutcome.{CodeOutcome}
use Rattle.rv_line.specs.declared.outcome.CodeOutcome.TheVariants as code
use Rattle.same_behaviour.specs.Same as same
use Rattle.same_behaviour.specs.Same.{SameCalls, SameResult}
use Rattle.law_function_kept.specs.Outcomes.{KeptToo, SameOutcome}
use Rattle.law_window_lines.specs.Left.{found, LeavesAsFound}
use Rattle.frame.specs.law_frame.Keeps.{Restores}

-- ---- what is left of the registers that a function preserves

-- where it has returned, there are fourteen of them
abbrev HasFourteen : Outcome → Type 0
HasFourteen (Returned value memory events kept) = length kept ≡ 14
HasFourteen _ = Unit {0}

after_step : (f : Function) (e : StepEnd) (s : State) (rest : State → Outcome) → HasFourteen (rest s) → HasFourteen (go_on f e s rest)
after_step f ends.Next s rest has = has
after_step f ends.Jumped s rest has = has
after_step f ends.Called s rest has = has
after_step f ends.Returned s rest has = refl
after_step f ends.Asked s rest has = tt
after_step f ends.Undefined s rest has = tt

steps_have : (world : World) (f : Function) (n : ℕ) (s : State) → HasFourteen (run world f n s)
steps_have world f zero s = tt
steps_have world f (suc n) s =
    let e : StepEnd × State = step world f s in after_step f e.0 e.1 (run world f n) (steps_have world f n e.1)

-- a run
pub run_has : (f : Function) (start : Start) (world : World) (n : ℕ) → HasFourteen (run_of f start world n)
run_has f start world n = steps_have world f n _

-- ---- known numbers are known in what knows them too

same_known : (numbers : List ℕ) (others : List (Option ℕ)) → length others ≡ length numbers → KeptToo (map Some numbers) others →
    others ≡ map Some numbers
same_known [] [] long too = refl
same_known [] (y ∷ others) long too = absurd (omega (arith, long))
same_known (x ∷ numbers) [] long too = absurd (omega (arith, long))
same_known (x ∷ numbers) (y ∷ others) long too =
    let here : Some y ≡ Some (Some x) = too 0 x refl in
    let same : y ≡ Some x = cc in
    ap (λ y. y ∷ others) same ∙
    ap (λ ys. Some x ∷ ys) (same_known numbers others (omega (arith, long)) (λ i number at. too (suc i) number at))

-- what is found in sp, ra and s0 to s11
abbrev numbers_found : Start → List ℕ
numbers_found start = start.sp ∷ start.ra ∷ map (λ k. slice_index start.saved k) (0 ∷ 1 ∷ 2 ∷ 3 ∷ 4 ∷ 5 ∷ 6 ∷ 7 ∷ 8 ∷ 9 ∷ 10 ∷ 11 ∷ [])

-- What comes to the same as what restores what was found leaves it so, by whichever start of the same registers.
pub left_as_found : (start other : Start) (x y z : Outcome) → found other ≡ found start → Restores other x y → SameOutcome y z →
    HasFourteen z → LeavesAsFound start z
left_as_found start other x y (Running c) is restores same has = tt
left_as_found start other x y (Asked c) is restores same has = tt
left_as_found start other x y Undefined is restores same has = tt
left_as_found start other (Returned value memory a kept) (Returned value' memory' b kept') (Returned value'' memory'' c kept'') is restores
    same has = same_known (numbers_found other) kept'' has (subst (λ k. KeptToo k kept'') restores.3 same.3) ∙ is
left_as_found start other x (Running b) (Returned value'' memory'' c kept'') is restores same has = absurd same
left_as_found start other x (Asked b) (Returned value'' memory'' c kept'') is restores same has = absurd same
left_as_found start other x Undefined (Returned value'' memory'' c kept'') is restores same has = absurd same
left_as_found start other _ (Returned value' memory' b kept') (Returned value'' memory'' c kept'') is restores same has = absurd restores

-- ---- outcomes

-- what restores has a value
pub restored_value : (start : Start) (x y : Outcome) → Restores start x y → y ≢ Undefined
restored_value start (Running a) Undefined restores is = restores
restored_value start (Asked a) Undefined restores is = restores
restored_value start (Returned value memory a kept) Undefined restores is = restores
restored_value start Undefined Undefined restores is = restores
restored_value start x (Running b) restores is = let no : ⊥ = cc in no
restored_value start x (Asked b) restores is = let no : ⊥ = cc in no
restored_value start x (Returned value memory b kept) restores is = let no : ⊥ = cc in no

-- lines that come to the same as it come to the same as what it does
pub restored_too : (mode : Option Mode) (start other : Start) (x y : Outcome) (z : CodeOutcome) → Restores other x y →
    same.SameOutcome mode start y z → same.SameOutcome mode start x z
restored_too mode start other (Running a) (Running b) (code.Running c) one two = subst (λ e. SameCalls e c) one two
restored_too mode start other (Asked a) (Asked b) (code.Asked c) one two = subst (λ e. SameCalls e c) one two
restored_too mode start other (Returned value memory a kept) (Returned value' memory' b kept') (code.Returned a0 memory'' c saved) one two =
    (subst (λ v. SameResult mode v a0) one.0 two.0, two.1 ∙ one.1, subst (λ e. SameCalls e c) one.2 two.2, two.3)
restored_too mode start other (Running a) (Running b) _ one two = absurd two
restored_too mode start other (Asked a) (Asked b) _ one two = absurd two
restored_too mode start other (Returned value memory a kept) (Returned value' memory' b kept') _ one two = absurd two
restored_too mode start other _ _ _ one two = absurd one
