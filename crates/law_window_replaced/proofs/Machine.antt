-- The run of a function as a machine: a turn is a step.
use Rattle.std.proofs.Common.{◌≡◌, ℕ, zero, suc, ◌+◌, ◌≤◌, arith, if◌then◌else◌, Bool, true, false, refl, sym, ap, ◌∙◌}
use Rattle.rtx_tree.specs.declared.machine.World.{World}
use Rattle.rtx_tree.specs.declared.function.Function.{Function}
use Rattle.rtl_step.specs.Step.{Stepped, step}
use Rattle.rtl_step.specs.declared.step.State.{State}
use Rattle.rtl_step.specs.declared.step.StepEnd.{StepEnd}
use Rattle.rtl_step.specs.declared.step.StepEnd.TheVariants as ends
use Rattle.func_run.specs.Run as func
use Rattle.func_run.specs.declared.outcome.Outcome.{Outcome}
use Rattle.func_run.specs.declared.outcome.Outcome.TheVariants as outcomes
use Rattle.law_function_kept.specs.Ends.{is_past, ends_past}
use Rattle.law_window_lines.proofs.Simulation as machine
use Rattle.law_window_lines.proofs.Simulation.{Turned, Goes, Ends, turned_on, added, counted}

-- how a run comes out, and whether it has ended past the last instruction
abbrev pub End : Type 0
End = Outcome × Bool

abbrev turned_by : Function → Bool → StepEnd → State → Turned State End
turned_by g past e t = if func.goes_on e then Goes t else Ends (func.ended g e t, past)

module _ (world : World) (g : Function) where
  abbrev pub turn : State → Turned State End
  turn t = turned_by g (is_past g t) (step world g t).0 (step world g t).1

  abbrev pub stop : State → End
  stop t = (outcomes.Running t.calls, false)

  abbrev pub weight : State → ℕ
  weight t = counted (step world g t).0

  abbrev pub Any : State → Type 0
  Any t = Unit {0}

  abbrev pub run : ℕ → State → End
  run n t = machine.run State End turn stop weight Any n t

  abbrev pub weigh : ℕ → State → ℕ
  weigh n t = machine.weigh State End turn stop weight Any n t

  abbrev pub Moves : ℕ → State → State → Type 0
  Moves k t t' = machine.Moves State End turn stop weight Any k t t'

  -- ---- its runs are the function's

  abbrev own : ℕ → State → End
  own n t = (func.run world g n t, ends_past world g n t)

  run_by : (n : ℕ) (past : Bool) (e : StepEnd) (t : State) (b : Bool) → func.goes_on e ≡ b →
      turned_on (turned_by g past e t) (own n) (λ end. end) ≡
      (func.go_on g e t (func.run world g n), if func.goes_on e then ends_past world g n t else past)
  run_by n past e t true is =
      ap (λ b. turned_on (if b then Goes t else Ends (func.ended g e t, past)) (own n) (λ end. end)) is ∙
      sym (ap (λ b. (if b then func.run world g n t else func.ended g e t, if b then ends_past world g n t else past)) is)
  run_by n past e t false is =
      ap (λ b. turned_on (if b then Goes t else Ends (func.ended g e t, past)) (own n) (λ end. end)) is ∙
      sym (ap (λ b. (if b then func.run world g n t else func.ended g e t, if b then ends_past world g n t else past)) is)

  pub run_is : (n : ℕ) (t : State) → run n t ≡ (func.run world g n t, ends_past world g n t)
  run_is zero t = refl
  run_is (suc n) t =
      ap (λ (rest : State → End). turned_on (turn t) rest (λ end. end)) (λ i t. run_is n t i) ∙
      run_by n (is_past g t) (step world g t).0 (step world g t).1 (func.goes_on (step world g t).0) refl

  weigh_by : (past : Bool) (e : StepEnd) (t : State) (rest : State → ℕ) →
      counted e + turned_on (turned_by g past e t) rest (λ outcome. 0) ≡ func.taken_on e t rest
  weigh_by past ends.Next t rest = omega arith
  weigh_by past ends.Jumped t rest = omega arith
  weigh_by past ends.Called t rest = omega arith
  weigh_by past ends.Returned t rest = omega arith
  weigh_by past ends.Asked t rest = omega arith
  weigh_by past ends.Undefined t rest = omega arith

  pub weigh_is : (n : ℕ) (t : State) → weigh n t ≡ func.taken_from world g n t
  weigh_is zero t = refl
  weigh_is (suc n) t =
      ap (λ (rest : State → ℕ). weight t + turned_on (turn t) rest (λ outcome. 0)) (λ i t. weigh_is n t i) ∙
      weigh_by (is_past g t) (step world g t).0 (step world g t).1 (func.taken_from world g n)

  -- ---- one step

  turns : (t t' : State) (e : StepEnd) → step world g t ≡ (e, t') → turn t ≡ turned_by g (is_past g t) e t'
  turns t t' e is = ap (λ (x : Stepped). turned_by g (is_past g t) x.0 x.1) is

  pub turn_goes : (t t' : State) (e : StepEnd) → step world g t ≡ (e, t') → func.goes_on e ≡ true → turn t ≡ Goes t'
  turn_goes t t' e is on = turns t t' e is ∙ ap (λ b. if b then Goes t' else Ends (func.ended g e t', is_past g t)) on

  pub turn_ends : (t t' : State) (e : StepEnd) → step world g t ≡ (e, t') → func.goes_on e ≡ false → turn t ≡ Ends (func.ended g e t', is_past g t)
  turn_ends t t' e is over = turns t t' e is ∙ ap (λ b. if b then Goes t' else Ends (func.ended g e t', is_past g t)) over

  pub one_move : (t t' : State) (e : StepEnd) → step world g t ≡ (e, t') → func.goes_on e ≡ true → Moves 1 t t'
  one_move t t' e is on = machine.moves 0 t t' t' tt (turn_goes t t' e is on) (machine.stays t')

  -- a step weighs what it counts
  pub one_weighs : (k : ℕ) (t t' t'' : State) (e : StepEnd) → Moves k t t' → step world g t' ≡ (e, t'') →
      counted e ≤ weigh (added k 1) t
  one_weighs k t t' t'' e led is =
      let all = machine.weigh_on State End turn stop weight Any k 1 t t' led in
      let last : weight t' ≡ counted e = ap (λ (x : Stepped). counted x.0) is in
      omega (arith, all, last)

  -- some steps and one more
  pub then_one : (k : ℕ) (t t' t'' : State) (e : StepEnd) → Moves k t t' → step world g t' ≡ (e, t'') → func.goes_on e ≡ true →
      Moves (added k 1) t t''
  then_one k t t' t'' e led is on =
      machine.moves_on State End turn stop weight Any k 1 t t' t'' led (one_move t' t'' e is on)

  pub then_more : (k j : ℕ) (t t' t'' : State) → Moves k t t' → Moves j t' t'' → Moves (added k j) t t''
  then_more k j t t' t'' led more = machine.moves_on State End turn stop weight Any k j t t' t'' led more
