-- A machine that follows the run of a function, whatever machine it is: it has states, of which each takes a turn, and for each step of
-- the function it makes some turns. One induction for all.
use Rattle.std.proofs.Common.{◌≡◌, ℕ, zero, suc, ◌+◌, ◌≤◌, arith, Bool, true, false, refl, sym, ap, subst, ◌∙◌}
use Rattle.std.specs.Prelude.{if◌then◌else◌}
use Rattle.rtx_tree.specs.declared.machine.World.{World}
use Rattle.rtx_tree.specs.declared.function.Function.{Function}
use Rattle.rtl_step.specs.Step.{Stepped, step}
use Rattle.rtl_step.specs.declared.step.State.{State}
use Rattle.rtl_step.specs.declared.step.StepEnd.{StepEnd}
use Rattle.rtl_step.specs.declared.step.StepEnd.TheVariants as ends
use Rattle.func_run.specs.Run as func
use Rattle.func_run.specs.declared.outcome.Outcome.{Outcome}
use Rattle.func_run.specs.declared.outcome.Outcome.TheVariants as outcomes
use Rattle.law_function_kept.specs.Ends.{is_past, ends_past}

-- ---- machines

-- a turn leads to another state, or ends with an outcome
pub data Turned (T O : Type 0) : Type 0 where
  Goes : T → Turned T O
  Ends : O → Turned T O

abbrev pub turned_on : {T O X : Type 0} → Turned T O → (T → X) → (O → X) → X
turned_on (Goes t) next over = next t
turned_on (Ends outcome) next over = over outcome

-- so many turns, and some more
abbrev pub added : ℕ → ℕ → ℕ
added zero j = j
added (suc k) j = suc (added k j)

-- what a step counts: a jump that is taken, and a call
abbrev pub counted : StepEnd → ℕ
counted ends.Jumped = 1
counted ends.Called = 1
counted ends.Asked = 1
counted _ = 0

-- A machine has a turn for each state, an outcome where it is stopped there, and a weight for the turn. What is asked of each state of
-- which a turn is made is `P`.
module _ (T O : Type 0) (turn : T → Turned T O) (stop : T → O) (weight : T → ℕ) (P : T → Type 0) where
  -- the outcome of at most so many turns
  abbrev pub run : ℕ → T → O
  run zero t = stop t
  run (suc k) t = turned_on (turn t) (run k) (λ outcome. outcome)

  -- what they weigh
  abbrev pub weigh : ℕ → T → ℕ
  weigh zero t = 0
  weigh (suc k) t = weight t + turned_on (turn t) (weigh k) (λ outcome. 0)

  -- each state of which one of them is made is as asked
  pub data Through : ℕ → T → Type 0 where
    none : (t : T) → Through 0 t
    further : (k : ℕ) (t t' : T) → P t → turn t ≡ Goes t' → Through k t' → Through (suc k) t
    last : (k : ℕ) (t : T) (outcome : O) → P t → turn t ≡ Ends outcome → Through (suc k) t

  -- so many turns lead from one state to another
  pub data Moves : ℕ → T → T → Type 0 where
    stays : (t : T) → Moves 0 t t
    moves : (k : ℕ) (t t' t'' : T) → P t → turn t ≡ Goes t' → Moves k t' t'' → Moves (suc k) t t''

  -- ---- turns that are put together

  pub moves_on : (k j : ℕ) (t t' t'' : T) → Moves k t t' → Moves j t' t'' → Moves (added k j) t t''
  moves_on _ j _ _ t'' (stays t) more = more
  moves_on _ j _ _ t'' (moves k t t' final as_asked is rest) more =
      moves (added k j) t t' t'' as_asked is (moves_on k j t' final t'' rest more)

  -- what so many turns and some more come to
  pub run_on : (k j : ℕ) (t t' : T) → Moves k t t' → run (added k j) t ≡ run j t'
  run_on _ j _ _ (stays t) = refl
  run_on _ j _ _ (moves k t t' final as_asked is rest) =
      ap (λ x. turned_on x (run (added k j)) (λ outcome. outcome)) is ∙ run_on k j t' final rest

  pub weigh_on : (k j : ℕ) (t t' : T) → Moves k t t' → weigh (added k j) t ≡ weigh k t + weigh j t'
  weigh_on _ j _ _ (stays t) = omega arith
  weigh_on _ j _ _ (moves k t t' final as_asked is rest) =
      let more : weigh (suc (added k j)) t ≡ weight t + weigh (added k j) t' =
      ap (λ x. weight t + turned_on x (weigh (added k j)) (λ outcome. 0)) is in
      let few : weigh (suc k) t ≡ weight t + weigh k t' = ap (λ x. weight t + turned_on x (weigh k) (λ outcome. 0)) is in
      let later = weigh_on k j t' final rest in
      omega (arith, more, few, later)

  pub through_on : (k j : ℕ) (t t' : T) → Moves k t t' → Through j t' → Through (added k j) t
  through_on _ j _ _ (stays t) more = more
  through_on _ j _ _ (moves k t t' final as_asked is rest) more =
      further (added k j) t t' as_asked is (through_on k j t' final rest more)

  -- ---- a function that is followed

  -- `Good` is what is asked of the function's outcome and of the state in which the last step is made, `Same` what the two outcomes have in
  -- common
  module _ (world : World) (f : Function) (Related : State → T → Type 0) (Good : State → Outcome → Type 0)
      (Same : Outcome → O → Type 0) where
    -- What the machine does beside a step of the function: it moves on to a state that is related to the one behind the step, or it
    -- ends where the step ends. It takes as many turns at least, by their weight, as the step counts.
    pub data Simulates (s : State) (t : T) : Type 0 where
      goes_on : (e : StepEnd) (s' : State) (k : ℕ) (t' : T) → step world f s ≡ (e, s') → func.goes_on e ≡ true → Moves k t t' →
          counted e ≤ weigh k t → Related s' t' → Simulates s t
      ends_there : (e : StepEnd) (s' : State) (k : ℕ) (t' : T) (outcome : O) → step world f s ≡ (e, s') → func.goes_on e ≡ false →
          Moves k t t' → P t' → turn t' ≡ Ends outcome → counted e ≤ weigh (added k 1) t → Same (func.ended f e s') outcome → Simulates s t

    -- where a step ends the run, its outcome is good
    abbrev pub EndsGood : State → Type 0
    EndsGood s = (e : StepEnd) (s' : State) → step world f s ≡ (e, s') → func.goes_on e ≡ false → Good s (func.ended f e s')

    -- where a step ends a run, its outcome is good
    pub data RunsGood : ℕ → State → Type 0 where
      done : (s : State) → RunsGood 0 s
      goes : (n : ℕ) (s : State) → func.goes_on (step world f s).0 ≡ true → RunsGood n (step world f s).1 → RunsGood (suc n) s
      last_step : (n : ℕ) (s : State) → func.goes_on (step world f s).0 ≡ false →
          Good s (func.ended f (step world f s).0 (step world f s).1) → RunsGood (suc n) s

    -- what is said of the steps
    pub record IsFollowed : Type 0 where
      pub stops : (s : State) (t : T) → Related s t → Same (outcomes.Running s.calls) (stop t)
      pub steps : (s : State) (t : T) → Related s t → EndsGood s → Simulates s t

    -- so many steps and some turns have the same outcome
    pub record Reaches (n : ℕ) (s : State) (t : T) : Type 0 where
      pub turns : ℕ
      pub enough : func.taken_from world f n s ≤ weigh turns t
      pub same : Same (func.run world f n s) (run turns t)
      pub through : Through turns t

    -- where a step goes on, nothing is asked of it
    vacuous : (s : State) (e : StepEnd) (s' : State) → step world f s ≡ (e, s') → func.goes_on e ≡ true → EndsGood s
    vacuous s e s' is on e' s'' is' over =
        let same : e ≡ e' = ap (λ (x : Stepped). x.0) (sym is ∙ is') in
        absurd (let both : true ≡ false = sym on ∙ ap func.goes_on same ∙ over in let no : ⊥ = cc in no)

    step_goes : (n : ℕ) (s : State) (e : StepEnd) (s' : State) → step world f s ≡ (e, s') → func.goes_on e ≡ true →
        func.run world f (suc n) s ≡ func.run world f n s'
    step_goes n s e s' is on =
        ap (λ (x : Stepped). func.go_on f x.0 x.1 (func.run world f n)) is ∙
        ap (λ b. if b then func.run world f n s' else func.ended f e s') on

    step_ends : (n : ℕ) (s : State) (e : StepEnd) (s' : State) → step world f s ≡ (e, s') → func.goes_on e ≡ false →
        func.run world f (suc n) s ≡ func.ended f e s'
    step_ends n s e s' is over =
        ap (λ (x : Stepped). func.go_on f x.0 x.1 (func.run world f n)) is ∙
        ap (λ b. if b then func.run world f n s' else func.ended f e s') over

    -- what a step counts is taken
    taken_goes : (n : ℕ) (e : StepEnd) (s' : State) → func.goes_on e ≡ true →
        func.taken_on e s' (func.taken_from world f n) ≡ counted e + func.taken_from world f n s'
    taken_goes n ends.Next s' on = omega arith
    taken_goes n ends.Jumped s' on = omega arith
    taken_goes n ends.Called s' on = omega arith
    taken_goes n ends.Returned s' on = absurd (let no : ⊥ = cc in no)
    taken_goes n ends.Asked s' on = absurd (let no : ⊥ = cc in no)
    taken_goes n ends.Undefined s' on = absurd (let no : ⊥ = cc in no)

    taken_ends : (n : ℕ) (e : StepEnd) (s' : State) → func.goes_on e ≡ false → func.taken_on e s' (func.taken_from world f n) ≡ counted e
    taken_ends n ends.Next s' over = absurd (let no : ⊥ = cc in no)
    taken_ends n ends.Jumped s' over = absurd (let no : ⊥ = cc in no)
    taken_ends n ends.Called s' over = absurd (let no : ⊥ = cc in no)
    taken_ends n ends.Returned s' over = refl
    taken_ends n ends.Asked s' over = refl
    taken_ends n ends.Undefined s' over = refl

    both_go : (n : ℕ) (s : State) (t : T) (e : StepEnd) (s' : State) (k : ℕ) (t' : T) → step world f s ≡ (e, s') → func.goes_on e ≡ true →
        Moves k t t' → counted e ≤ weigh k t → Reaches n s' t' → Reaches (suc n) s t
    both_go n s t e s' k t' is on turns few later = record {
      turns = added k later.turns;
      enough = let steps : func.taken_from world f (suc n) s ≡ counted e + func.taken_from world f n s' =
          ap (λ (x : Stepped). func.taken_on x.0 x.1 (func.taken_from world f n)) is ∙ taken_goes n e s' on in
          let weights = weigh_on k later.turns t t' turns in
          let rest = later.enough in
          omega (arith, steps, weights, rest, few);
      same = subst (λ x. Same x (run (added k later.turns) t)) (sym (step_goes n s e s' is on))
          (subst (λ y. Same (func.run world f n s') y) (sym (run_on k later.turns t t' turns)) later.same);
      through = through_on k later.turns t t' turns later.through;
    }

    both_end : (n : ℕ) (s : State) (t : T) (e : StepEnd) (s' : State) (k : ℕ) (t' : T) (outcome : O) → step world f s ≡ (e, s') →
        func.goes_on e ≡ false → Moves k t t' → P t' → turn t' ≡ Ends outcome → counted e ≤ weigh (added k 1) t →
        Same (func.ended f e s') outcome → Reaches (suc n) s t
    both_end n s t e s' k t' outcome is over_there turns as_asked end few same = record {
      turns = added k 1;
      enough = let steps : func.taken_from world f (suc n) s ≡ counted e =
          ap (λ (x : Stepped). func.taken_on x.0 x.1 (func.taken_from world f n)) is ∙ taken_ends n e s' over_there in
          omega (arith, steps, few);
      same = subst (λ x. Same x (run (added k 1) t)) (sym (step_ends n s e s' is over_there))
          (subst (λ y. Same (func.ended f e s') y)
          (sym (run_on k 1 t t' turns ∙ ap (λ x. turned_on x (run 0) (λ outcome. outcome)) end)) same);
      through = through_on k 1 t t' turns (last 0 t' outcome as_asked end);
    }

    -- ---- good runs

    past_by : (n : ℕ) (s : State) (b : Bool) → func.goes_on (step world f s).0 ≡ b →
        ends_past world f (suc n) s ≡ (if b then ends_past world f n (step world f s).1 else is_past f s)
    past_by n s b is = ap (λ b. if b then ends_past world f n (step world f s).1 else is_past f s) is

    -- the outcome of a run is good in the state in which its last step is made, wherever that is
    abbrev GoodAtLast : ℕ → State → Type 0
    GoodAtLast n s = (last : State) → ends_past world f n s ≡ is_past f last → Good last (func.run world f n s)

    good_by : (n : ℕ) (s : State) (b : Bool) → func.goes_on (step world f s).0 ≡ b → GoodAtLast (suc n) s →
        (GoodAtLast n (step world f s).1 → RunsGood n (step world f s).1) → RunsGood (suc n) s
    good_by n s true on good later =
        goes n s on (later (λ last same. subst (Good last) (step_goes n s (step world f s).0 (step world f s).1 refl on)
        (good last (past_by n s true on ∙ same))))
    good_by n s false ends_it good later =
        last_step n s ends_it (subst (Good s) (step_ends n s (step world f s).0 (step world f s).1 refl ends_it)
        (good s (past_by n s false ends_it)))

    pub runs_good : (n : ℕ) (s : State) → GoodAtLast n s → RunsGood n s
    runs_good zero s good = done s
    runs_good (suc n) s good = good_by n s (func.goes_on (step world f s).0) refl good (runs_good n (step world f s).1)

    -- whether a step goes on or not, it ends well where it ends
    ends_well : (n : ℕ) (s : State) → RunsGood (suc n) s → EndsGood s
    ends_well _ _ (goes n s on rest) = vacuous s (step world f s).0 (step world f s).1 refl on
    ends_well _ _ (last_step n s ends_it good) = λ e s' is ends'.
        subst (λ (x : Stepped). Good s (func.ended f x.0 x.1)) is good

    -- what is left of a run behind a step that goes on
    good_behind : (n : ℕ) (s : State) (e : StepEnd) (s' : State) → step world f s ≡ (e, s') → func.goes_on e ≡ true → RunsGood (suc n) s →
        RunsGood n s'
    good_behind _ _ e s' is on (goes n s on' rest) = subst (λ (x : Stepped). RunsGood n x.1) is rest
    good_behind _ _ e s' is on (last_step n s ends_it good) =
        absurd (let both : true ≡ false = sym on ∙ sym (ap (λ (x : Stepped). func.goes_on x.0) is) ∙ ends_it in let no : ⊥ = cc in no)

    -- ---- all runs

    abbrev Later : ℕ → Type 0
    Later n = (s : State) (t : T) → Related s t → RunsGood n s → Reaches n s t

    beside : (n : ℕ) (s : State) (t : T) → RunsGood (suc n) s → Later n → Simulates s t → Reaches (suc n) s t
    beside n s t good later (goes_on e s' k t' is on turns few related) =
        both_go n s t e s' k t' is on turns few (later s' t' related (good_behind n s e s' is on good))
    beside n s t good later (ends_there e s' k t' outcome is ends_it turns as_asked end few same) =
        both_end n s t e s' k t' outcome is ends_it turns as_asked end few same

    -- the machine follows each run that ends well
    pub follow : IsFollowed → (n : ℕ) → Later n
    follow followed zero s t related good = record {
      turns = 0;
      enough = omega arith;
      same = followed.stops s t related;
      through = none t;
    }
    follow followed (suc n) s t related good =
        beside n s t good (follow followed n) (followed.steps s t related (ends_well n s good))
