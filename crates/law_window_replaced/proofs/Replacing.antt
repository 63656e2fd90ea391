-- A function with instructions in the place of a window does what the function did.
use Rattle.std.proofs.Common.{◌≡◌, ◌≢◌, ℕ, ◌+◌, ◌-◌, ◌≤◌, ◌<◌, arith, drop, take, length, List, [], ◌∷◌, ◌++◌, refl, sym, ap, subst, ◌∙◌, if◌then◌else◌, true}
use Rattle.std.proofs.lemmas.List.{take-append-drop, length-take-le, length-drop, drop-drop}
use Rattle.rtx_tree.specs.declared.function.Function.{Function}
use Rattle.rtx_tree.specs.declared.function.Insn.{Insn}
use Rattle.rtl_step.specs.Step.{step}
use Rattle.rtl_step.specs.declared.step.State.{State}
use Rattle.func_run.specs.Run.{entry_of, run_of}
use Rattle.func_run.specs.declared.outcome.Outcome.TheVariants as outcomes
use Rattle.live.specs.Live.{IsLiveAfter}
use Rattle.new_insns.specs.Replaced.{window, replaced}
use Rattle.law_function_kept.specs.Ends.{is_past, ends_past, EndsAtExit}
use Rattle.law_function_kept.specs.Keeps.{IsMachineStart, Keeps, KeepsRun}
use Rattle.law_function_kept.specs.Outcomes.{SameEvents, SameOutcome}
use Rattle.law_kept_composed.proofs.Events.{events_refl}
use Rattle.law_window_kept.specs.Same.{CanReplace}
use Rattle.law_window_lines.specs.ForLines.{MarksAreEmpty}
use Rattle.law_window_lines.proofs.Simulation as machine
use Rattle.law_window_replaced.specs.Natural.{RegistersAreNatural}
use Rattle.law_window_replaced.specs.Replaced as parts
use Rattle.law_window_replaced.specs.Replaced.{AreReplaced}
use Rattle.law_window_replaced.proofs.Ends.{runs_too, over, once, Reached, here, next, from_first}
use Rattle.law_window_replaced.proofs.Machine.{End, turn, stop, weight, Any, run_is, weigh_is}
use Rattle.law_window_replaced.proofs.Setting.{Setting, new_of, Alike, Related, outside, inside, HasValue, SameEnding, Past, Simulates, EndsWell}
use Rattle.law_window_replaced.proofs.Stands.{stands_at}
use Rattle.law_window_replaced.proofs.Walk.{step_follows}

-- ---- the runs

module _ (c : Setting) where
  told_same : (s t : State) → Related c s t → SameEvents s.calls t.calls
  told_same s t (outside xs ys q other both stands stands' alike) = alike.calls_are
  told_same s t (inside w s0 rest q other wait) = subst (λ calls. SameEvents calls t.calls) (sym wait.calls_are) wait.alike.calls_are

  at_entry : IsMachineStart c.start → Alike c 0 (entry_of c.start) (entry_of c.start)
  at_entry is = record {
    live = λ reg lives w v known. known;
    kept = λ reg kept unset w v known. known;
    memory_is = refl;
    visible_is = refl;
    calls_are = events_refl [];
    is_memory = is.memory;
  }

  related_at_entry : IsMachineStart c.start → Related c (entry_of c.start) (entry_of c.start)
  related_at_entry is =
      outside c.f.insns c.insns 0 0 c.replaced (stands_at c.f.insns 0 c.f.insns refl (omega arith))
      (stands_at (new_of c).insns 0 c.insns refl (omega arith)) (at_entry is)

  -- ---- the states of the old run

  abbrev IsReached : State → Type 0
  IsReached s = Reached c.world c.f (entry_of c.start) s

  -- beside each other, and the old one is one of its run
  abbrev Follows : State → State → Type 0
  Follows s t = Related c s t × IsReached s

  ends_well : (s : State) → IsReached s →
      machine.EndsGood State End (turn c.world (new_of c)) (stop c.world (new_of c)) (weight c.world (new_of c)) (Any c.world (new_of c))
      c.world c.f Follows HasValue (SameEnding c) s → EndsWell c s
  ends_well s reached good = record {
    good = good;
    past = λ is over. from_first c.world c.f (entry_of c.start) s reached 1
        (ap (λ b. if b then ends_past c.world c.f 0 (step c.world c.f s).1 else is_past c.f s) over ∙ is);
  }

  abbrev SimulatesOn : State → State → Type 0
  SimulatesOn s t = machine.Simulates State End (turn c.world (new_of c)) (stop c.world (new_of c)) (weight c.world (new_of c))
      (Any c.world (new_of c)) c.world c.f Follows HasValue (SameEnding c) s t

  reached_on : (s t : State) → IsReached s → Simulates c s t → SimulatesOn s t
  reached_on s t reached (machine.goes_on e s' k t' stepped on more few related) =
      machine.goes_on e s' k t' stepped on more few (related, next s s' e reached stepped on)
  reached_on s t reached (machine.ends_there e s' k t' outcome stepped over more asked end few done) =
      machine.ends_there e s' k t' outcome stepped over more asked end few done

  abbrev Reaches : ℕ → State → State → Type 0
  Reaches n s t = machine.Reaches State End (turn c.world (new_of c)) (stop c.world (new_of c)) (weight c.world (new_of c))
      (Any c.world (new_of c)) c.world c.f Follows HasValue (SameEnding c) n s t

  runs_good : (n : ℕ) → run_of c.f c.start c.world n ≢ outcomes.Undefined →
      machine.RunsGood State End (turn c.world (new_of c)) (stop c.world (new_of c)) (weight c.world (new_of c)) (Any c.world (new_of c))
      c.world c.f Follows HasValue (SameEnding c) n (entry_of c.start)
  runs_good n some =
      machine.runs_good State End (turn c.world (new_of c)) (stop c.world (new_of c)) (weight c.world (new_of c))
      (Any c.world (new_of c)) c.world c.f Follows HasValue (SameEnding c) n (entry_of c.start) (λ last same. some)

  reaches : (n : ℕ) → IsMachineStart c.start → run_of c.f c.start c.world n ≢ outcomes.Undefined →
      Reaches n (entry_of c.start) (entry_of c.start)
  reaches n is some =
      machine.follow State End (turn c.world (new_of c)) (stop c.world (new_of c)) (weight c.world (new_of c))
      (Any c.world (new_of c)) c.world c.f Follows HasValue (SameEnding c)
      (record {
        stops = λ s t follows. (told_same s t follows.0, λ no. absurd (let none : ⊥ = cc in none));
        steps = λ s t follows good. reached_on s t follows.1 (step_follows c s t follows.0 (ends_well s follows.1 good));
      }) n (entry_of c.start) (entry_of c.start) (related_at_entry is, here) (runs_good n some)

  -- the new run has ended past its last instruction only where the old one has
  ends_only : (n m : ℕ) → SameOutcome (run_of c.f c.start c.world n) (run_of (new_of c) c.start c.world m) →
      (EndsAtExit (new_of c) c.start c.world m → Past c) → EndsAtExit (new_of c) c.start c.world m → EndsAtExit c.f c.start c.world n
  ends_only n m same past ends_there =
      let sooner = past ends_there in
      once c.world c.f n sooner.0 (entry_of c.start)
      (λ runs. over c.world (new_of c) m (entry_of c.start) ends_there
      (runs_too (run_of c.f c.start c.world n) (run_of (new_of c) c.start c.world m) same runs)) sooner.1

  runs_keep : (n : ℕ) → IsMachineStart c.start → KeepsRun c.f (new_of c) c.start c.world n
  runs_keep n is some =
      let there = reaches n is some in
      let enough = there.enough in
      let weights = weigh_is c.world (new_of c) there.turns (entry_of c.start) in
      let both : SameEnding c (run_of c.f c.start c.world n)
      (run_of (new_of c) c.start c.world there.turns, ends_past c.world (new_of c) there.turns (entry_of c.start)) =
      subst (SameEnding c (run_of c.f c.start c.world n)) (run_is c.world (new_of c) there.turns (entry_of c.start)) there.same in (
        there.turns,
        omega (arith, enough, weights),
        both.0,
        ends_only n there.turns both.0 both.1,
      )

-- ---- windows of a function

-- A chain with other instructions in the place of windows of a function, whose labels and barriers define nothing and whose registers
-- have natural numbers, does what the function did.
pub all_replaced : (f : Function) (insns : List Insn) → MarksAreEmpty f → RegistersAreNatural f → AreReplaced f 0 f.insns insns →
    Keeps f (record f { insns = insns })
all_replaced f insns marks natural replaced = record {
  locals_are = refl;
  result_is = refl;
  runs = λ start world n is world_is. runs_keep (record {
    f = f;
    insns = insns;
    replaced = replaced;
    marks = marks;
    natural = natural;
    start = start;
    world = world;
    world_is = world_is;
  }) n is;
}

-- ---- one window

all_stay : (f : Function) (xs : List Insn) (place : ℕ) → AreReplaced f place xs xs
all_stay f [] place = parts.end place
all_stay f (i ∷ xs) place = parts.stays place i xs xs (all_stay f xs (place + 1))

-- instructions stay before a window
behind_front : (f : Function) (front xs ys : List Insn) (place : ℕ) → AreReplaced f (place + length front) xs ys →
    AreReplaced f place (front ++ xs) (front ++ ys)
behind_front f [] xs ys place rest = subst (λ p. AreReplaced f p xs ys)
    (let none : place + 0 ≡ place = omega arith in none) rest
behind_front f (i ∷ front) xs ys place rest =
    parts.stays place i (front ++ xs) (front ++ ys) (behind_front f front xs ys (place + 1)
    (subst (λ p. AreReplaced f p xs ys)
    (let one : place + length (i ∷ front) ≡ place + 1 + length front = omega arith in one) rest))

module _ (f : Function) (first end : ℕ) (less : first < end) (within : end ≤ length f.insns) where
  dropped : drop (end - first) (drop first f.insns) ≡ drop end f.insns
  dropped = drop-drop (end - first) first f.insns ∙
      ap (λ n. drop n f.insns) (let all : first + (end - first) ≡ end = omega (arith, less) in all)

  chain_splits : f.insns ≡ take first f.insns ++ (window f first end ++ drop end f.insns)
  chain_splits = sym (take-append-drop first f.insns) ∙ ap (λ rest. take first f.insns ++ rest)
      (sym (take-append-drop (end - first) (drop first f.insns)) ∙ ap (λ rest. window f first end ++ rest) dropped)

  front_long : length (take first f.insns) ≡ first
  front_long = length-take-le first f.insns (omega (arith, less, within))

  window_long : length (window f first end) ≡ end - first
  window_long = length-take-le (end - first) (drop first f.insns)
      (let rest = length-drop first f.insns in omega (arith, less, within, rest))

  one_window : (new : List Insn) → CanReplace (window f first end) new (λ reg. IsLiveAfter f reg (end - 1)) →
      AreReplaced f 0 f.insns (take first f.insns ++ (new ++ drop end f.insns))
  one_window new replace =
      let front = front_long in let long = window_long in
      subst (λ xs. AreReplaced f 0 xs (take first f.insns ++ (new ++ drop end f.insns))) (sym chain_splits)
      (behind_front f (take first f.insns) (window f first end ++ drop end f.insns) (new ++ drop end f.insns) 0
      (parts.window (0 + length (take first f.insns)) (window f first end) new (drop end f.insns) (drop end f.insns)
      (omega (arith, less, long))
      (subst (λ n. CanReplace (window f first end) new (λ reg. IsLiveAfter f reg n))
      (let last : end - 1 ≡ 0 + length (take first f.insns) + length (window f first end) - 1 = omega (arith, less, front, long) in last)
      replace)
      (all_stay f (drop end f.insns) (0 + length (take first f.insns) + length (window f first end)))))

-- Instructions that can stand in the place of a window of a function, whose labels and barriers define nothing and whose registers have
-- natural numbers, keep what it does.
pub replaced_keeps : (f : Function) (first end : ℕ) (new : List Insn) → first < end → end ≤ length f.insns → MarksAreEmpty f →
    RegistersAreNatural f → CanReplace (window f first end) new (λ reg. IsLiveAfter f reg (end - 1)) → Keeps f (replaced f first end new)
replaced_keeps f first end new less within marks natural replace =
    all_replaced f (take first f.insns ++ (new ++ drop end f.insns)) marks natural (one_window f first end less within new replace)
