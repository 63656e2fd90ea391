-- A run in which called functions see other ranges stands as the run does, line by line.
use Rattle.std.proofs.Common.{◌≡◌, ℕ, ◌+◌, ◌-◌, ◌<◌, ◌≤◌, List, [], ◌∷◌, ◌++◌, length, Option, Some, None, refl, sym, ap, subst, ◌∙◌, arith}
use Rattle.std.proofs.lemmas.List.{length-append}
use Rattle.rtx_tree.specs.declared.machine.RangeAt.{RangeAt}
use Rattle.rtx_tree.specs.declared.machine.Reply.{Reply}
use Rattle.rtx_tree.specs.declared.machine.Start.{Start}
use Rattle.rtx_tree.specs.declared.machine.World.{World}
use Rattle.run_memory.specs.RunMemory.{visible}
use Rattle.rv_text.specs.declared.line.Line.{Line}
use Rattle.rv_text.specs.declared.line.CodeItem.{CodeItem}
use Rattle.rv_line.specs.declared.state.RvState.{RvState}
use Rattle.rv_line.specs.declared.state.LineEnd.{LineEnd}
use Rattle.rv_line.specs.declared.state.LineEnd.TheVariants.{Next, Jumped, Called, Returned, Stuck}
use Rattle.rv_line.specs.declared.outcome.CodeCall.{CodeCall}
use Rattle.rv_line.specs.declared.outcome.CodeOutcome.{CodeOutcome}
use Rattle.rv_line.specs.declared.outcome.CodeOutcome.TheVariants as outcomes
use Rattle.rv_line.specs.declared.outcome.CodeStanding.TheVariants as standings
use Rattle.rv_line.specs.Step.{register, step}
use Rattle.rv_line.specs.Run.{Running, Turn, Goes, Ends, after_line, behind_label, call_of, entry, go_on, jumped, next_line, replied, run, run_from, saved_of, turn, turn_at}
use Rattle.rv_line.specs.Standing.{standing_of}
use Rattle.rv_line.specs.machine.Turns.{Turns, after_line_seen, turn_at_seen, turn_seen}
use Rattle.rv_line.proofs.Runs.{one_line, run_starts}

-- ---- where called functions see what the caller does

line_same : (end : LineEnd) (ranges : List RangeAt) (items : List CodeItem) (line : Line) (rest : List CodeItem) (s : Running) → after_line_seen end ranges ranges items line rest s ≡ after_line end ranges items line rest s
line_same Next ranges items line rest s = refl
line_same Jumped ranges items line rest s = refl
line_same (Called target) ranges items line rest s = refl
line_same Returned ranges items line rest s = refl
line_same Stuck ranges items line rest s = refl

at_same : (o : Option (Line × List CodeItem)) (world : World) (ranges : List RangeAt) (items : List CodeItem) (s : Running) → turn_at_seen o world ranges ranges items s ≡ turn_at o world ranges items s
at_same None world ranges items s = refl
at_same (Some next) world ranges items s =
    line_same (step world next.0 s.machine).0 ranges items next.0 next.1 (record s { machine = (step world next.0 s.machine).1 })

pub turns_same : (world : World) (ranges : List RangeAt) (items : List CodeItem) (ended : Option CodeOutcome) (s after : Running) →
    Turns ended after (turn_seen world ranges ranges items s) → Turns ended after (turn world ranges items s)
turns_same world ranges items ended s after =
    subst (λ (t : Turn). Turns ended after t) (at_same (next_line s.rest) world ranges items s)

-- ---- where called functions see other ranges

-- a state with other calls
abbrev with_calls : Running → List CodeCall → Running
with_calls s calls = record s { calls = calls }

-- a turn goes on in a state that is alike, with as many calls
record GoesAlike (a : Running) (b : Turn) : Type 0 where
  calls : List CodeCall
  many : length calls ≡ length a.calls
  is : b ≡ Goes (with_calls a calls)

-- a turn ends with an outcome that is told of alike
record EndsAlike (a : CodeOutcome) (b : Turn) : Type 0 where
  outcome : CodeOutcome
  is : b ≡ Ends outcome
  same : standing_of outcome ≡ standing_of a

abbrev Alike : Turn → Turn → Type 0
Alike (Goes a) b = GoesAlike a b
Alike (Ends a) b = EndsAlike a b

module _ (world : World) (hidden ranges : List RangeAt) (items : List CodeItem) where
  one_more : (before calls : List CodeCall) (a b : CodeCall) → length calls ≡ length before → length (calls ++ b ∷ []) ≡ length (before ++ a ∷ [])
  one_more before calls a b many = length-append calls (b ∷ []) ∙ (ap (λ n. n + 1) many ∙ sym (length-append before (a ∷ [])))

  jumped_alike : (behind : Option (List CodeItem)) (s : Running) (calls : List CodeCall) → length calls ≡ length s.calls → Alike (jumped behind s) (jumped behind (with_calls s calls))
  jumped_alike None s calls many = record { outcome = outcomes.Stuck; is = refl; same = refl }
  jumped_alike (Some rest) s calls many = record { calls = calls; many = many; is = refl }

  replied_alike : (replies : List Reply) (rest : List CodeItem) (s : Running) (calls : List CodeCall) (a b : CodeCall) → length calls ≡ length s.calls →
      Alike (replied replies rest (with_calls s (s.calls ++ a ∷ []))) (replied replies rest (with_calls s (calls ++ b ∷ [])))
  replied_alike [] rest s calls a b many =
      record { outcome = outcomes.Asked (calls ++ b ∷ []); is = refl; same = ap (λ n. standings.Asked n) (one_more s.calls calls a b many) }
  replied_alike (reply ∷ replies) rest s calls a b many = record { calls = calls ++ b ∷ []; many = one_more s.calls calls a b many; is = refl }

  line_alike : (end : LineEnd) (line : Line) (rest : List CodeItem) (s : Running) (calls : List CodeCall) → length calls ≡ length s.calls →
      Alike (after_line_seen end hidden ranges items line rest s) (after_line end ranges items line rest (with_calls s calls))
  line_alike Next line rest s calls many = record { calls = calls; many = many; is = refl }
  line_alike Jumped line rest s calls many = jumped_alike (behind_label line.target items) s calls many
  line_alike (Called target) line rest s calls many = replied_alike s.replies rest s calls (call_of hidden target s.machine) (call_of ranges target s.machine) many
  line_alike Returned line rest s calls many = record {
    outcome = outcomes.Returned (register s.machine.regs 10) (visible ranges s.machine.memory) calls (saved_of s.machine.regs);
    is = refl;
    same = ap (λ n. standings.Returned (register s.machine.regs 10) (visible ranges s.machine.memory) n) many;
  }
  line_alike Stuck line rest s calls many = record { outcome = outcomes.Stuck; is = refl; same = refl }

  at_alike : (o : Option (Line × List CodeItem)) (s : Running) (calls : List CodeCall) → length calls ≡ length s.calls →
      Alike (turn_at_seen o world hidden ranges items s) (turn_at o world ranges items (with_calls s calls))
  at_alike None s calls many = record { outcome = outcomes.Stuck; is = refl; same = refl }
  at_alike (Some next) s calls many =
      line_alike (step world next.0 s.machine).0 next.0 next.1 (record s { machine = (step world next.0 s.machine).1 }) calls many

  turn_alike : (s : Running) (calls : List CodeCall) → length calls ≡ length s.calls → Alike (turn_seen world hidden ranges items s) (turn world ranges items (with_calls s calls))
  turn_alike s calls many = at_alike (next_line s.rest) s calls many

-- ---- runs

-- the lines that are left, with what called functions see and as many calls, come to all
pub record Stands (world : World) (ranges : List RangeAt) (items : List CodeItem) (k : ℕ) (s : Running) (all : CodeOutcome) : Type 0 where
  pub calls : List CodeCall
  pub many : length calls ≡ length s.calls
  pub outcome : run_from world ranges items k (record s { calls = calls }) ≡ all

pub stands_first : (items : List CodeItem) (start : Start) (world : World) (k : ℕ) (machine : RvState) (replies : List Reply) (calls : List CodeCall) → machine ≡ entry start → replies ≡ world.replies → calls ≡ [] →
    Stands world start.visible items (k - 0) (record { rest = items; machine = machine; replies = replies; calls = calls }) (run items start world k)
stands_first items start world k machine replies calls is_entry whole none =
    record { calls = calls; many = refl; outcome = run_starts items start world k machine replies calls is_entry whole none }

module _ (world : World) (hidden ranges : List RangeAt) (items : List CodeItem) (all : CodeOutcome) where
  pub stands_goes : (k i : ℕ) (s after : Running) (ended : Option CodeOutcome) → i < k → ended ≡ None → Turns ended after (turn_seen world hidden ranges items s) →
      Stands world ranges items (k - i) s all → Stands world ranges items (k - (i + 1)) after all
  stands_goes k i s after ended less is turns so_far =
      let P : Option CodeOutcome → Type 0 = λ e. Turns e after (turn_seen world hidden ranges items s) in
      let goes : turn_seen world hidden ranges items s ≡ Goes after = subst P is turns in
      let Q : Turn → Type 0 = λ t. Alike t (turn world ranges items (with_calls s so_far.calls)) in
      let alike : GoesAlike after (turn world ranges items (with_calls s so_far.calls)) = subst Q goes (turn_alike world hidden ranges items s so_far.calls so_far.many) in
      record {
        calls = alike.calls;
        many = alike.many;
        outcome = sym (ap (λ t. go_on t (run_from world ranges items (k - (i + 1)))) alike.is) ∙ one_line world ranges items k i (with_calls s so_far.calls) all less so_far.outcome;
      }

  pub stands_ends : (k i : ℕ) (s after : Running) (ended : Option CodeOutcome) (outcome : CodeOutcome) → i < k → ended ≡ Some outcome → Turns ended after (turn_seen world hidden ranges items s) →
      Stands world ranges items (k - i) s all → standing_of outcome ≡ standing_of all
  stands_ends k i s after ended outcome less is turns so_far =
      let P : Option CodeOutcome → Type 0 = λ e. Turns e after (turn_seen world hidden ranges items s) in
      let ends : turn_seen world hidden ranges items s ≡ Ends outcome = subst P is turns in
      let Q : Turn → Type 0 = λ t. Alike t (turn world ranges items (with_calls s so_far.calls)) in
      let alike : EndsAlike outcome (turn world ranges items (with_calls s so_far.calls)) = subst Q ends (turn_alike world hidden ranges items s so_far.calls so_far.many) in
      sym alike.same ∙ ap standing_of (sym (ap (λ t. go_on t (run_from world ranges items (k - (i + 1)))) alike.is) ∙ one_line world ranges items k i (with_calls s so_far.calls) all less so_far.outcome)

  pub stands_last : (k i : ℕ) (s : Running) → k ≤ i → Stands world ranges items (k - i) s all → standings.Running (length s.calls) ≡ standing_of all
  stands_last k i s past so_far =
      let none : k - i ≡ 0 = omega arith in
      sym (ap (λ n. standings.Running n) so_far.many)
      ∙ (sym (ap (λ n. standing_of (run_from world ranges items n (with_calls s so_far.calls))) none) ∙ ap standing_of so_far.outcome)
