-- The run of lines as that of a machine that takes turns, and the turns of a window: its lines are so many turns, and then it has ended as
-- the window ends.
use Rattle.std.proofs.Common.{◌≡◌, ℕ, zero, suc, ◌≤◌, ◌⊎◌, inl, inr, ⊎_elim, arith, ◌&&◌, ◌==◌, not, Bool, true, false, List, [], ◌∷◌, ◌++◌, map, Option, Some, None, refl, sym, ap, subst, ◌∙◌}
use Rattle.std.specs.Prelude.{if◌then◌else◌}
use Rattle.rtx_tree.specs.declared.machine.RangeAt.{RangeAt}
use Rattle.rtx_tree.specs.declared.machine.Reply.{Reply}
use Rattle.rtx_tree.specs.declared.machine.World.{World}
use Rattle.rtx_tree.specs.declared.memories.MemByte.{MemByte}
use Rattle.rv_text.specs.Lines.{action_of}
use Rattle.rv_text.specs.declared.action.Action.{Action}
use Rattle.rv_text.specs.declared.action.Action.TheVariants as action
use Rattle.rv_text.specs.declared.line.Line.{Line}
use Rattle.rv_text.specs.declared.line.CodeItem.{CodeItem}
use Rattle.rv_text.specs.declared.line.CodeItem.TheVariants.{Code}
use Rattle.rv_line.specs.Step.{step, step_as, set_rd, set_memory, branch_end, return_end}
use Rattle.rv_line.specs.Run as lines
use Rattle.rv_line.specs.Run.{Running, behind_label, next_line}
use Rattle.rv_line.specs.declared.outcome.CodeCall.{CodeCall}
use Rattle.rv_line.specs.declared.outcome.CodeOutcome.{CodeOutcome}
use Rattle.rv_line.specs.declared.outcome.CodeOutcome.TheVariants as outcomes
use Rattle.rv_line.specs.declared.state.RvState.{RvState}
use Rattle.rv_line.specs.declared.state.LineEnd.{LineEnd}
use Rattle.rv_line.specs.declared.state.LineEnd.TheVariants as ends
use Rattle.law_window_runs.specs.Lines as window
use Rattle.law_window_runs.specs.Lines.{LinesEnd, LinesCome, lines_come, line_goes_on}
use Rattle.law_window_lines.specs.Items.{is_call, calls_last}
use Rattle.law_window_lines.proofs.Simulation as machine
use Rattle.law_window_lines.proofs.Simulation.{Turned, turned_on}
use Rattle.law_window_lines.proofs.Small.{and_right}

-- a turn of the run of lines
abbrev pub turned_as : lines.Turn → Turned Running CodeOutcome
turned_as (lines.Goes s) = machine.Goes s
turned_as (lines.Ends outcome) = machine.Ends outcome

abbrev pub at : List CodeItem → RvState → List Reply → List CodeCall → Running
at rest m replies calls = record { rest = rest; machine = m; replies = replies; calls = calls }

-- of each state nothing is asked
abbrev pub Any : Running → Type 0
Any s = Unit {0}

abbrev pub stopped : Running → CodeOutcome
stopped s = outcomes.Running s.calls

abbrev pub one : Running → ℕ
one s = 1

-- ---- a line that calls

set_calls_none : (m : RvState) (line : Line) (value : Option ℕ) (target : ℕ) → (set_rd m line value).0 ≡ ends.Called target → ⊥
set_calls_none m line None target is = cc
set_calls_none m line (Some value) target is = cc

memory_calls_none : (m : RvState) (memory : Option (List MemByte)) (target : ℕ) → (set_memory m memory).0 ≡ ends.Called target → ⊥
memory_calls_none m None target is = cc
memory_calls_none m (Some memory) target is = cc

branch_calls_none : (holds : Option Bool) (target : ℕ) → branch_end holds ≡ ends.Called target → ⊥
branch_calls_none None target is = cc
branch_calls_none (Some true) target is = cc
branch_calls_none (Some false) target is = cc

chosen_calls_none : (b : Bool) (target : ℕ) → (if b then ends.Returned else ends.Stuck) ≡ ends.Called target → ⊥
chosen_calls_none true target is = cc
chosen_calls_none false target is = cc

return_calls_none : (entry_ra : ℕ) (value : Option ℕ) (target : ℕ) → return_end entry_ra value ≡ ends.Called target → ⊥
return_calls_none entry_ra None target is = cc
return_calls_none entry_ra (Some ra) target is = chosen_calls_none (ra == entry_ra) target is

calls_as : (a : Option Action) (world : World) (line : Line) (m : RvState) (target : ℕ) → (step_as a world line m).0 ≡ ends.Called target →
    is_call a ≡ true
calls_as None world line m target is = absurd (let no : ⊥ = cc in no)
calls_as (Some (action.Compute operation w left right)) world line m target is = absurd (set_calls_none m line _ target is)
calls_as (Some (action.Load w extension)) world line m target is = absurd (set_calls_none m line _ target is)
calls_as (Some (action.Store w)) world line m target is = absurd (memory_calls_none m _ target is)
calls_as (Some action.SymbolAddress) world line m target is = absurd (set_calls_none m line _ target is)
calls_as (Some (action.Branch comparison left right)) world line m target is = absurd (branch_calls_none _ target is)
calls_as (Some action.Jump) world line m target is = absurd (let no : ⊥ = cc in no)
calls_as (Some action.Call) world line m target is = refl
calls_as (Some action.CallRegister) world line m target is = refl
calls_as (Some (action.Return through)) world line m target is = absurd (return_calls_none m.entry_ra _ target is)

-- nothing stands behind it
alone : (line l : Line) (ls : List Line) → is_call (action_of line) ≡ true → calls_last (line ∷ l ∷ ls) ≡ true → ⊥
alone line l ls calls last =
    let both : not true && calls_last (l ∷ ls) ≡ true = sym (ap (λ b. not b && calls_last (l ∷ ls)) calls) ∙ last in cc

last_behind : (line : Line) (ls : List Line) → calls_last (line ∷ ls) ≡ true → calls_last ls ≡ true
last_behind line [] last = refl
last_behind line (l ∷ ls) last = and_right (not (is_call (action_of line))) (calls_last (l ∷ ls)) last

module _ (world : World) (ranges : List RangeAt) (items : List CodeItem) where
  abbrev pub turn : Running → Turned Running CodeOutcome
  turn s = turned_as (lines.turn world ranges items s)

  abbrev pub Moves : ℕ → Running → Running → Type 0
  Moves k s s' = machine.Moves Running CodeOutcome turn stopped one Any k s s'

  -- ---- the run

  on_turn : (x : lines.Turn) (next next' : Running → CodeOutcome) → ((s : Running) → next s ≡ next' s) →
      turned_on (turned_as x) next (λ outcome. outcome) ≡ lines.go_on x next'
  on_turn (lines.Goes s) next next' same = same s
  on_turn (lines.Ends outcome) next next' same = refl

  pub run_is : (k : ℕ) (s : Running) → machine.run Running CodeOutcome turn stopped one Any k s ≡ lines.run_from world ranges items k s
  run_is zero s = refl
  run_is (suc k) s = on_turn (lines.turn world ranges items s) (machine.run Running CodeOutcome turn stopped one Any k)
      (lines.run_from world ranges items k) (run_is k)

  weigh_turn : (x : lines.Turn) (weigh : Running → ℕ) (k : ℕ) → ((s : Running) → weigh s ≤ k) →
      turned_on (turned_as x) weigh (λ outcome. 0) ≤ k
  weigh_turn (lines.Goes s) weigh k few = few s
  weigh_turn (lines.Ends outcome) weigh k few = omega arith

  -- so many turns weigh no more
  pub weigh_few : (k : ℕ) (s : Running) → machine.weigh Running CodeOutcome turn stopped one Any k s ≤ k
  weigh_few zero s = omega arith
  weigh_few (suc k) s =
      let rest = weigh_turn (lines.turn world ranges items s) (machine.weigh Running CodeOutcome turn stopped one Any k) k (weigh_few k) in
      omega (arith, rest)

  -- ---- a window

  module _ (replies : List Reply) (made : List CodeCall) where
    abbrev here : List CodeItem → RvState → Running
    here rest m = at rest m replies made

    -- From a state so many turns lead to a machine and past the window, up to labels; to a label; to a call, where the reply decides; or
    -- to a return.
    pub data Passes (rest : List CodeItem) (before : RvState) (more : List CodeItem) (m : RvState) : LinesEnd → Type 0 where
      falls : (k : ℕ) (more' : List CodeItem) → next_line more' ≡ next_line more → Moves k (here rest before) (here more' m) →
          Passes rest before more m window.Falls
      goes : (k : ℕ) (rest' : List CodeItem) (m' : RvState) (target : List ℕ) → Moves k (here rest before) (here rest' m') →
          turn (here rest' m') ≡ turned_as (lines.jumped (behind_label target items) (here [] m)) →
          Passes rest before more m (window.Goes target)
      calls : (k : ℕ) (rest' : List CodeItem) (m' : RvState) (target : ℕ) → Moves k (here rest before) (here rest' m') →
          turn (here rest' m') ≡ turned_as (lines.called ranges target more (here [] m)) → Passes rest before more m (window.Calls target)
      returns : Passes rest before more m window.Returns

    one_more : (rest rest' : List CodeItem) (before before' : RvState) (more : List CodeItem) (m : RvState) (e : LinesEnd) →
        turn (here rest before) ≡ machine.Goes (here rest' before') → Passes rest' before' more m e → Passes rest before more m e
    one_more rest rest' before before' more m _ is (falls k more' same turns) =
        falls (suc k) more' same (machine.moves k (here rest before) (here rest' before') (here more' m) tt is turns)
    one_more rest rest' before before' more m _ is (goes k last m' target turns end) =
        goes (suc k) last m' target (machine.moves k (here rest before) (here rest' before') (here last m') tt is turns) end
    one_more rest rest' before before' more m _ is (calls k last m' target turns end) =
        calls (suc k) last m' target (machine.moves k (here rest before) (here rest' before') (here last m') tt is turns) end
    one_more rest rest' before before' more m _ is returns = returns

    -- a turn at a line; what stood there before does not matter
    jumped_alike : (behind : Option (List CodeItem)) (rest : List CodeItem) (m : RvState) →
        lines.jumped behind (here rest m) ≡ lines.jumped behind (here [] m)
    jumped_alike None rest m = refl
    jumped_alike (Some behind) rest m = refl

    replied_alike : (left : List Reply) (more rest : List CodeItem) (m : RvState) (now : List CodeCall) →
        lines.replied left more (at rest m left now) ≡ lines.replied left more (at [] m left now)
    replied_alike [] more rest m now = refl
    replied_alike (reply ∷ left) more rest m now = refl

    line_alike : (e : LineEnd) (line : Line) (more rest : List CodeItem) (m : RvState) →
        lines.after_line e ranges items line more (here rest m) ≡ lines.after_line e ranges items line more (here [] m)
    line_alike ends.Next line more rest m = refl
    line_alike ends.Jumped line more rest m = jumped_alike (behind_label line.target items) rest m
    line_alike (ends.Called target) line more rest m = replied_alike replies more rest m (made ++ lines.call_of ranges target m ∷ [])
    line_alike ends.Returned line more rest m = refl
    line_alike ends.Stuck line more rest m = refl

    pub line_turns : (rest : List CodeItem) (line : Line) (more : List CodeItem) (m after : RvState) (e : LineEnd) →
        next_line rest ≡ Some (line, more) → step world line m ≡ (e, after) →
        turn (here rest m) ≡ turned_as (lines.after_line e ranges items line more (here [] after))
    line_turns rest line more m after e next is =
        ap (λ o. turned_as (lines.turn_at o world ranges items (here rest m))) next ∙
        ap (λ (d : LineEnd × RvState). turned_as (lines.after_line d.0 ranges items line more (here rest d.1))) is ∙
        ap turned_as (line_alike e line more rest after)

    turn_by : (o : Option (Line × List CodeItem)) (rest rest' : List CodeItem) (m : RvState) →
        lines.turn_at o world ranges items (here rest m) ≡ lines.turn_at o world ranges items (here rest' m)
    turn_by None rest rest' m = refl
    turn_by (Some next) rest rest' m = let done = step world next.0 m in
        line_alike done.0 next.0 next.1 rest done.1 ∙ sym (line_alike done.0 next.0 next.1 rest' done.1)

    -- labels in front take no turn
    turn_alike : (rest rest' : List CodeItem) (m : RvState) → next_line rest ≡ next_line rest' → turn (here rest m) ≡ turn (here rest' m)
    turn_alike rest rest' m same = ap turned_as
        (ap (λ o. lines.turn_at o world ranges items (here rest m)) same ∙ turn_by (next_line rest') rest rest' m)

    -- turns that begin where another turn comes to the same
    begun : (k : ℕ) (s t : Running) → Moves k s t → (s ≡ t) ⊎ ((s' : Running) → turn s' ≡ turn s → Moves k s' t)
    begun _ s _ (machine.stays _) = inl refl
    begun _ s t (machine.moves k _ t' _ asked is turns) = inr (λ s' same. machine.moves k s' t' t tt (same ∙ is) turns)

    rest_in : (rest rest' : List CodeItem) (m m' : RvState) → here rest m ≡ here rest' m' → rest ≡ rest'
    rest_in rest rest' m m' same = ap (λ (s : Running). s.rest) same

    machine_in : (rest rest' : List CodeItem) (m m' : RvState) → here rest m ≡ here rest' m' → m ≡ m'
    machine_in rest rest' m m' same = ap (λ (s : Running). s.machine) same

    pub alike : (rest rest' : List CodeItem) (before : RvState) (more : List CodeItem) (m : RvState) (e : LinesEnd) →
        next_line rest' ≡ next_line rest → Passes rest before more m e → Passes rest' before more m e
    alike rest rest' before more m _ next (falls k more' same turns) = ⊎_elim
        (λ none. falls 0 rest' (next ∙ ap next_line (rest_in rest more' before m none) ∙ same)
        (subst (λ m. Moves 0 (here rest' before) (here rest' m)) (machine_in rest more' before m none) (machine.stays (here rest' before))))
        (λ some. falls k more' same (some (here rest' before) (turn_alike rest' rest before next)))
        (begun k (here rest before) (here more' m) turns)
    alike rest rest' before more m _ next (goes k last m' target turns end) = ⊎_elim
        (λ none. goes 0 rest' before target (machine.stays (here rest' before)) (turn_alike rest' rest before next ∙ ap turn none ∙ end))
        (λ some. goes k last m' target (some (here rest' before) (turn_alike rest' rest before next)) end)
        (begun k (here rest before) (here last m') turns)
    alike rest rest' before more m _ next (calls k last m' target turns end) = ⊎_elim
        (λ none. calls 0 rest' before target (machine.stays (here rest' before)) (turn_alike rest' rest before next ∙ ap turn none ∙ end))
        (λ some. calls k last m' target (some (here rest' before) (turn_alike rest' rest before next)) end)
        (begun k (here rest before) (here last m') turns)
    alike rest rest' before more m _ next returns = returns

    as_done : (rest : List CodeItem) (before : RvState) (more : List CodeItem) (came done : LinesCome) → Some came ≡ Some done →
        Passes rest before more came.machine came.ending → Passes rest before more done.machine done.ending
    as_done rest before more came done is passes = let same : came ≡ done = cc in
        subst (λ (c : LinesCome). Passes rest before more c.machine c.ending) same passes

    at_call : (line : Line) (ls : List Line) (more : List CodeItem) (m after : RvState) (target : ℕ) → calls_last (line ∷ ls) ≡ true →
        step world line m ≡ (ends.Called target, after) → Passes (Code line ∷ (map Code ls ++ more)) m more after (window.Calls target)
    at_call line [] more m after target last is =
        calls 0 (Code line ∷ more) m target (machine.stays (here (Code line ∷ more) m))
        (line_turns (Code line ∷ more) line more m after (ends.Called target) refl is)
    at_call line (l ∷ ls) more m after target last is =
        absurd (alone line l ls (calls_as (action_of line) world line m target (ap (λ (d : LineEnd × RvState). d.0) is)) last)

    abbrev PassesLines : List Line → Type 0
    PassesLines ls = (more : List CodeItem) (m : RvState) (done : LinesCome) → calls_last ls ≡ true → lines_come world ls m ≡ Some done →
        Passes (map Code ls ++ more) m more done.machine done.ending

    by_end : (line : Line) (ls : List Line) (more : List CodeItem) (m after : RvState) (e : LineEnd) (done : LinesCome) →
        calls_last (line ∷ ls) ≡ true → step world line m ≡ (e, after) → line_goes_on e line after (lines_come world ls) ≡ Some done →
        PassesLines ls → Passes (Code line ∷ (map Code ls ++ more)) m more done.machine done.ending
    by_end line ls more m after ends.Next done last is comes later =
        let whole : List CodeItem = Code line ∷ (map Code ls ++ more) in
        one_more whole (map Code ls ++ more) m after more done.machine done.ending
        (line_turns whole line (map Code ls ++ more) m after ends.Next refl is) (later more after done (last_behind line ls last) comes)
    by_end line ls more m after ends.Jumped done last is comes later =
        let whole : List CodeItem = Code line ∷ (map Code ls ++ more) in
        as_done whole m more (window.come_to after (window.Goes line.target)) done comes
        (goes 0 whole m line.target (machine.stays (here whole m)) (line_turns whole line
        (map Code ls ++ more) m after ends.Jumped refl is))
    by_end line ls more m after (ends.Called target) done last is comes later =
        as_done (Code line ∷ (map Code ls ++ more)) m more (window.come_to after (window.Calls target)) done comes
        (at_call line ls more m after target last is)
    by_end line ls more m after ends.Returned done last is comes later =
        as_done (Code line ∷ (map Code ls ++ more)) m more (window.come_to after window.Returns) done comes returns
    by_end line ls more m after ends.Stuck done last is comes later = absurd (let no : ⊥ = cc in no)

    -- the lines of a window are so many turns
    pub passes : (ls : List Line) → PassesLines ls
    passes [] more m done last comes =
        as_done more m more (window.come_to m window.Falls) done comes (falls 0 more refl (machine.stays (here more m)))
    passes (line ∷ ls) more m done last comes =
        by_end line ls more m (step world line m).1 (step world line m).0 done last refl comes (passes ls)
