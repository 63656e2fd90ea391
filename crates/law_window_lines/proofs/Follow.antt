-- The items of a function follow each of its runs, from entry on, whatever has to be kept.
use Rattle.std.proofs.Common.{◌≡◌, ℕ, ◌≤◌, arith, List, [], refl, subst}
use Rattle.rtx_tree.specs.declared.machine.Start.{Start}
use Rattle.rtx_tree.specs.declared.machine.World.{World}
use Rattle.rtx_tree.specs.declared.function.Function.{Function}
use Rattle.rtl_step.specs.Regs.{Regs}
use Rattle.rtl_step.specs.declared.step.State.{State}
use Rattle.func_run.specs.Run as func
use Rattle.func_run.specs.declared.outcome.Outcome.{Outcome}
use Rattle.law_function_kept.specs.Ends.{is_past, ends_past}
use Rattle.rv_text.specs.declared.line.CodeItem.{CodeItem}
use Rattle.rv_line.specs.Run as lines
use Rattle.rv_line.specs.Run.{Running}
use Rattle.rv_line.specs.declared.outcome.CodeOutcome.{CodeOutcome}
use Rattle.rv_line.specs.declared.state.RvState.{RvState}
use Rattle.law_window_runs.specs.same_behaviour.Lawful.{IsLawful, IsLawfulWorld, seen_by_rtl}
use Rattle.law_window_runs.specs.same_behaviour.Same.{SameOutcome}
use Rattle.law_window_lines.specs.ForLines.{MarksAreEmpty}
use Rattle.law_window_lines.specs.Items.{AreItemsFrom}
use Rattle.law_window_lines.proofs.Entry.{agrees_at_entry, beside_at_entry}
use Rattle.law_window_lines.proofs.Runs.{step_follows}
use Rattle.law_window_lines.proofs.Simulation as machine
use Rattle.law_window_lines.proofs.Steps as steps
use Rattle.law_window_lines.proofs.Steps.{IsKeeping}
use Rattle.law_window_lines.proofs.Turns as turns
use Rattle.law_window_lines.proofs.Turns.{at, Any, stopped, one}

module _ (number : ℕ) (f : Function) (marks : MarksAreEmpty f) (items : List CodeItem) (frame size : ℕ) (start : Start) (world : World)
    (Keeps : Regs → RvState → Type 0) (Good : State → Outcome → Type 0) where
  abbrev seen : Start
  seen = seen_by_rtl frame size start

  abbrev Related : State → Running → Type 0
  Related s t = steps.Related number f marks items start world Keeps Good s t

  related_at_entry : AreItemsFrom number f 0 f.insns items → f.locals ≤ size → IsLawful frame f.locals start →
      Keeps (func.entry_regs seen) (lines.entry start) → Related (func.entry_of seen) (at items (lines.entry start) world.replies [])
  related_at_entry all holds lawful keeps = record {
    place = record { there = items; are = all; same = refl };
    beside = beside_at_entry frame f.locals size start holds lawful;
    agree = λ reg lives small. agrees_at_entry frame size start reg small;
    visible_is = refl;
    calls_are = (refl, λ i event call is there. absurd (let no : ⊥ = cc in no));
    replies_are = refl;
    entry_is = refl;
    keeps = keeps;
  }

  abbrev Reaches : ℕ → State → Running → Type 0
  Reaches n s t = machine.Reaches Running CodeOutcome (turns.turn world start.visible items) stopped one Any world f Related Good
      (SameOutcome f.result start) n s t

  abbrev pub RunsGood : ℕ → State → Type 0
  RunsGood n s = machine.RunsGood Running CodeOutcome (turns.turn world start.visible items) stopped one Any world f Related Good
      (SameOutcome f.result start) n s

  -- a run ends well, where its outcome is good in the state in which its last step is made
  pub good_runs : (n : ℕ) →
      ((last : State) → ends_past world f n (func.entry_of seen) ≡ is_past f last → Good last (func.run_of f seen world n)) →
      RunsGood n (func.entry_of seen)
  good_runs n good = machine.runs_good Running CodeOutcome (turns.turn world start.visible items) stopped one Any world f Related Good
      (SameOutcome f.result start) n (func.entry_of seen) good

  reached : (n : ℕ) → Reaches n (func.entry_of seen) (at items (lines.entry start) world.replies []) →
      (k : ℕ) × (func.taken f seen world n ≤ k) × SameOutcome f.result start (func.run_of f seen world n) (lines.run items start world k)
  reached n reaches =
      let few = turns.weigh_few world start.visible items reaches.turns (at items (lines.entry start) world.replies []) in
      let enough = reaches.enough in (
        reaches.turns,
        omega (arith, few, enough),
        subst (SameOutcome f.result start (func.run_of f seen world n))
            (turns.run_is world start.visible items reaches.turns (at items (lines.entry start) world.replies [])) reaches.same,
      )

  pub follows : AreItemsFrom number f 0 f.insns items → f.locals ≤ size → IsLawful frame f.locals start →
      IsLawfulWorld start world → IsKeeping number f marks items start world Keeps Good →
      Keeps (func.entry_regs seen) (lines.entry start) → (n : ℕ) → RunsGood n (func.entry_of seen) →
      (k : ℕ) × (func.taken f seen world n ≤ k) × SameOutcome f.result start (func.run_of f seen world n) (lines.run items start world k)
  follows all holds lawful lawful_world keeping keeps n good = reached n (
      machine.follow Running CodeOutcome (turns.turn world start.visible items) stopped one Any world f Related Good
      (SameOutcome f.result start)
      (record {
        stops = λ s t related. related.calls_are;
        steps = step_follows number f marks items start world Keeps Good all lawful_world keeping;
      }) n (func.entry_of seen) (at items (lines.entry start) world.replies []) (related_at_entry all holds lawful keeps) good)
