-- All passes together: lines that stand for the last function have the behaviour of the first.
use Rattle.std.proofs.Common.{◌≡◌, ℕ, ◌≤◌, arith, List, refl, sym, ap, subst, ◌∙◌}
use Rattle.rtx_tree.specs.declared.function.Function.{Function}
use Rattle.rtx_tree.specs.declared.machine.Start.{Start}
use Rattle.rtx_tree.specs.declared.machine.World.{World}
use Rattle.func_run.specs.Run.{run_of, taken}
use Rattle.func_run.specs.declared.outcome.Outcome.{Outcome}
use Rattle.rv_text.specs.declared.line.CodeItem.{CodeItem}
use Rattle.rv_line.specs.Run as lines
use Rattle.rv_line.specs.declared.outcome.CodeOutcome.{CodeOutcome}
use Rattle.same_behaviour.specs.Lawful.{IsLawful, IsLawfulWorld, seen_by_rtl}
use Rattle.same_behaviour.specs.Same as same
use Rattle.same_behaviour.specs.Same.{Same, SameFrom}
use Rattle.law_function_kept.specs.Keeps.{Keeps}
use Rattle.law_kept_composed.proofs.Keeping.{has_value}
use Rattle.law_kept_composed.proofs.Lines.{seen_is_machine, world_is_machine, outcome_too}
use Rattle.assign.specs.declared.places.Layout.{Layout}
use Rattle.frame.specs.law_frame.Keeps.{Restores}
use Rattle.law_reload.specs.Keeps.{KeepsWithFrame}
use Rattle.law_window_lines.specs.Left.{SameWhereLeft}
use Rattle.law_passes.proofs.Nearer.{near_seen, near_lawful, near_world, near_machine}
use Rattle.law_passes.proofs.Restored.{run_has, left_as_found, restored_value, restored_too}

-- f0 is the function that was read, f3 that behind lowering and the first split, f5 that with homes and its frame, and f6 that behind the
-- second split
module _ (f0 f3 f5 f6 : Function) (layout : Layout) (items : List CodeItem) (keeps : Keeps f0 f3) (fits : f3.locals ≤ layout.size)
    (framed : KeepsWithFrame f3 layout f5) (locals_are : f5.locals ≡ f3.locals) (result_is : f5.result ≡ f3.result) (splits : Keeps f5 f6)
    (lines_do : SameWhereLeft f6 items) where
  all_locals : f6.locals ≡ f0.locals
  all_locals = splits.locals_are ∙ locals_are ∙ keeps.locals_are

  one_result : f6.result ≡ f0.result
  one_result = splits.result_is ∙ result_is ∙ keeps.result_is

  locals_fit : f0.locals ≤ layout.size
  locals_fit = subst (λ l. l ≤ layout.size) keeps.locals_are fits

  -- from one start
  from_start : (frame : ℕ) (start : Start) (world : World) (n : ℕ) → layout.size ≤ frame → IsLawful frame f0.locals start →
      IsLawfulWorld start world → SameFrom frame f0 items start world n
  from_start frame start world n enough lawful lawful_world some =
      let size : ℕ = layout.size in
      let seen : Start = seen_by_rtl frame f0.locals start in
      let near : Start = seen_by_rtl frame size start in
      let near_is : IsLawful size f0.locals near = near_lawful frame size f0.locals start locals_fit enough lawful in
      let seen_is : seen_by_rtl size f3.locals near ≡ seen =
      ap (λ l. seen_by_rtl size l near) keeps.locals_are ∙ near_seen frame size f0.locals start locals_fit enough in
      let one = keeps.runs seen world n (seen_is_machine frame f0.locals start lawful) (world_is_machine start world lawful_world) some in
      let first : Outcome = run_of f0 seen world n in
      let second : Outcome = run_of f3 seen world one.0 in
      let two = framed near world one.0 (subst (λ l. IsLawful size l near) (sym keeps.locals_are) near_is)
      (near_world frame size f0.locals start locals_fit enough lawful world lawful_world)
      (λ undefined. has_value first second one.2 (ap (λ s. run_of f3 s world one.0) (sym seen_is) ∙ undefined)) in
      let third : Outcome = run_of f5 near world two.0 in
      let restores : Restores near second third = subst (λ s. Restores near (run_of f3 s world one.0) third) seen_is two.2 in
      let three = splits.runs near world two.0 (near_machine frame size f0.locals start locals_fit enough lawful)
      (world_is_machine start world lawful_world) (restored_value near second third restores) in
      let last : Outcome = run_of f6 near world three.0 in
      let four = lines_do frame size start world three.0 (subst (λ l. l ≤ size) (sym all_locals) locals_fit) enough
      (subst (λ l. IsLawful frame l start) (sym all_locals) lawful) lawful_world (has_value third last three.2)
      (left_as_found start near second third last refl restores three.2 (run_has f6 near world three.0))
      (λ ends. two.3 (three.3 ends)) in
      let code : CodeOutcome = lines.run items start world four.0 in
      let comes : same.SameOutcome f0.result start last code = subst (λ r. same.SameOutcome r start last code) one_result four.2 in
      let a = one.1 in
      let b : taken f3 seen world one.0 ≤ taken f5 near world two.0 =
      subst (λ s. taken f3 s world one.0 ≤ taken f5 near world two.0) seen_is two.1 in
      let c = three.1 in
      let d = four.1 in (
        four.0,
        omega (arith, a, b, c, d),
        outcome_too f0.result start first second code one.2 (restored_too f0.result start near second third code restores
            (outcome_too f0.result start third last code three.2 comes)),
      )

  pub whole_same : Same layout.size f0 items
  whole_same = λ frame start world n enough lawful lawful_world. from_start frame start world n enough lawful lawful_world
