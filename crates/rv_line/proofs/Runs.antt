-- One line more of a run.
use Rattle.std.proofs.Common.{◌≡◌, ℕ, suc, ◌+◌, ◌-◌, ◌<◌, List, [], Option, Some, None, sym, ◌∙◌, ap, subst, arith}
use Rattle.rtx_tree.specs.declared.machine.World.{World}
use Rattle.rtx_tree.specs.declared.machine.Start.{Start}
use Rattle.rtx_tree.specs.declared.machine.RangeAt.{RangeAt}
use Rattle.rtx_tree.specs.declared.machine.Reply.{Reply}
use Rattle.rv_text.specs.declared.line.CodeItem.{CodeItem}
use Rattle.rv_line.specs.declared.state.RvState.{RvState}
use Rattle.rv_line.specs.declared.outcome.CodeCall.{CodeCall}
use Rattle.rv_line.specs.declared.outcome.CodeOutcome.{CodeOutcome}
use Rattle.rv_line.specs.Run.{Running, Goes, Ends, turn, go_on, run_from, run, entry}
use Rattle.rv_line.specs.machine.Turns.{Turns}

pub run_starts : (items : List CodeItem) (start : Start) (world : World) (k : ℕ) (machine : RvState) (replies : List Reply) (calls : List CodeCall) → machine ≡ entry start → replies ≡ world.replies → calls ≡ [] →
    run_from world start.visible items (k - 0) (record { rest = items; machine = machine; replies = replies; calls = calls }) ≡ run items start world k
run_starts items start world k machine replies calls is_entry all none =
    let S : RvState → List Reply → List CodeCall → Running = λ m r c. record { rest = items; machine = m; replies = r; calls = c } in
    let same : S machine replies calls ≡ S (entry start) world.replies [] = cc in
    ap (run_from world start.visible items (k - 0)) same ∙ (let less : k - 0 ≡ k = omega arith in ap (λ n. run_from world start.visible items n (S (entry start) world.replies [])) less)

module _ (world : World) (ranges : List RangeAt) (items : List CodeItem) where
  pub one_line : (k i : ℕ) (s : Running) (goal : CodeOutcome) → i < k → run_from world ranges items (k - i) s ≡ goal → go_on (turn world ranges items s) (run_from world ranges items (k - (i + 1))) ≡ goal
  one_line k i s goal less is =
      let left : k - i ≡ suc (k - (i + 1)) = omega arith in
      sym (ap (λ n. run_from world ranges items n s) left) ∙ is

  pub turn_ends : (k i : ℕ) (s after : Running) (ended : Option CodeOutcome) (outcome goal : CodeOutcome) → i < k → ended ≡ Some outcome → Turns ended after (turn world ranges items s) →
      run_from world ranges items (k - i) s ≡ goal → outcome ≡ goal
  turn_ends k i s after ended outcome goal less is turns all =
      let P : Option CodeOutcome → Type 0 = λ e. Turns e after (turn world ranges items s) in
      let ends : turn world ranges items s ≡ Ends outcome = subst P is turns in
      sym (ap (λ t. go_on t (run_from world ranges items (k - (i + 1)))) ends) ∙ one_line k i s goal less all

  pub turn_goes : (k i : ℕ) (s after : Running) (ended : Option CodeOutcome) (goal : CodeOutcome) → i < k → ended ≡ None → Turns ended after (turn world ranges items s) →
      run_from world ranges items (k - i) s ≡ goal → run_from world ranges items (k - (i + 1)) after ≡ goal
  turn_goes k i s after ended goal less is turns all =
      let P : Option CodeOutcome → Type 0 = λ e. Turns e after (turn world ranges items s) in
      let goes : turn world ranges items s ≡ Goes after = subst P is turns in
      sym (ap (λ t. go_on t (run_from world ranges items (k - (i + 1)))) goes) ∙ one_line k i s goal less all
