use Rattle.std.proofs.Common.{◌≡◌, true, false, ap, subst, ◌∙◌}
use Rattle.std.specs.Prelude.{IfOk}
use Rattle.new_insns.specs.Replaced.{window}
use Rattle.reuse.specs.Reuse.{EquatedOverAll}
use Rattle.reuse.specs.machine.Found.{last_put}
use Rattle.reuse.proofs.window.is_put.Goals as goal

pub returns-clause-all : goal.returns-clause-all
returns-clause-all c =
    let new = c.args.new.now in
    subst (λ w. IfOk c.is_equated.result (λ same. same ≡ true → EquatedOverAll w (last_put new w))) (c.as_slice.ensures.value ∙ (c.in_ok-window.ensures ∙ ap (λ g. window g c.args.first c.args.end) c.in_ok-move_gap.ensures)) c.is_equated.ensures.all

pub returns-clause-none : goal.returns-clause-none
returns-clause-none c =
    let new = c.args.new.now in
    subst (λ w. IfOk c.is_equated.result (λ same. same ≡ false → EquatedOverAll w (last_put new w) → ⊥)) (c.as_slice.ensures.value ∙ (c.in_ok-window.ensures ∙ ap (λ g. window g c.args.first c.args.end) c.in_ok-move_gap.ensures)) c.is_equated.ensures.none
