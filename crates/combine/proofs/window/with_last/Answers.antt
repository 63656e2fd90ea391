use Rattle.std.proofs.Common.{[], ◌∷◌, ◌++◌, ap, sym, ◌∙◌}
use Rattle.combine.specs.Combine.{with_last}
use Rattle.combine.proofs.Windows.{last_put}
use Rattle.combine.proofs.window.with_last.Goals as goal

pub returns : goal.returns
returns c =
    c.in_ok-push.ensures.ok
    ∙ (ap (λ insns. insns ++ c.in_ok-with.field-0 ∷ []) c.in_ok-new.ensures
    ∙ (ap (λ i. c.in-Some.before.now ++ i ∷ []) c.in_ok-with.ensures
    ∙ (sym (last_put c.args.x c.in-Some.before.now c.in-Some.last.now) ∙ ap (with_last c.args.x) (sym c.in-Some.ensures.cases.0))))
