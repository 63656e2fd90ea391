use Rattle.std.proofs.Common.{[], ◌∷◌, ◌++◌, ap, sym, ◌∙◌}
use Rattle.reuse.specs.machine.Found.{last_put}
use Rattle.reuse.proofs.Last.{last_is}
use Rattle.reuse.proofs.window.with_last.Goals as goal

pub returns : goal.returns
returns c =
    c.in_ok-push.ensures.ok
    ∙ (ap (λ insns. insns ++ c.in_ok-copy.field-0 ∷ []) c.in_ok-copies.ensures
    ∙ (ap (λ i. c.in-Some.before.now ++ i ∷ []) c.in_ok-copy.ensures
    ∙ (sym (last_is c.args.new.now c.in-Some.before.now _) ∙ ap (last_put c.args.new.now) (sym c.in-Some.ensures.cases.0))))
