use Rattle.std.proofs.Common.{rules, sym, ◌∙◌}
use Rattle.std.proofs.lemmas.Result.{IfOk-weaker}
use Rattle.reload_homes.proofs.Rewrites.{homed_made}
use Rattle.reload_homes.proofs.homes.+with_homes.Goals as goal

pub returns-after-loop-kid : goal.returns-after-loop-kid
returns-after-loop-kid t c =
    IfOk-weaker c.with_parts.result _ _
    (λ r e. e ∙ homed_made c.args.homes.now c.args.layout.now c.args.x.now c.loop-kid.kids c.as_slice-kid-items.result.now c.loop-kid.kid-index (sym c.register_at.ensures.value ∙ c.in-None.is) c.loop-kid.invariant c.as_slice-kid-items.ensures.value (search rules))
    c.with_parts.ensures
