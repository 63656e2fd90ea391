use Rattle.std.proofs.Common.{rules, sym, ◌∙◌}
use Rattle.std.proofs.lemmas.Result.{IfOk-weaker}
use Rattle.reload_homes.proofs.Rewrites.{framed_made}
use Rattle.reload_homes.proofs.frame_refs.+with_frame.Goals as goal

pub returns-after-loop-kid : goal.returns-after-loop-kid
returns-after-loop-kid t c =
    IfOk-weaker c.with_parts.result _ _
    (λ r e. e ∙ framed_made c.args.size c.args.x.now c.loop-kid.kids c.as_slice-kid-items.result.now c.loop-kid.kid-index (sym c.frame_offset.ensures ∙ c.in-None.is) c.loop-kid.invariant c.as_slice-kid-items.ensures.value (search rules))
    c.with_parts.ensures
