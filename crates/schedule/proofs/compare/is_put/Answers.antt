use Rattle.std.proofs.Common.{ap, ◌∙◌}
use Rattle.rtx_tree.specs.declared.function.Function.{Function}
use Rattle.new_insns.specs.Replaced.{window}
use Rattle.schedule.proofs.PutLaws.{put_if, not_put_if}
use Rattle.schedule.proofs.compare.is_put.Goals as goal

pub returns-clause-put : goal.returns-clause-put
returns-clause-put c =
    put_if c.args.chain.now c.args.first c.args.end c.args.new.now c.in_ok-live.live c.requires.order c.requires.within c.in_ok-live.ensures.live c.as_slice.result.now
    (c.as_slice.ensures.value ∙ (c.in_ok-window.ensures ∙ ap (λ (g : Function). window g c.args.first c.args.end) (c.in_ok-move_gap.ensures ∙ c.in_ok-live.ensures.same)))
    c.is_same.result c.is_same.ensures.same

pub returns-clause-other : goal.returns-clause-other
returns-clause-other c =
    not_put_if c.args.chain.now c.args.first c.args.end c.args.new.now c.in_ok-live.live c.requires.order c.requires.within c.in_ok-live.ensures.live c.as_slice.result.now
    (c.as_slice.ensures.value ∙ (c.in_ok-window.ensures ∙ ap (λ (g : Function). window g c.args.first c.args.end) (c.in_ok-move_gap.ensures ∙ c.in_ok-live.ensures.same)))
    c.is_same.result c.is_same.ensures.other
