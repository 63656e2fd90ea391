use Rattle.std.proofs.Common.{◌≡◌, replicate}
use Rattle.code_eval.specs.World.{zero_reply}
use Rattle.code_eval.proofs.world.zero_replies.Given as goal

abbrev pub invariant-loop-place : goal.invariant-loop-place
invariant-loop-place l = l.replies ≡ replicate l._place zero_reply
