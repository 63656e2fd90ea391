use Rattle.std.proofs.Common.{refl}
use Rattle.md_dfa.proofs.pipeline.Pipeline.reservation.Goals as goal

pub loop-at-init : goal.loop-at-init
loop-at-init c = λ forms are. refl
