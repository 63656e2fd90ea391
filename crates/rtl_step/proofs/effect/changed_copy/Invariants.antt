use Rattle.std.proofs.Common.{◌≡◌, drop}
use Rattle.rtl_step.specs.Effect.{regs_after}
use Rattle.rtl_step.proofs.effect.changed_copy.Given as goal

abbrev pub invariant-loop-effect : goal.invariant-loop-effect
invariant-loop-effect l = regs_after (drop l.effect-index l.effects) l.after ≡ regs_after l.effects l.initial.after
