use Rattle.std.proofs.Common.{◌≡◌, drop}
use Rattle.rtl_step.specs.Effect.{memory_after}
use Rattle.rtl_step.proofs.effect.change_memory.Given as goal

abbrev pub invariant-loop-effect : goal.invariant-loop-effect
invariant-loop-effect l = memory_after (drop l.effect-index l.effects) l.memory ≡ memory_after l.effects l.initial.memory
