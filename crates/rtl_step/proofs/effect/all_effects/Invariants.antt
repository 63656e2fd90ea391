use Rattle.std.proofs.Common.{◌≡◌, ◌++◌, drop}
use Rattle.std.specs.Prelude.{option_map}
use Rattle.rtl_step.specs.Effect.{all_effects}
use Rattle.rtl_step.proofs.effect.all_effects.Given as goal

abbrev pub invariant-loop-part : goal.invariant-loop-part
invariant-loop-part l = option_map (λ rest. l.effects ++ rest) (all_effects l.symbols l.regs l.memory (drop l.part-index l.parts)) ≡ all_effects l.symbols l.regs l.memory l.parts
