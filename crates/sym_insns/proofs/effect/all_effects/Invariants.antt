use Rattle.std.proofs.Common.{◌≡◌, ◌++◌, drop, map}
use Rattle.sym_insns.specs.Effects.{effect_of}
use Rattle.sym_insns.specs.machine.Making.{effected_view, regs_of, stores_of}
use Rattle.sym_insns.proofs.effect.all_effects.Given as goal

abbrev pub invariant-loop-part : goal.invariant-loop-part
invariant-loop-part l =
    let effects = map (effect_of (regs_of l.before) (stores_of l.before)) in
    map effected_view l.effects ++ effects (drop l.part-index l.parts) ≡ effects l.parts
