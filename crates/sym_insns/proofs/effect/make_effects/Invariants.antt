use Rattle.std.proofs.Common.{◌≡◌, map}
use Rattle.sym_state.specs.Views.{state_of}
use Rattle.sym_insns.specs.Effects.{make_all}
use Rattle.sym_insns.specs.machine.Making.{effected_view}
use Rattle.sym_insns.proofs.effect.make_effects.Given as goal

abbrev pub invariant-loop-effect : goal.invariant-loop-effect
invariant-loop-effect l =
    state_of l.state ≡ make_all l.index (map effected_view l.yielded) (state_of l.initial.state)
