use Rattle.std.proofs.Common.{◌≡◌, ◌++◌, map}
use Rattle.sym_state.specs.State.{needs_at}
use Rattle.sym_state.specs.Views.{need_at_of, need_of}
use Rattle.sym_insns.proofs.effect.add_needs.Given as goal

abbrev pub invariant-loop-what : goal.invariant-loop-what
invariant-loop-what l =
    map need_at_of l.all ≡ map need_at_of l.initial.all ++ needs_at l.index (map need_of l.yielded)
