use Rattle.std.proofs.Common.{◌≡◌, map, drop}
use Rattle.sym_state.specs.Views.{need_at_of}
use Rattle.sym_diff.specs.Compared as spec
use Rattle.sym_diff.proofs.needs.compared_needs.Given as goal

abbrev pub invariant-loop-need : goal.invariant-loop-need
invariant-loop-need l =
    spec.compared_needs (map need_at_of l.had) (map need_at_of (drop l.need-index l.asked))
    ≡ spec.compared_needs (map need_at_of l.had) (map need_at_of l.asked)
