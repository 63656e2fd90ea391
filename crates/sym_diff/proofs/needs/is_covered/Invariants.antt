use Rattle.std.proofs.Common.{◌≡◌, map, drop}
use Rattle.sym_state.specs.Views.{need_at_of, need_of}
use Rattle.sym_diff.specs.Compared as spec
use Rattle.sym_diff.proofs.needs.is_covered.Given as goal

abbrev pub invariant-loop-one : goal.invariant-loop-one
invariant-loop-one l =
    spec.is_covered (map need_at_of (drop l.one-index l.had)) (need_of l.need) ≡ spec.is_covered (map need_at_of l.had) (need_of l.need)
