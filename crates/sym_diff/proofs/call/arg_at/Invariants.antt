use Rattle.std.proofs.Common.{◌≡◌, map, drop}
use Rattle.sym_state.specs.Views.{arg_of}
use Rattle.sym_diff.specs.Compared as spec
use Rattle.sym_diff.proofs.call.arg_at.Given as goal

abbrev pub invariant-loop-arg : goal.invariant-loop-arg
invariant-loop-arg l = spec.arg_at (map arg_of (drop l.arg-index l.args)) l.reg ≡ spec.arg_at (map arg_of l.args) l.reg
