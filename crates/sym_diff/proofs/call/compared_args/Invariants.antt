use Rattle.std.proofs.Common.{◌≡◌, map, drop}
use Rattle.sym_state.specs.Views.{arg_of}
use Rattle.sym_diff.specs.Compared as spec
use Rattle.sym_diff.proofs.call.compared_args.Given as goal

abbrev pub invariant-loop-reg : goal.invariant-loop-reg
invariant-loop-reg l =
    spec.compared_args l.of_lines (map arg_of l.a) (map arg_of l.b) (drop l.reg-index l.numbers)
    ≡ spec.compared_args l.of_lines (map arg_of l.a) (map arg_of l.b) l.numbers
