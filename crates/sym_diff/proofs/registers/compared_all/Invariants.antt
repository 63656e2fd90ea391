use Rattle.std.proofs.Common.{◌≡◌, map, drop}
use Rattle.sym_state.specs.Views.{changed_of}
use Rattle.sym_diff.specs.Registers.{compared_all}
use Rattle.sym_diff.proofs.registers.compared_all.Given as goal

abbrev pub invariant-loop-reg : goal.invariant-loop-reg
invariant-loop-reg l =
    compared_all l.calls l.live (map changed_of l.a) (map changed_of l.b) (drop l.reg-index l.numbers)
    ≡ compared_all l.calls l.live (map changed_of l.a) (map changed_of l.b) l.numbers
