-- The arguments so far and those to come are all.
use Rattle.std.proofs.Common.{◌≡◌, ◌+◌, ◌-◌, ◌++◌}
use Rattle.std.specs.Prelude.{map}
use Rattle.sym_state.specs.Views.{changed_of, arg_of}
use Rattle.sym_lines.specs.Step.{args_from}
use Rattle.sym_lines.proofs.step.args_from.Given as goal

abbrev pub invariant-loop-reg : goal.invariant-loop-reg
invariant-loop-reg l = map arg_of l.args ++ args_from (l.first + l.count - l.reg) l.reg (map changed_of l.regs) ≡ args_from l.count l.first (map changed_of l.regs)
