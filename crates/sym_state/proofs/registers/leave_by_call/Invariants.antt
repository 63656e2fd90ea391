use Rattle.std.proofs.Common.{◌≡◌, ◌-◌, map}
use Rattle.sym_state.specs.Registers as spec
use Rattle.sym_state.specs.Views.{changed_of}
use Rattle.sym_state.proofs.registers.leave_by_call.Given as goal

abbrev pub invariant-loop-reg : goal.invariant-loop-reg
invariant-loop-reg l = spec.left_from (32 - l.reg) l.reg (map changed_of l.regs) ≡ spec.left_by_call (map changed_of l.initial.regs)
