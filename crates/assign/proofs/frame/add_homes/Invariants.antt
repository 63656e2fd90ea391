use Rattle.std.proofs.Common.{◌≡◌, ◌++◌, drop, filter}
use Rattle.assign.specs.Frame.{is_home}
use Rattle.assign.proofs.frame.add_homes.Given as goal

abbrev pub invariant-loop-reg : goal.invariant-loop-reg
invariant-loop-reg l = l.saved ++ filter (is_home l.homes) (drop l.reg-index l.regs) ≡ l.fn.saved ++ filter (is_home l.homes) l.regs
