use Rattle.std.proofs.Common.{◌≡◌, ℕ, ◌||◌, ◌&&◌}
use Rattle.std.specs.Prelude.{nat_lt}
use Rattle.rtx_tree.specs.RegSet.{has_reg}
use Rattle.rtx_tree.specs.Registers.{is_call_used}
use Rattle.reg_uses.proofs.defines.add_call_used.Given as goal

abbrev pub invariant-loop-reg : goal.invariant-loop-reg
invariant-loop-reg l = (other : ℕ) → has_reg l.regs other ≡ (has_reg l.fn.regs other || (nat_lt other l.reg && is_call_used other))
