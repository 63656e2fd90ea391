use Rattle.std.proofs.Common.{◌≡◌, ◌&&◌, ℕ, nat_le, nat_lt}
use Rattle.rtx_tree.specs.RegSet.{has_reg}
use Rattle.lint_judge.proofs.live.all_live.Given as goal

-- the set has the registers from 1 to here
abbrev pub invariant-loop-reg : goal.invariant-loop-reg
invariant-loop-reg l = (other : ℕ) → has_reg l.live other ≡ (nat_le 1 other && nat_lt other l.reg)
