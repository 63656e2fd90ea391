use Rattle.std.proofs.Common.{◌≡◌, ℕ, true, take}
use Rattle.rtx_tree.specs.RegSet.{has_reg}
use Rattle.live_chain.specs.machine.Window.{sets_in}
use Rattle.live_chain.proofs.sets.same_sets_of.Given as goal

abbrev pub invariant-loop-kept : goal.invariant-loop-kept
invariant-loop-kept l = (other : ℕ) → has_reg (take l.kept-index l.regs) other ≡ true → sets_in l.old other ≡ sets_in l.new other
