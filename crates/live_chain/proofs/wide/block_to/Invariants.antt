use Rattle.std.proofs.Common.{◌≡◌, ◌≤◌, ℕ, true, ◌⊎◌}
use Rattle.std.specs.Prelude.{slice_range}
use Rattle.std.specs.List.{list_all}
use Rattle.rtx_tree.specs.RegSet.{has_reg}
use Rattle.live_chain.specs.machine.Window.{names_in, passes}
use Rattle.live_chain.proofs.wide.block_to.Given as goal

abbrev pub invariant-loop-alloc : goal.invariant-loop-alloc
invariant-loop-alloc l = record {
  order : l.from ≤ l.first;
  passing : list_all passes (slice_range l.insns l.from l.first) ≡ true;
  named : (reg : ℕ) → has_reg l.fn.regs reg ≡ true → (has_reg l.left reg ≡ true) ⊎ (names_in (slice_range l.insns l.from l.first) reg ≡ true);
}

abbrev pub decreases-loop-alloc : goal.decreases-loop-alloc
decreases-loop-alloc l = l.from
