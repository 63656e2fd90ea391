use Rattle.std.proofs.Common.{◌≡◌, ℕ, List, drop, map}
use Rattle.std.specs.Ordering.{nat_cmp}
use Rattle.std.specs.BTreeSet as set
use Rattle.rtl_func.specs.Faults.{earlier, first_fault, fault}
use Rattle.rtl_func.specs.Paths.{has_place}
use Rattle.rtl_func.specs.Rules.{uid_faults}
use Rattle.rtl_func.specs.Uids.{uids_of, bad_uids}
use Rattle.rtl_func.proofs.uids.note_uids.Given as goal

abbrev pub invariant-loop-insn : goal.invariant-loop-insn
invariant-loop-insn l = (before : List ℕ) × ((other : ℕ) → set.contains nat_cmp l.met other ≡ has_place before other) × (earlier l.first (first_fault (map (fault 1) (bad_uids before (uids_of (drop l.insn-index l.insns))))) ≡ earlier l.fn.first (first_fault (uid_faults l.insns)))
