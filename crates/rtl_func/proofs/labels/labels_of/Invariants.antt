use Rattle.std.proofs.Common.{◌≡◌, ℕ, drop}
use Rattle.std.specs.Ordering.{nat_cmp}
use Rattle.std.specs.BTreeMap as map
use Rattle.std.specs.List.{position_from}
use Rattle.rtx_tree.specs.Patterns.{is_label}
use Rattle.rtl_func.proofs.labels.labels_of.Given as goal

abbrev pub invariant-loop-place : goal.invariant-loop-place
invariant-loop-place l = (uid : ℕ) → map.get nat_cmp l.labels uid ≡ position_from (is_label uid) l.place (drop l.place l.insns)
