use Rattle.std.proofs.Common.{◌≡◌, drop}
use Rattle.std.specs.List.{position_from}
use Rattle.rtx_tree.specs.Patterns.{is_label}
use Rattle.live_chain.proofs.leads.label_place.Given as goal

abbrev pub invariant-loop-at : goal.invariant-loop-at
invariant-loop-at l =
    position_from (is_label l.uid) 0 l.insns ≡ position_from (is_label l.uid) l.at (drop l.at l.insns)
