use Rattle.std.proofs.Common.{◌≡◌, ℕ, Bool, drop, not}
use Rattle.std.specs.List.{find}
use Rattle.reg_rows.specs.Table.{has_at}
use Rattle.assign.proofs.pick.first_free.Given as goal

-- what is left of the order has the answer
abbrev pub invariant-loop-hard : goal.invariant-loop-hard
invariant-loop-hard l =
    let free : ℕ → Bool = λ hard. not (has_at l.blocked hard l.reg) in
    find free (drop l.hard-index l.order) ≡ find free l.order
