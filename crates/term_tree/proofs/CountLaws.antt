-- Nodes and levels counted one term after the other.
use Rattle.std.proofs.Common.{◌≡◌, ℕ, ◌+◌, ◌≤◌, max, arith, tests}
use Rattle.rtx_tree.specs.Limit.{most_nodes}
use Rattle.term_tree.specs.machine.Counted.{counted}

pub counted-more : (before size deep more deeper levels : ℕ) → before ≤ most_nodes + 1 →
    counted (counted before size deep levels) more deeper levels ≡ counted before (size + more) (max deep deeper) levels
counted-more before size deep more deeper levels few = grind (arith, tests)

pub ruleset counts = (counted-more)
