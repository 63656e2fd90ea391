-- Nodes and levels, counted up to their limits.
use Rattle.std.specs.Prelude.{ℕ, ◌+◌, min, nat_le, if◌then◌else◌}
use Rattle.rtx_tree.specs.Limit.{most_nodes}

-- so many nodes after so many others, or one more than there may be, where there are more of them
-- or too many levels
abbrev pub counted : ℕ → ℕ → ℕ → ℕ → ℕ
counted before size deep levels =
    if nat_le deep levels then min (before + size) (most_nodes + 1) else most_nodes + 1
