-- Where a window is replaced and what is live in front of it stays: GCC Internals, "Liveness
-- information".
use Rattle.std.specs.Prelude.{◌↔◌, ℕ, ◌<◌}
use Rattle.rtx_tree.specs.declared.function.Function.{Function}
use Rattle.live.specs.Live.{IsLiveAfter}

-- after each place in front of this one the same registers are live in two functions
abbrev pub StaysBefore : Function → Function → ℕ → Type 0
StaysBefore f g first =
    (place reg : ℕ) → place < first → (IsLiveAfter f reg place ↔ IsLiveAfter g reg place)
