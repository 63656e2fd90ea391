-- A text stops within itself.
use Rattle.std.proofs.Common.{ℕ, ◌≤◌, List, Option, Some, None, length}
use Rattle.std.specs.Option.{IfSome}
use Rattle.c_cond.specs.declared.tree.Tree.{Tree}
use Rattle.c_stops.specs.Stop.{IsStop}

pub stops_within : (Is : List ℕ → Tree → Type 0) (text : List ℕ) (told : Option ℕ) → IsStop Is text told → IfSome told (λ n. n ≤ length text)
stops_within Is text (Some n) is = is.in_text
stops_within Is text None is = tt
