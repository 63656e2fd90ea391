-- What a refused reading has taken.
use Rattle.std.specs.Prelude.{ℕ, ◌<◌, ◌≤◌, List, length}
use Rattle.std.specs.declared.option.Option.{Option}
use Rattle.std.specs.Io.KnownBytes.{Consumes}
use Rattle.byte_edge.specs.declared.source.ReadAll.{ReadAll}
use Rattle.byte_edge.specs.declared.source.ReadAll.TheVariants as read_all

-- A front of the bytes that were left: longer than the limit where the input is too long, else at
-- most so long.
abbrev pub StopsWithin : Option (List ℕ) → Option (List ℕ) → ℕ → ReadAll → Type 0
StopsWithin old new limit read_all.TooLong =
    (front : List ℕ) × Consumes old new front × (limit < length front)
StopsWithin old new limit read_all.Fault =
    (front : List ℕ) × Consumes old new front × (length front ≤ limit)
StopsWithin old new limit read_all.Memory =
    (front : List ℕ) × Consumes old new front × (length front ≤ limit)
