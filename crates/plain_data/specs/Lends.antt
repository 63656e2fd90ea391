-- What a list ends as, where a `&mut` to one of its elements was handed out.
use Rattle.std.specs.Prelude.{ℕ, List, slice_set}
use Rattle.std.specs.Borrow.{Lends, Fml, RattleType, MutBor}
use Rattle.plain_data.specs.contracts.items.Items.{the_row}

-- once the borrow ends, the place holds the last value that was written through it
abbrev pub LendsItem : (T : RattleType) → MutBor (List T.Denot) → ℕ → MutBor T.Denot → Fml
LendsItem T list at borrow = Lends (the_row T) T list borrow (slice_set list.now at)
