-- What a comparison comes to.
use Rattle.std.specs.Prelude.{ℕ}
use Rattle.sym_diff.specs.Difference.{Difference}

-- what two sides come to: the same; different, in the first item that fails; a part that can't be
-- compared, at a place; or a term that is too large
pub data Verdict : Type 0 where
  Same : Verdict
  Different : Difference → Verdict
  BadShape : ℕ → Verdict
  TooLarge : Verdict
