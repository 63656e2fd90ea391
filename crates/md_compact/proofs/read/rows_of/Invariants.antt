use Rattle.std.proofs.Common.{◌≡◌, drop}
use Rattle.md_text.specs.Lists.{each}
use Rattle.md_text.proofs.Each.{with_front}
use Rattle.md_compact.specs.Block.{row_of}
use Rattle.md_compact.proofs.read.rows_of.Given as goal

abbrev pub invariant-loop-line : goal.invariant-loop-line
invariant-loop-line l = with_front l.rows (each (row_of l.layout) (drop l.line-index l.lines)) ≡ each (row_of l.layout) l.lines
