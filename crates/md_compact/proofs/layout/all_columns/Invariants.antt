use Rattle.std.proofs.Common.{◌≡◌, drop}
use Rattle.md_text.specs.Lists.{each}
use Rattle.md_text.proofs.Each.{with_front}
use Rattle.md_compact.specs.Layout.{column_of}
use Rattle.md_compact.proofs.layout.all_columns.Given as goal

abbrev pub invariant-loop-member : goal.invariant-loop-member
invariant-loop-member l = with_front l.columns (each column_of (drop l.member-index l.members)) ≡ each column_of l.members
