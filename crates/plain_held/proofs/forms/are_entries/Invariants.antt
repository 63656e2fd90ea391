-- They are the same so far.
use Rattle.std.proofs.Common.{◌≡◌, map, take}
use Rattle.plain_held.specs.Rows.{entry_of}
use Rattle.plain_held.proofs.forms.are_entries.Given as goal

abbrev pub invariant-loop-i : goal.invariant-loop-i
invariant-loop-i l = take l.i l.entries ≡ take l.i (map entry_of l.rows)
