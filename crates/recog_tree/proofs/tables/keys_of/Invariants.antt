use Rattle.std.proofs.Common.{◌≡◌, map, take}
use Rattle.recog_tree.specs.Key.{entry_key}
use Rattle.recog_tree.proofs.tables.keys_of.Given as goal

abbrev pub invariant-loop-entry : goal.invariant-loop-entry
invariant-loop-entry l = l.keys ≡ map (entry_key l.half) (take l.entry-index l.forms)
