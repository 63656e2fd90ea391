-- The words so far and those of the items that are left are all.
use Rattle.std.proofs.Common.{◌≡◌, ◌++◌, map, drop}
use Rattle.rv_unit.specs.machine.Labels.{bases_in_from}
use Rattle.rv_word.specs.Word.{encode}
use Rattle.rv_unit.proofs.words.push_unit.Given as goal

abbrev pub invariant-loop-at : goal.invariant-loop-at
invariant-loop-at l =
    l.words ++ map encode (bases_in_from l.layout l.symbols l.at (drop l.at l.items)) ≡ l.initial.words ++ map encode (bases_in_from l.layout l.symbols 0 l.items)
