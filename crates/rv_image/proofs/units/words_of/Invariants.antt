use Rattle.std.proofs.Common.{◌≡◌, ◌++◌, drop}
use Rattle.rv_image.specs.machine.Steps.{words_by}
use Rattle.rv_image.proofs.units.words_of.Given as goal

abbrev pub invariant-loop-at : goal.invariant-loop-at
invariant-loop-at l = l.words ++ words_by l.symbols (drop l.at l.units) (drop l.at l.layouts) ≡ words_by l.symbols l.units l.layouts
