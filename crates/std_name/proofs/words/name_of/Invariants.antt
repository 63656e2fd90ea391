use Rattle.std.proofs.Common.{◌≡◌, ◌++◌, take, flat_map}
use Rattle.std_name.specs.Names.{letters}
use Rattle.std_name.proofs.words.name_of.Given as goal

abbrev pub invariant-loop-mode : goal.invariant-loop-mode
invariant-loop-mode l = l.text.items ≡ l.initial.text.items ++ flat_map letters (take l.mode-index l.modes)
