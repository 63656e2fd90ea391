-- None of the bytes that were passed is the one that is sought.
use Rattle.std.proofs.Common.{◌≡◌, ◌++◌, drop, take, option_map}
use Rattle.rv_text.specs.machine.Cuts.{parts_at}
use Rattle.rv_text.proofs.parse.split_at_byte.Given as goal

abbrev pub invariant-loop-at : goal.invariant-loop-at
invariant-loop-at l = option_map (λ parts. (take l.at l.bytes ++ parts.0, parts.1)) (parts_at l.mark (drop l.at l.bytes)) ≡ parts_at l.mark l.bytes
