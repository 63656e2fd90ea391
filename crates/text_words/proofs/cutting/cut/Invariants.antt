-- None of the bytes that were passed is the one that is sought.
use Rattle.std.proofs.Common.{◌≡◌, ◌++◌, drop, take, option_map}
use Rattle.text_words.specs.Cut as spec
use Rattle.text_words.proofs.cutting.cut.Given as goal

abbrev pub invariant-loop-at : goal.invariant-loop-at
invariant-loop-at l = option_map (λ parts. (take l.at l.text ++ parts.0, parts.1)) (spec.cut l.byte (drop l.at l.text)) ≡ spec.cut l.byte l.text
