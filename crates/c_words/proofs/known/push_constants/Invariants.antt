use Rattle.std.proofs.Common.{◌≡◌, ◌++◌, take, map}
use Rattle.c_words.proofs.known.push_constants.Given as goal

abbrev pub invariant-loop-constant : goal.invariant-loop-constant
invariant-loop-constant l = l.words ≡ l.initial.words ++ map (λ c. c.name) (take l.constant-index l.constants)
