use Rattle.std.proofs.Common.{◌≡◌, drop, [], ◌∷◌}
use Rattle.c_cond.specs.machine.Steps.{result_of, at}
use Rattle.c_cond.proofs.parse.parse_tokens.Given as goal

abbrev pub invariant-loop-token : goal.invariant-loop-token
invariant-loop-token l = result_of l.dialect l.constants l.parser (drop l.token-index l.tokens) ≡ result_of l.dialect l.constants (at [] (l.fn.goal ∷ [])) l.tokens
