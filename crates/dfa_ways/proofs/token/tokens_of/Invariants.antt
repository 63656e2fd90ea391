use Rattle.std.proofs.Common.{◌≡◌, ◌++◌, drop}
use Rattle.dfa_ways.specs.Tokens.{tokens}
use Rattle.dfa_ways.specs.machine.Lexing.{pending}
use Rattle.dfa_ways.proofs.token.tokens_of.Given as goal

abbrev pub invariant-loop-byte : goal.invariant-loop-byte
invariant-loop-byte l = l.tokens ++ pending l.word.items (tokens (drop l.byte-index l.text)) ≡ tokens l.text
