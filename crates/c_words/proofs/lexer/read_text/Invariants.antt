use Rattle.std.proofs.Common.{◌≡◌, drop, []}
use Rattle.c_words.specs.declared.lexer.Pending.TheVariants as pending
use Rattle.c_words.specs.machine.Lexing.{read_all, at}
use Rattle.c_words.proofs.lexer.read_text.Given as goal

abbrev pub invariant-loop-byte : goal.invariant-loop-byte
invariant-loop-byte l = read_all l.lexer (drop l.byte-index l.text) ≡ read_all (at [] pending.Nothing) l.text
