use Rattle.c_words.proofs.Lexes.{lexes}
use Rattle.c_words.proofs.lexer.tokens_in.Goals as goal

pub returns : goal.returns
returns c = rw (lexes c.args.text.now) at c.read_text.ensures
