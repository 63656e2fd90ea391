use Rattle.std.proofs.Common.{sym, ◌∙◌, arith}
use Rattle.std.proofs.lemmas.Bool.{le-ltb}
use Rattle.reg_rows.proofs.WordLaws.{has_is, has_past}
use Rattle.reg_rows.proofs.words.contains.Goals as goal

pub returns-then-word-words : goal.returns-then-word-words
returns-then-word-words c = has_is c.args.words.now c.args.reg

pub returns-else-word-words : goal.returns-else-word-words
returns-else-word-words c = le-ltb _ _ (omega arith) ∙ sym (has_past c.args.words.now c.args.reg (omega arith))
