use Rattle.reg_rows.proofs.WordLaws.{has_remove, has_remove_past}
use Rattle.reg_rows.proofs.words.remove.Goals as goal

pub returns-then-word-words : goal.returns-then-word-words
returns-then-word-words c = has_remove c.args.words.now c.args.reg c.if-word-words.true

pub returns-else-word-words : goal.returns-else-word-words
returns-else-word-words c = has_remove_past c.args.words.now c.args.reg c.if-word-words.false
