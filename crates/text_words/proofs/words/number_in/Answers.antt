use Rattle.std.proofs.Common.{sym}
use Rattle.text_words.proofs.Numbers.{no_number-utf8, no_number-parse}
use Rattle.text_words.proofs.words.number_in.Goals as goal

pub returns-in_default : goal.returns-in_default
returns-in_default c = sym (no_number-utf8 c.args.text.now c.in_default.ensures.cases.0)

pub returns-in_default-parse : goal.returns-in_default-parse
returns-in_default-parse c = sym (no_number-parse c.args.text.now c.in-Ok.digits.now c.in_default-parse.field-0 c.parse.result c.in-Ok.ensures.cases.0 c.in_default-parse.is c.parse.ensures.value.0)
