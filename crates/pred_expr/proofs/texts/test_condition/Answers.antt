use Rattle.std.proofs.Common.{refl}
use Rattle.c_cond.specs.c_words.declared.atom.Dialect.TheVariants as Dialect
use Rattle.c_cond.specs.Grammar.{IsText, Condition}
use Rattle.pred_expr.proofs.GrammarLaws.{none_in, value_is, value_none, test_condition_says}
use Rattle.pred_expr.proofs.texts.test_condition.Goals as goal

pub returns-in-Ok : goal.returns-in-Ok
returns-in-Ok c = rw (value_is (test_condition_says c.args.constants.now c.args.text.now) _ c.in-Ok.ensures.answers) refl

pub returns-in-Err-Outside : goal.returns-in-Err-Outside
returns-in-Err-Outside c = rw (value_none (test_condition_says c.args.constants.now c.args.text.now) (none_in (IsText Dialect.Test c.args.constants.now Condition) c.args.text.now _ _ c.in-Err-Outside.field-0-is c.in-Err-Outside.ensures.answers)) refl
