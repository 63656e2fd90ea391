use Rattle.std.proofs.Common.{refl}
use Rattle.c_cond.specs.c_words.declared.atom.Dialect.TheVariants as Dialect
use Rattle.c_cond.specs.Grammar.{IsText, Condition}
use Rattle.pred_expr.proofs.GrammarLaws.{none_in, value_is, value_none, condition_says}
use Rattle.pred_expr.proofs.texts.condition.Goals as goal

pub returns-in-Ok-clause-value : goal.returns-in-Ok-clause-value
returns-in-Ok-clause-value c = rw (value_is (condition_says c.args.constants.now c.args.text.now) _ c.in-Ok.ensures.answers) refl

pub returns-in-Err-Outside-clause-value : goal.returns-in-Err-Outside-clause-value
returns-in-Err-Outside-clause-value c = rw (value_none (condition_says c.args.constants.now c.args.text.now) (none_in (IsText Dialect.Condition c.args.constants.now Condition) c.args.text.now _ _ c.in-Err-Outside.field-0-is c.in-Err-Outside.ensures.answers)) refl

pub returns-in-Ok-clause-grammar : goal.returns-in-Ok-clause-grammar
returns-in-Ok-clause-grammar c bytes = condition_says c.args.constants.now bytes

pub returns-in-Err-Outside-clause-grammar : goal.returns-in-Err-Outside-clause-grammar
returns-in-Err-Outside-clause-grammar c bytes = condition_says c.args.constants.now bytes

pub returns-in-Err-Memory-clause-grammar : goal.returns-in-Err-Memory-clause-grammar
returns-in-Err-Memory-clause-grammar c bytes = condition_says c.args.constants.now bytes
