-- What the texts of conditions and statements are.
use Rattle.std.proofs.Common.{List}
use Rattle.rtx_tree.specs.declared.constants.Constant.{Constant}
use Rattle.c_cond.specs.Grammar.{IsText}
use Rattle.pred_expr.proofs.GrammarLaws.{condition_says, test_condition_says, statements_says}
use Rattle.c_cond.proofs.Readings.{one_reading}
use Rattle.law_predicates.specs.Texts.{TextsAreRead}

pub texts_are_read : (constants : List Constant) → TextsAreRead constants
texts_are_read constants = record {
  one = λ d sort text. one_reading (IsText d constants sort text);
  conditions = condition_says constants;
  tests = test_condition_says constants;
  statements = statements_says constants;
}
