use Rattle.pred_expr.proofs.GrammarLaws.{test_condition_says}
use Rattle.pred_expr.proofs.HasReason.{of_tree}
use Rattle.pred_expr.proofs.Tests.{read_is}
use Rattle.pred_expr.proofs.test.test_of.Goals as goal

pub returns-clause-grammar : goal.returns-clause-grammar
returns-clause-grammar c bytes = test_condition_says c.args.constants.now bytes

pub returns-clause-tests : goal.returns-clause-tests
returns-clause-tests c t x = read_is c.args.constants.now t x

pub returns-clause-reasons : goal.returns-clause-reasons
returns-clause-reasons c = of_tree c.args.constants.now c.args.tree.now
