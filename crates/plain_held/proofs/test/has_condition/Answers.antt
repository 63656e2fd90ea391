use Rattle.plain_held.proofs.Tests.{alone_is, alone_question, alone_parts}
use Rattle.plain_held.proofs.test.has_condition.Goals as goal

pub returns-then-is_empty : goal.returns-then-is_empty
returns-then-is_empty c = (
  λ yes. alone_is _ _ (c.is_empty.ensures.0 c.if-is_empty.true) (c.asks_for_condition.ensures.0 yes),
  λ is. c.asks_for_condition.ensures.1 (alone_question _ _ is),
)

pub returns-else-is_empty : goal.returns-else-is_empty
returns-else-is_empty c = (λ yes. cc, λ is. c.is_empty.ensures.1 (alone_parts _ _ is))
