use Rattle.md_dfa.proofs.TestLaws.{test_at}
use Rattle.md_dfa.proofs.test.+read.Goals as goal

pub test_in-returns-in-Some : goal.test_in-returns-in-Some
test_in-returns-in-Some t c = rw (test_at _ _ _ _ _ c.items.ensures c.in-len1-up.len_at_least c.head-item.is c.in-Some.ensures c.bytes.ensures) c.list.ensures
