use Rattle.std.proofs.Common.{◌≡◌, drop}
use Rattle.md_text.specs.Lists.{each}
use Rattle.md_text.proofs.Each.{with_front}
use Rattle.md_dfa.specs.Test.{test_of}
use Rattle.md_dfa.proofs.test.+read.Given as goal

abbrev pub invariant-all_tests-loop-tree : goal.invariant-all_tests-loop-tree
invariant-all_tests-loop-tree l = with_front l.tests (each test_of (drop l.tree-index l.trees)) ≡ each test_of l.trees
