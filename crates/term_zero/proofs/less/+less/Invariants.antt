use Rattle.std.proofs.Common.{◌+◌, ◌*◌}
use Rattle.term_zero.proofs.less.+less.Given as goal

abbrev pub decreases-less_test : goal.decreases-less_test
decreases-less_test l = 4 * l.rounds

abbrev pub decreases-less_extended : goal.decreases-less_extended
decreases-less_extended l = 4 * l.rounds + 1

abbrev pub decreases-less_unless : goal.decreases-less_unless
decreases-less_unless l = 4 * l.rounds + 2
