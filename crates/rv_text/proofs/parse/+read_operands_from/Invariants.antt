-- There are fewer operands behind each.
use Rattle.std.proofs.Common.{length}
use Rattle.rv_text.proofs.parse.+read_operands_from.Given as goal

abbrev pub decreases-read_operands_from : goal.decreases-read_operands_from
decreases-read_operands_from l = length l.others.now
