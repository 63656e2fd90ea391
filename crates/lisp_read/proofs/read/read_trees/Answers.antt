use Rattle.lisp_read.proofs.Answered.{answered}
use Rattle.lisp_read.proofs.Unique.{one_reading}
use Rattle.lisp_read.proofs.read.read_trees.Goals as goal

pub returns-clause-reads : goal.returns-clause-reads
returns-clause-reads c = answered _ _ c.read_all.ensures

pub returns-clause-one : goal.returns-clause-one
returns-clause-one c = one_reading _
