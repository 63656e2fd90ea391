use Rattle.reg_conflicts.proofs.SparseLaws.{has_at-bare, AreSparse-bare}
use Rattle.reg_conflicts.proofs.fill.bare_rows.Goals as goal

pub returns-clause-none : goal.returns-clause-none
returns-clause-none c = has_at-bare c.loop-place.rows.items c.loop-place.invariant.bare

pub returns-clause-sparse : goal.returns-clause-sparse
returns-clause-sparse c = λ width. AreSparse-bare width c.loop-place.rows.items c.loop-place.invariant.bare
