use Rattle.reg_rows.proofs.TableLaws.{has_at-none, IsTable-zero}
use Rattle.reg_rows.proofs.table.empty_rows.Goals as goal

pub returns-clause-none : goal.returns-clause-none
returns-clause-none c = has_at-none _ c.loop-place.invariant.none

pub returns-clause-table : goal.returns-clause-table
returns-clause-table c = IsTable-zero c.args.width _ c.requires c.loop-place.invariant.widths c.loop-place.invariant.zero
