-- The rows that are searched are the table's.
use Rattle.rv_text.specs.Table.{table}
use Rattle.rv_text.proofs.table.row_named.Goals as goal

pub returns : goal.returns
unfolding table
returns c = c.find_row.ensures
