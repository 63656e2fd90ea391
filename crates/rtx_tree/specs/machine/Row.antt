-- The rows of the code, as the definition has them.
use Rattle.rtx_tree.specs.declared.code.Row as code
use Rattle.rtx_tree.specs.Code.{Row}

abbrev pub row_view : code.Row → Row
row_view row = record { name = row.name.now; class = row.class }
