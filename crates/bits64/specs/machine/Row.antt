-- The rows of the code, as the definition has them.
use Rattle.bits64.specs.declared.operator.Row as code
use Rattle.bits64.specs.Operators.{Row}

abbrev pub row_view : code.Row → Row
row_view row = record { name = row.name.now; taking = row.taking; asks = row.asks }
