use Rattle.std.proofs.Common.{length, sym, ◌∙◌, ap}
use Rattle.rv_text.specs.Table.{row_view}
use Rattle.rv_text.specs.Lines.{parts_view}
use Rattle.rv_text.proofs.Reading.{no_gap, some_of, no_operands, rest_found}
use Rattle.rv_text.proofs.parse.read_row.Goals as goal
use Rattle.rv_text.proofs.parse.read_row.Goals.{else-operands-rest-via-then-operands-rest+else-not-is_empty, else-operands-rest-via-else-operands-rest}

pub returns-then-not-is_empty : goal.returns-then-not-is_empty
returns-then-not-is_empty c =
    no_gap (row_view c.args.row) c.args.name.now c.args.rest.now (ap length (sym c.behind_spaces-operands.ensures) ∙ c.if-operands-rest.true)
    (some_of c.args.row.operands.now c.is_empty.result c.is_empty.ensures c.if-not-is_empty.true)

pub returns : goal.returns
returns c =
    rest_found (row_view c.args.row) c.args.name.now c.args.rest.now c.behind_spaces-operands.result.now (parts_view c.bare.result) c.behind_spaces-operands.ensures c.bare.ensures
    (elim c.else-operands-rest.branch [
      | else-operands-rest-via-then-operands-rest+else-not-is_empty w ↦ λ some. no_operands c.args.row.operands.now w.is_empty.result w.is_empty.ensures w.if-not-is_empty.false some
      | else-operands-rest-via-else-operands-rest w ↦ λ some. w.if-operands-rest.false
    ])
    _ c.read_operands.ensures
