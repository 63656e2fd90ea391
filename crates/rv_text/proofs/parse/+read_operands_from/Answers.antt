use Rattle.std.proofs.Common.{sym, ◌∙◌, ap}
use Rattle.rv_text.specs.Lines.{parts_view}
use Rattle.rv_text.specs.machine.Cuts.{behind_comma}
use Rattle.rv_text.proofs.Listed.{none_at_first, none_at_comma, goes_on_at}
use Rattle.rv_text.proofs.parse.+read_operands_from.Goals as goal

pub returns-in_default-read_operand : goal.returns-in_default-read_operand
returns-in_default-read_operand t c =
    none_at_first c.args.operand c.args.others.now c.args.bytes.now (parts_view c.args.parts) c.in-len1-up.len_at_least c.split_word.result.0.now c.split_word.ensures.word c.in_default-read_operand.ensures

pub returns-in_default-behind_comma : goal.returns-in_default-behind_comma
returns-in_default-behind_comma t c =
    none_at_comma c.args.operand c.args.others.now c.args.bytes.now (parts_view c.args.parts) c.in-len1-up.len_at_least (ap behind_comma (sym c.split_word.ensures.rest) ∙ sym c.in_default-behind_comma.ensures)

pub returns : goal.returns
returns t c =
    goes_on_at c.args.operand c.args.others.now c.args.bytes.now (parts_view c.args.parts) c.in-len1-up.len_at_least c.split_word.result.0.now c.in-Some-behind_comma.rest.now (parts_view c.in-Some.parts) c.split_word.ensures.word
    c.in-Some.ensures (ap behind_comma (sym c.split_word.ensures.rest) ∙ sym c.in-Some-behind_comma.ensures) _ c.read_operands_from.ensures
