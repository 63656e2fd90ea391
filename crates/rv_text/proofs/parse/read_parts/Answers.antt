use Rattle.std.proofs.Common.{sym, ◌∙◌, ap}
use Rattle.rv_text.specs.Table.{row_view}
use Rattle.rv_text.specs.machine.Cuts.{word, behind_word}
use Rattle.rv_text.proofs.Reading.{no_row, text_finds}
use Rattle.rv_text.proofs.parse.read_parts.Goals as goal

pub returns-in-None : goal.returns-in-None
returns-in-None c =
    no_row c.args.bytes.now c.split_word.result.0.now c.split_word.result.1.now (c.split_word.ensures.word ∙ ap word c.behind_spaces.ensures) (c.split_word.ensures.rest ∙ ap behind_word c.behind_spaces.ensures) (sym c.in-None.ensures)

pub returns-in-Some : goal.returns-in-Some
returns-in-Some c =
    text_finds c.args.bytes.now c.split_word.result.0.now c.split_word.result.1.now (c.split_word.ensures.word ∙ ap word c.behind_spaces.ensures) (c.split_word.ensures.rest ∙ ap behind_word c.behind_spaces.ensures)
    (row_view c.in-Some.row) (sym c.in-Some.ensures) _ c.read_row.ensures
