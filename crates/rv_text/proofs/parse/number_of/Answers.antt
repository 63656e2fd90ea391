use Rattle.std.proofs.Common.{sym, ◌∙◌, ap}
use Rattle.std.specs.Result.{result_ok}
use Rattle.rv_text.proofs.Numbers.{number_is_utf8, number_is_read}
use Rattle.rv_text.proofs.parse.number_of.Goals as goal

pub returns-in_default : goal.returns-in_default
returns-in_default c z within is = let e = c.in_default.ensures.cases in absurd (e.0 (number_is_utf8 c.args.text.now z within is))

pub returns : goal.returns
returns c z within is =
    let same = c.in-Ok.ensures.cases.0 in
    let read = number_is_read c.in-Ok.text.now c.parse.result z c.parse.ensures.value.0 within (is ∙ sym same) in
    c.ok.ensures.value ∙ ap result_ok read
