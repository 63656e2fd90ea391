use Rattle.rv_text.specs.Lines.{parts_view}
use Rattle.rv_text.proofs.Reading.{moved}
use Rattle.rv_text.proofs.Every.{has_every}
use Rattle.rv_text.proofs.OneLine.{one_line}
use Rattle.rv_text.proofs.parse.parse_line.Goals as goal

pub returns-in_ok-to_line-in-Some-clause-line : goal.returns-in_ok-to_line-in-Some-clause-line
returns-in_ok-to_line-in-Some-clause-line c = moved c.args.bytes.now (parts_view c.in-Some.parts) c.in_ok-to_line-in-Some.field-0 c.in-Some.ensures c.in_ok-to_line-in-Some.ensures

pub returns-in_err-to_line-in-Some-clause-one : goal.returns-in_err-to_line-in-Some-clause-one
returns-in_err-to_line-in-Some-clause-one c = λ text a b p q. one_line text a b p q

pub returns-in-None-clause-one : goal.returns-in-None-clause-one
returns-in-None-clause-one c = λ text a b p q. one_line text a b p q

pub returns-in_ok-to_line-in-Some-clause-one : goal.returns-in_ok-to_line-in-Some-clause-one
returns-in_ok-to_line-in-Some-clause-one c = λ text a b p q. one_line text a b p q

pub returns-in_err-to_line-in-Some-clause-every : goal.returns-in_err-to_line-in-Some-clause-every
returns-in_err-to_line-in-Some-clause-every c = has_every

pub returns-in-None-clause-every : goal.returns-in-None-clause-every
returns-in-None-clause-every c = has_every

pub returns-in_ok-to_line-in-Some-clause-every : goal.returns-in_ok-to_line-in-Some-clause-every
returns-in_ok-to_line-in-Some-clause-every c = has_every
