use Rattle.peep2.proofs.One.{cover_one}
use Rattle.peep2.proofs.Sound.{cover_same, cover_differ, peepholes_do}
use Rattle.peep2.proofs.pass.peep2.Goals as goal

pub returns-clause-one : goal.returns-clause-one
returns-clause-one c = λ forms f a b x y. cover_one forms f a b x y

pub returns-clause-marks : goal.returns-clause-marks
returns-clause-marks c = λ forms f g comes. cover_same forms f g comes

pub returns-clause-uids : goal.returns-clause-uids
returns-clause-uids c = λ forms f g differ comes. cover_differ forms f g differ comes

pub returns-clause-does : goal.returns-clause-does
returns-clause-does c = λ forms f g marks natural comes. peepholes_do forms f g marks natural comes
