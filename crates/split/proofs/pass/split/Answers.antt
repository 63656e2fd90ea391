use Rattle.split.proofs.One.{one_split}
use Rattle.split.proofs.Left.{all_left}
use Rattle.split.proofs.Kept.{same_marks, old_or_new, are_natural}
use Rattle.split.proofs.Uids.{uids_differ}
use Rattle.split.proofs.Sound.{split_does, split_kept}
use Rattle.split.proofs.pass.split.Goals as goal

pub returns-clause-one : goal.returns-clause-one
returns-clause-one c = λ forms pass f a b p q. one_split forms pass f a b p q

pub returns-clause-left : goal.returns-clause-left
returns-clause-left c = λ forms pass f g comes. all_left forms pass f g comes

pub returns-clause-marks : goal.returns-clause-marks
returns-clause-marks c = λ forms pass f g comes. same_marks forms pass f g comes

pub returns-clause-new : goal.returns-clause-new
returns-clause-new c = λ forms pass f g comes. old_or_new forms pass f g comes

pub returns-clause-uids : goal.returns-clause-uids
returns-clause-uids c = λ forms pass f g differ comes. uids_differ forms pass f g differ comes

pub returns-clause-natural : goal.returns-clause-natural
returns-clause-natural c = λ forms pass f g natural comes. are_natural forms pass f g natural comes

pub returns-clause-does : goal.returns-clause-does
returns-clause-does c = λ forms pass f g marks natural comes. split_does forms pass f g marks natural comes

pub returns-clause-kept : goal.returns-clause-kept
returns-clause-kept c = λ forms f g sound comes. split_kept forms f g sound comes
