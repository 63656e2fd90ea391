use Rattle.std.proofs.Common.{◌≡◌, drop}
use Rattle.std.specs.List.{list_all}
use Rattle.md_desc.specs.md_pred.Holds.{holds}
use Rattle.md_pred.specs.machine.Table.{accepted_by}
use Rattle.md_desc.specs.md_recog.Match.{is_accepted}
use Rattle.lint_tried.proofs.trial.Trial.all_accepted.Given as goal

-- what is left has the answer
abbrev pub invariant-loop-giver : goal.invariant-loop-giver
invariant-loop-giver l = list_all (is_accepted (accepted_by l.preds) l.operands) (drop l.giver-index l.givers) ≡ list_all (is_accepted (holds l.self.description.now) l.operands) l.givers
