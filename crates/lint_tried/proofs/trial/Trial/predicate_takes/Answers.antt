use Rattle.std.proofs.Common.{◌≡◌, true}
use Rattle.rtx_tree.specs.Tree.{head_of}
use Rattle.md_desc.specs.md_recog.Match.{names_predicate}
use Rattle.md_pred.specs.machine.Table.{accepted_by}
use Rattle.lint_tried.specs.machine.Views.{trial_of}
use Rattle.lint_tried.proofs.TakenLaws.{named_takes}
use Rattle.lint_tried.proofs.trial.Trial.predicate_takes.Goals as goal

pub returns : goal.returns
returns c =
    let named : names_predicate (head_of c.args.placeholder.now).code ≡ true = cc in
    named_takes (trial_of c.args.self.now) c.args.placeholder.now c.args.x.now (accepted_by c.preds.result.now) c.holds.result named c.preds.ensures c.holds.ensures
