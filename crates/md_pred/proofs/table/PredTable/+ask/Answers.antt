use Rattle.std.proofs.Common.{◌≡◌, List, ap, ◌∙◌}
use Rattle.md_forms.specs.c_words.declared.head.CondHead.{CondHead}
use Rattle.md_forms.specs.c_cond.Tree.{tree_of}
use Rattle.pred_rows.specs.Tests.{condition_holds}
use Rattle.md_pred.specs.machine.Steps.{asked_within}
use Rattle.md_pred.proofs.Parts.{question_there, none_there}
use Rattle.md_pred.proofs.table.PredTable.+ask.Goals as goal

pub node_step-returns-in-Condition-clause-value : goal.node_step-returns-in-Condition-clause-value
node_step-returns-in-Condition-clause-value t c =
    let here : c.condition_holds.result ≡ condition_holds (tree_of c.in-Condition.heads) c.args.x.now =
    c.condition_holds.ensures ∙ ap (λ (heads : List CondHead). condition_holds (tree_of heads) c.args.x.now) c.as_slice-in-Condition.ensures.value in
    rw c.in-Condition.is here

pub step-returns-in-Some-clause-value : goal.step-returns-in-Some-clause-value
step-returns-in-Some-clause-value t c =
    c.node_step.ensures.value
    ∙ question_there (asked_within c.args.self.now c.args.at.rounds) c.args.x.now c.args.at.mode c.args.self.now.definitions.rows c.args.at.place c.in-Some.node.now c.nodes.result.now c.nodes.ensures
    c.in-Some.ensures.lookup.3.0 (c.in-Some.ensures.lookup.3.1 c.in-Some.node.now)

pub step-returns-in-None-clause-value : goal.step-returns-in-None-clause-value
step-returns-in-None-clause-value t c =
    none_there (asked_within c.args.self.now c.args.at.rounds) c.args.x.now c.args.at.mode c.args.self.now.definitions.rows c.args.at.place c.nodes.result.now c.nodes.ensures c.in-None.ensures.lookup.3
