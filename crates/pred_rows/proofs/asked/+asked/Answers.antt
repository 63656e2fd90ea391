use Rattle.std.proofs.Common.{◌≡◌, List, ap, ◌∙◌, sym}
use Rattle.c_cond.specs.c_words.declared.head.CondHead.{CondHead}
use Rattle.c_cond.specs.Tree.{tree_of}
use Rattle.pred_rows.specs.Tests.{condition_holds}
use Rattle.pred_rows.proofs.Answering.{holds_here, holds_nowhere}
use Rattle.pred_rows.proofs.asked.+asked.Goals as goal

pub holds_at-returns-in-Some : goal.holds_at-returns-in-Some
holds_at-returns-in-Some g t c =
    c.node_answer.ensures
    ∙ sym (holds_here (g.P.Preds.accepts c.args.preds.now) c.args.x.now c.args.mode c.args.nodes.now c.args.root c.in-Some.node.now c.in-Some.ensures.lookup.3.0 (c.in-Some.ensures.lookup.3.1 c.in-Some.node.now))

pub holds_at-returns-in-None : goal.holds_at-returns-in-None
holds_at-returns-in-None g t c = sym (holds_nowhere (g.P.Preds.accepts c.args.preds.now) c.args.x.now c.args.mode c.args.nodes.now c.args.root c.in-None.ensures.lookup.3)

pub node_answer-returns-in-Condition : goal.node_answer-returns-in-Condition
node_answer-returns-in-Condition g t c =
    let here : c.condition_holds.result ≡ condition_holds (tree_of c.in-Condition.heads) c.args.x.now =
    c.condition_holds.ensures ∙ ap (λ (heads : List CondHead). condition_holds (tree_of heads) c.args.x.now) c.as_slice-in-Condition.ensures.value in
    rw c.in-Condition.is here
