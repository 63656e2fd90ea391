use Rattle.std.proofs.Common.{◌≡◌, List, sym, ap, ◌∙◌}
use Rattle.md_forms.specs.c_words.declared.head.CondHead.{CondHead}
use Rattle.md_forms.specs.c_cond.Tree.{tree_of}
use Rattle.pred_rows.specs.Tests.{condition_holds}
use Rattle.md_pred.proofs.table.PredTable.node_known.Goals as goal

pub returns-in-Condition : goal.returns-in-Condition
returns-in-Condition c = λ rounds m so.
    let here : c.condition_holds.result ≡ condition_holds (tree_of c.in-Condition.heads) c.args.x.now =
    c.condition_holds.ensures ∙ ap (λ (heads : List CondHead). condition_holds (tree_of heads) c.args.x.now) c.as_slice-in-Condition.ensures.value in
    rw c.in-Condition.is (sym here ∙ sym (c.all-in-Condition.ensures m))

pub returns-in-And : goal.returns-in-And
returns-in-And c = rw c.in-And.is (c.both_known.ensures c.args.x.now c.requires.known)

pub returns-in-Ior : goal.returns-in-Ior
returns-in-Ior c = rw c.in-Ior.is (c.either_known.ensures c.args.x.now c.requires.known)

pub returns-in-Not : goal.returns-in-Not
returns-in-Not c = rw c.in-Not.is (c.turned_known.ensures c.args.x.now c.requires.known)

pub returns-in-IfThenElse : goal.returns-in-IfThenElse
returns-in-IfThenElse c = rw c.in-IfThenElse.is (c.choice_known.ensures c.args.x.now c.requires.known)
