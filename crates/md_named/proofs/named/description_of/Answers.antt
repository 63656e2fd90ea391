use Rattle.std.proofs.Common.{subst}
use Rattle.law_predicates.proofs.Predicates.{predicates_are}
use Rattle.law_predicates.proofs.Texts.{texts_are_read}
use Rattle.md_named.specs.machine.Steps.{DescribesRun}
use Rattle.md_named.proofs.Forms.{of_trees, of_refusal, one_answer}
use Rattle.md_named.proofs.named.description_of.Goals as goal

pub returns-in-Ok-clause-gives : goal.returns-in-Ok-clause-gives
returns-in-Ok-clause-gives g c = λ source agrees.
    of_trees source c.args.name.now c.in-Ok.trees c.described.result (c.in-Ok.ensures.gives source agrees) (subst (λ trees. DescribesRun trees c.described.result) c.as_slice.ensures.value c.described.ensures)

pub returns-in-Ok-clause-one : goal.returns-in-Ok-clause-one
returns-in-Ok-clause-one g c = λ source known a b p q. one_answer source c.args.name.now a b known p q

pub returns-in-Err-clause-gives : goal.returns-in-Err-clause-gives
returns-in-Err-clause-gives g c = λ source agrees. of_refusal source c.args.name.now c.in-Err.e c.source_refused.result c.source_refused.ensures (c.in-Err.ensures.gives source agrees)

pub returns-in-Err-clause-one : goal.returns-in-Err-clause-one
returns-in-Err-clause-one g c = λ source known a b p q. one_answer source c.args.name.now a b known p q

pub returns-in-Ok-clause-predicates : goal.returns-in-Ok-clause-predicates
returns-in-Ok-clause-predicates g c = predicates_are

pub returns-in-Err-clause-predicates : goal.returns-in-Err-clause-predicates
returns-in-Err-clause-predicates g c = predicates_are

pub returns-in-Ok-clause-texts : goal.returns-in-Ok-clause-texts
returns-in-Ok-clause-texts g c = texts_are_read

pub returns-in-Err-clause-texts : goal.returns-in-Err-clause-texts
returns-in-Err-clause-texts g c = texts_are_read
