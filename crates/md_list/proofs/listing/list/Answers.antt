use Rattle.std.proofs.Common.{subst}
use Rattle.md_list.specs.machine.Steps.{GivesTrees}
use Rattle.md_list.proofs.Lists.{of_trees, of_refusal, one_list}
use Rattle.md_list.proofs.listing.list.Goals as goal

pub returns-in-Ok-clause-gives : goal.returns-in-Ok-clause-gives
returns-in-Ok-clause-gives g c = λ source agrees.
    of_trees source c.args.name.now c.in-Ok.trees c.list_trees.result (c.in-Ok.ensures.gives source agrees) (subst (λ trees. GivesTrees trees c.list_trees.result) c.as_slice.ensures.value c.list_trees.ensures)

pub returns-in-Ok-clause-one : goal.returns-in-Ok-clause-one
returns-in-Ok-clause-one g c = λ source known a b p q. one_list source c.args.name.now a b known p q

pub returns-in-Err-clause-gives : goal.returns-in-Err-clause-gives
returns-in-Err-clause-gives g c = λ source agrees. of_refusal source c.args.name.now c.in-Err.e (c.in-Err.ensures.gives source agrees)

pub returns-in-Err-clause-one : goal.returns-in-Err-clause-one
returns-in-Err-clause-one g c = λ source known a b p q. one_list source c.args.name.now a b known p q
