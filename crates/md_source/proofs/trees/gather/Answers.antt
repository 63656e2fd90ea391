use Rattle.std.proofs.lemmas.Result.{err_from_is_err_and}
use Rattle.md_source.proofs.Comes.{described}
use Rattle.md_source.proofs.One.{one_description}
use Rattle.md_source.proofs.trees.gather.Goals as goal

pub returns-in_err-gathered-clause-gives : goal.returns-in_err-gathered-clause-gives
returns-in_err-gathered-clause-gives g c = λ source agrees.
    let p = err_from_is_err_and c.from_residual.result c.from_residual.ensures.1 in
    rw (p.1, p.2) (described source c.args.name.now c.in_err-gathered.field-0.0 (c.in_err-gathered.ensures.gives source agrees))

pub returns-in_err-gathered-clause-one : goal.returns-in_err-gathered-clause-one
returns-in_err-gathered-clause-one g c = λ source known a b p q. one_description source c.args.name.now a b known p q

pub returns-clause-gives : goal.returns-clause-gives
returns-clause-gives g c = λ source agrees. (c.in_ok-gathered.gathered.used, c.in_ok-gathered.ensures.gives source agrees)

pub returns-clause-one : goal.returns-clause-one
returns-clause-one g c = λ source known a b p q. one_description source c.args.name.now a b known p q
