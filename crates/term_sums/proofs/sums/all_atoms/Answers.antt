use Rattle.std.proofs.Common.{refl}
use Rattle.term_mean.specs.Sums.{all_atoms}
use Rattle.term_sums.proofs.SumsLaws.{all_atoms-next, nothing-behind}
use Rattle.term_sums.proofs.sums.all_atoms.Goals as goal

pub loop-x-preserved : goal.loop-x-preserved
loop-x-preserved c = all_atoms-next c.args.w _ _ _ _ _ _ c.loop-x-test.true c.x-item.is c.in_ok-push_atoms_of.ensures c.loop-x.invariant

pub returns : goal.returns
returns c = nothing-behind (all_atoms c.args.w) c.args.terms.now _ _ _ refl c.loop-x-test.false c.loop-x.invariant
