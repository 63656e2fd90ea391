use Rattle.std.proofs.Common.{subst}
use Rattle.rtx_tree.specs.declared.machine.World.{World}
use Rattle.same_behaviour.specs.Lawful.{AreAddresses}
use Rattle.code_eval.specs.Eval.{IsFair}
use Rattle.code_eval.proofs.Lawful.{eight_words, fair, all_fair, all_agree}
use Rattle.code_eval.proofs.eval.eval_text.Goals as goal

is_fair : (c : goal.After-drop-world-2) → IsFair c.args.f.now c.args.steps c.args.args
is_fair c = fair c.args.f.now c.args.steps c.args.args
    (eight_words c.args.args c.element_fits.fits c.element_fits2.fits c.element_fits3.fits c.element_fits4.fits c.element_fits5.fits c.element_fits6.fits c.element_fits7.fits c.element_fits8.fits)
    (subst (λ (w : World). AreAddresses w.symbols) c.in_ok-world.ensures.made c.in_ok-world.ensures.addresses)

pub returns-clause-fair : goal.returns-clause-fair
returns-clause-fair c = all_fair c.told_in.result c.args.f.now c.args.steps c.args.args (is_fair c)

pub returns-clause-same : goal.returns-clause-same
returns-clause-same c = all_agree c.told_in.result c.args.f.now c.args.items.now c.args.steps c.args.args (is_fair c)
