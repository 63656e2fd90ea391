use Rattle.std.proofs.Common.{refl}
use Rattle.sym_term.proofs.Loops.{divides_all-on, divides_all-not, divides_all-end}
use Rattle.sym_term.proofs.shifts.does_divide_all.Goals as goal

pub loop-atom-init : goal.loop-atom-init
loop-atom-init c = refl

pub loop-atom-preserved : goal.loop-atom-preserved
loop-atom-preserved c =
    divides_all-on c.args.d c.args.atoms.now c.loop-atom.atom-index c.atom-item.result _ c.loop-atom-test.true c.atom-item.is c.if-not-does_divide.ensures c.loop-atom.invariant

pub returns-then-not-does_divide : goal.returns-then-not-does_divide
returns-then-not-does_divide c =
    divides_all-not c.args.d c.args.atoms.now c.loop-atom.atom-index c.atom-item.result _ c.loop-atom-test.true c.atom-item.is c.if-not-does_divide.ensures c.loop-atom.invariant

pub returns : goal.returns
returns c =
    divides_all-end c.args.d c.args.atoms.now c.loop-atom.atom-index _ c.loop-atom-test.false c.loop-atom.invariant
