use Rattle.std.proofs.Common.{◌+◌, ◌/◌, List, map, drop, refl}
use Rattle.term_tree.specs.declared.term.Atom.{Atom}
use Rattle.term_tree.specs.Tree.{atoms_of}
use Rattle.term_tree.specs.View.{atom_of}
use Rattle.term_cuts.specs.term_mean.Shifts.{quotients}
use Rattle.sym_term.proofs.Loops.{made-start, made-on, made-end, quotients-on}
use Rattle.sym_term.proofs.shifts.quotients.Goals as goal

pub loop-atom-init : goal.loop-atom-init
loop-atom-init c =
    made-start atom_of (λ (xs : List Atom). quotients c.args.d (atoms_of (map atom_of xs))) c.args.atoms.now c.new-quotients.result.items c.new-quotients.ensures.items

pub loop-atom-preserved : goal.loop-atom-preserved
loop-atom-preserved c =
    let x = c.atom-item.result in
    let y : Atom = record { coefficient = x.coefficient / c.args.d; term = c.in_ok-copy.field-0 } in
    made-on atom_of (λ (xs : List Atom). quotients c.args.d (atoms_of (map atom_of xs))) c.args.atoms.now c.loop-atom.atom-index x c.loop-atom.quotients.items c.push.new.self.items y c.loop-atom-test.true
    c.atom-item.is c.in_ok-push.ensures.items
    (quotients-on c.args.d x y (drop (c.loop-atom.atom-index + 1) c.args.atoms.now) refl c.in_ok-copy.ensures)
    c.loop-atom.invariant

pub returns : goal.returns
returns c =
    made-end atom_of (λ (xs : List Atom). quotients c.args.d (atoms_of (map atom_of xs))) c.args.atoms.now c.loop-atom.atom-index c.loop-atom.quotients.items c.loop-atom-test.false refl c.loop-atom.invariant
