use Rattle.std.proofs.Common.{◌+◌, List, ◌∷◌, map, drop, refl, sym, ap}
use Rattle.term_tree.specs.declared.term.Term.{Term}
use Rattle.term_tree.specs.declared.term.Atom.{Atom}
use Rattle.term_tree.specs.Tree.{atoms_of, trees_of}
use Rattle.term_tree.specs.View.{tree_of, atom_of}
use Rattle.term_cuts.specs.term_mean.Normal.{normal_atoms, normal_all}
use Rattle.sym_term.specs.Views.{store_of}
use Rattle.sym_term.proofs.Loops.{made-start, made-on, made-end, normal_atoms-on}
use Rattle.sym_term.proofs.normal.+normal.Goals as goal

pub normal_sum-loop-atom-init : goal.normal_sum-loop-atom-init
normal_sum-loop-atom-init t c =
    made-start atom_of (λ (xs : List Atom). normal_atoms (map store_of c.args.stores.now) (atoms_of (map atom_of xs))) c.args.atoms.now c.new-normals.result.items c.new-normals.ensures.items

pub normal_sum-loop-atom-preserved : goal.normal_sum-loop-atom-preserved
normal_sum-loop-atom-preserved t c =
    let stores = map store_of c.args.stores.now in
    let x = c.atom-item.result in
    let y : Atom = record { coefficient = x.coefficient; term = c.in_ok-normal.field-0 } in
    made-on atom_of (λ (xs : List Atom). normal_atoms stores (atoms_of (map atom_of xs))) c.args.atoms.now c.loop-atom.atom-index x c.loop-atom.normals.items c.push.new.self.items y c.loop-atom-test.true
    c.atom-item.is c.in_ok-push.ensures.items
    (normal_atoms-on stores x y (drop (c.loop-atom.atom-index + 1) c.args.atoms.now) refl c.in_ok-normal.ensures)
    c.loop-atom.invariant

pub normal_parts-loop-part-init : goal.normal_parts-loop-part-init
normal_parts-loop-part-init t c =
    made-start tree_of (λ (ts : List Term). normal_all (map store_of c.args.stores.now) (trees_of (map tree_of ts))) c.args.parts.now c.new-normals.result.items c.new-normals.ensures.items

pub normal_parts-loop-part-preserved : goal.normal_parts-loop-part-preserved
normal_parts-loop-part-preserved t c =
    let stores = map store_of c.args.stores.now in
    let x = c.part-item.result in
    made-on tree_of (λ (ts : List Term). normal_all stores (trees_of (map tree_of ts))) c.args.parts.now c.loop-part.part-index x c.loop-part.normals.items c.push.new.self.items c.in_ok-normal.field-0
    c.loop-part-test.true c.part-item.is c.in_ok-push.ensures.items
    (ap (λ u. u ∷ normal_all stores (trees_of (map tree_of (drop (c.loop-part.part-index + 1) c.args.parts.now)))) (sym c.in_ok-normal.ensures))
    c.loop-part.invariant

pub normal_parts-returns : goal.normal_parts-returns
normal_parts-returns t c =
    made-end tree_of (λ (ts : List Term). normal_all (map store_of c.args.stores.now) (trees_of (map tree_of ts))) c.args.parts.now c.loop-part.part-index c.loop-part.normals.items c.loop-part-test.false refl c.loop-part.invariant
