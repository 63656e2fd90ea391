use Rattle.std.proofs.Common.{map, refl}
use Rattle.term_tree.specs.View.{tree_of}
use Rattle.sym_term.specs.Views.{store_of}
use Rattle.sym_term.proofs.Steps.{source-moves, source-stays, source-ends}
use Rattle.sym_term.proofs.loads.source.Goals as goal

pub loop-number-init : goal.loop-number-init
loop-number-init c = refl

pub loop-number-preserved : goal.loop-number-preserved
loop-number-preserved c =
    source-moves (map store_of c.args.stores.now) c.args.w (tree_of c.args.a.now) c.loop-number.number _ c.in_ok-may_move.field-0 c.loop-number-test.true c.in_ok-may_move.ensures c.if-not-branch.false c.loop-number.invariant

pub returns-then-not-branch : goal.returns-then-not-branch
returns-then-not-branch c =
    source-stays (map store_of c.args.stores.now) c.args.w (tree_of c.args.a.now) c.loop-number.number _ c.in_ok-may_move.field-0 c.loop-number-test.true c.in_ok-may_move.ensures c.if-not-branch.true c.loop-number.invariant

pub returns : goal.returns
returns c =
    source-ends (map store_of c.args.stores.now) c.args.w (tree_of c.args.a.now) c.loop-number.number _ c.loop-number-test.false c.loop-number.invariant
