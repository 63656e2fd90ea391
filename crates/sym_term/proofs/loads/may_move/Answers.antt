use Rattle.std.proofs.Common.{◌≡◌, Option, ap, subst}
use Rattle.std.specs.Result.{IfOk}
use Rattle.term_tree.specs.View.{tree_of}
use Rattle.term_cuts.specs.term_mean.Stores.{Store}
use Rattle.term_cuts.specs.term_mean.Loads.{lies_apart}
use Rattle.sym_term.specs.Views.{store_of}
use Rattle.sym_term.proofs.Steps.{seen}
use Rattle.sym_term.proofs.loads.may_move.Goals as goal

pub returns-in-None : goal.returns-in-None
returns-in-None c =
    ap (λ s. lies_apart c.args.w (tree_of c.args.a.now) s) (seen store_of c.args.stores.now c.args.index _ c.in-None.ensures)

pub returns-in-Some : goal.returns-in-Some
returns-in-Some c =
    subst (λ (s : Option Store). IfOk c.lies_apart.result (λ r. r ≡ lies_apart c.args.w (tree_of c.args.a.now) s))
    (seen store_of c.args.stores.now c.args.index _ c.in-Some.ensures)
    c.lies_apart.ensures
