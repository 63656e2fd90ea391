use Rattle.std.proofs.Common.{◌≡◌, List, map, sym, subst}
use Rattle.std.specs.Result.{IfOk}
use Rattle.term_tree.specs.Tree.{Tree}
use Rattle.term_tree.specs.View.{tree_of}
use Rattle.term_cuts.specs.term_mean.Normal.{built_parts}
use Rattle.sym_term.specs.Views.{store_of}
use Rattle.sym_term.proofs.normal.build_parts.Goals as goal

pub returns-in-len1 : goal.returns-in-len1
returns-in-len1 c =
    subst (λ (ts : List Tree). IfOk c.build_one.result (λ r. tree_of r ≡ built_parts (map store_of c.args.stores.now) c.args.head c.args.w c.args.number c.args.name ts)) (sym c.only_part.ensures) c.build_one.ensures

pub returns-in-len2 : goal.returns-in-len2
returns-in-len2 c =
    subst (λ (ts : List Tree). IfOk c.build_two.result (λ r. tree_of r ≡ built_parts (map store_of c.args.stores.now) c.args.head c.args.w c.args.number c.args.name ts)) (sym c.both_parts-a.ensures) c.build_two.ensures
