use Rattle.std.proofs.Common.{◌≡◌, ◌∙◌, ap, length}
use Rattle.rtx_tree.specs.Tree.{head_of, kids_of, tree_of, part_at, replaced_at}
use Rattle.rtx_pool.specs.Trees.{with_kids_turned}
use Rattle.rtx_pool.proofs.Parts.{at_some, changed, still_there}
use Rattle.rtx_pool.proofs.Roots.{with_some}
use Rattle.rtx_pool.proofs.change.swap.Goals as goal

pub exchange-requires : goal.exchange-requires
exchange-requires c =
    with_some (λ part. length (kids_of part) ≡ 2) (part_at c.args.x.now c.args.path.now) c.replace_at-part.result c.replace_at-part.ensures.part c.requires.two

pub replace_at-requires : goal.replace_at-requires
replace_at-requires c =
    still_there c.args.x.now c.replace_at-part.new.self _ c.replace_at-part.result c.args.path.now c.replace_at-part.ensures.part c.replace_at-part.ensures.tree

pub returns : goal.returns
returns c =
    at_some (λ part. c.replace_at.new.self ≡ replaced_at c.args.path.now (with_kids_turned part) c.args.x.now)
    (part_at c.args.x.now c.args.path.now) c.replace_at-part.result c.replace_at-part.ensures.part
    (changed c.args.x.now c.replace_at-part.new.self c.replace_at.new.self _ c.replace_at-part.result
    (with_kids_turned c.replace_at-part.result) c.args.path.now
    c.replace_at-part.ensures.part c.replace_at-part.ensures.tree
    (c.replace_at.ensures.tree ∙
    ap (λ kids. replaced_at c.args.path.now (tree_of (head_of c.replace_at-part.result) kids) c.replace_at-part.new.self) c.exchange.ensures))
