use Rattle.std.proofs.Common.{◌≡◌, IfSome}
use Rattle.rtx_tree.specs.Tree.{part_at, replaced_at}
use Rattle.rtx_pool.proofs.Parts.{at_some, changed, still_there}
use Rattle.rtx_pool.proofs.Roots.{before_some, behind_some}
use Rattle.rtx_pool.proofs.change.hoist.Goals as goal

pub replace_at-part-requires : goal.replace_at-part-requires
replace_at-part-requires c =
    before_some (λ part. part_at part c.args.inner.now) (part_at c.args.x.now c.args.path.now) c.requires

pub replace_at-kept-requires : goal.replace_at-kept-requires
replace_at-kept-requires c =
    behind_some (λ part. part_at part c.args.inner.now) (part_at c.args.x.now c.args.path.now) c.replace_at-part.result c.replace_at-part.ensures.part c.requires

pub replace_at-requires : goal.replace_at-requires
replace_at-requires c =
    still_there c.args.x.now c.replace_at-part.new.self _ c.replace_at-part.result c.args.path.now c.replace_at-part.ensures.part c.replace_at-part.ensures.tree

pub returns : goal.returns
returns c =
    at_some (λ part. IfSome (part_at part c.args.inner.now) (λ kept. c.replace_at.new.self ≡ replaced_at c.args.path.now kept c.args.x.now))
    (part_at c.args.x.now c.args.path.now) c.replace_at-part.result c.replace_at-part.ensures.part
    (at_some (λ kept. c.replace_at.new.self ≡ replaced_at c.args.path.now kept c.args.x.now)
    (part_at c.replace_at-part.result c.args.inner.now) c.replace_at-kept.result c.replace_at-kept.ensures.part
    (changed c.args.x.now c.replace_at-part.new.self c.replace_at.new.self _ c.replace_at-part.result
    c.replace_at-kept.result c.args.path.now
    c.replace_at-part.ensures.part c.replace_at-part.ensures.tree c.replace_at.ensures.tree))
