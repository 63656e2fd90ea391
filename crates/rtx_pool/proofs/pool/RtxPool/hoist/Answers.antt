use Rattle.std.proofs.Common.{◌≡◌, IsSome, IfSome, ap, sym, subst, ◌∙◌}
use Rattle.std.proofs.lemmas.Option.{same_Some}
use Rattle.std.specs.Prelude.{option_and_then}
use Rattle.node_pool.specs.Slots.{value_at}
use Rattle.rtx_tree.specs.Tree.{part_at, replaced_at}
use Rattle.rtx_pool.specs.Trees.{part_of}
use Rattle.rtx_pool.proofs.Roots.{before_some, with_some, changed_again}
use Rattle.rtx_pool.proofs.pool.RtxPool.hoist.Goals as goal

pub lend-tree-requires : goal.lend-tree-requires
lend-tree-requires c =
    before_some (λ tree. part_at tree c.args.path.now) (value_at c.args.self.now.trees c.args.root.index)
    (before_some (λ part. part_at part c.args.inner.now) (part_of c.args.self.now.trees c.args.root.index c.args.path.now) c.requires)

pub hoist-requires : goal.hoist-requires
hoist-requires c =
    subst (λ o. IsSome (option_and_then (λ part. part_at part c.args.inner.now) (option_and_then (λ tree. part_at tree c.args.path.now) o)))
    c.lend-tree.ensures.tree c.requires

pub returns : goal.returns
returns c = λ tree part kept is at there.
    let same : c.lend-tree.result ≡ tree = same_Some _ _ (sym c.lend-tree.ensures.tree ∙ is) in
    changed_again c.args.self.now.trees c.lend-tree.new.self.trees c.put_back.new.self.trees c.args.root.index c.hoist.new.x
    (replaced_at c.args.path.now kept tree)
    c.lend-tree.ensures.others c.lend-tree.ensures.room c.put_back.ensures
    (with_some (λ k. c.hoist.new.x ≡ replaced_at c.args.path.now k c.lend-tree.result)
    (part_at part c.args.inner.now) kept there
    (with_some (λ p. IfSome (part_at p c.args.inner.now) (λ k. c.hoist.new.x ≡ replaced_at c.args.path.now k c.lend-tree.result))
    (part_at c.lend-tree.result c.args.path.now) part (ap (λ t. part_at t c.args.path.now) same ∙ at) c.hoist.ensures) ∙
    ap (replaced_at c.args.path.now kept) same)
