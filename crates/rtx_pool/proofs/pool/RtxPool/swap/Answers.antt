use Rattle.std.proofs.Common.{◌≡◌, length, IfSome, ap, sym, subst, ◌∙◌}
use Rattle.std.proofs.lemmas.Option.{same_Some}
use Rattle.std.specs.Prelude.{option_and_then}
use Rattle.node_pool.specs.Slots.{value_at}
use Rattle.rtx_tree.specs.Tree.{kids_of, part_at, replaced_at}
use Rattle.rtx_pool.specs.Trees.{with_kids_turned}
use Rattle.rtx_pool.proofs.Roots.{before_some, behind_some, with_some, changed_again}
use Rattle.rtx_pool.proofs.pool.RtxPool.swap.Goals as goal

pub lend-tree-requires : goal.lend-tree-requires
lend-tree-requires c =
    before_some (λ tree. part_at tree c.args.path.now) (value_at c.args.self.now.trees c.args.root.index) c.requires.there

pub swap-requires-clause-there : goal.swap-requires-clause-there
swap-requires-clause-there c =
    behind_some (λ tree. part_at tree c.args.path.now) (value_at c.args.self.now.trees c.args.root.index) c.lend-tree.result c.lend-tree.ensures.tree c.requires.there

pub swap-requires-clause-two : goal.swap-requires-clause-two
swap-requires-clause-two c =
    subst (λ o. IfSome (option_and_then (λ tree. part_at tree c.args.path.now) o) (λ part. length (kids_of part) ≡ 2))
    c.lend-tree.ensures.tree c.requires.two

pub returns : goal.returns
returns c = λ tree part is at.
    let same : c.lend-tree.result ≡ tree = same_Some _ _ (sym c.lend-tree.ensures.tree ∙ is) in
    changed_again c.args.self.now.trees c.lend-tree.new.self.trees c.put_back.new.self.trees c.args.root.index c.swap.new.x
    (replaced_at c.args.path.now (with_kids_turned part) tree)
    c.lend-tree.ensures.others c.lend-tree.ensures.room c.put_back.ensures
    (with_some (λ p. c.swap.new.x ≡ replaced_at c.args.path.now (with_kids_turned p) c.lend-tree.result)
    (part_at c.lend-tree.result c.args.path.now) part (ap (λ t. part_at t c.args.path.now) same ∙ at) c.swap.ensures ∙
    ap (replaced_at c.args.path.now (with_kids_turned part)) same)
