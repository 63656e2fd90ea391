use Rattle.std.proofs.Common.{◌≡◌, IsSome, ap, sym, subst, ◌∙◌}
use Rattle.std.proofs.lemmas.Option.{same_Some}
use Rattle.node_pool.specs.Slots.{value_at}
use Rattle.rtx_tree.specs.Tree.{part_at, replaced_at}
use Rattle.rtx_pool.proofs.Roots.{before_some, behind_some, joined_root}
use Rattle.rtx_pool.proofs.pool.RtxPool.replace_at.Goals as goal

pub lend-tree-requires : goal.lend-tree-requires
lend-tree-requires c =
    subst IsSome (sym (c.take-part.ensures.released.others c.args.root.index c.requires.differ))
    (before_some (λ tree. part_at tree c.args.path.now) (value_at c.args.self.now.trees c.args.root.index) c.requires.there)

pub replace_at-requires : goal.replace_at-requires
replace_at-requires c =
    behind_some (λ tree. part_at tree c.args.path.now) (value_at c.args.self.now.trees c.args.root.index) c.lend-tree.result
    (sym (c.take-part.ensures.released.others c.args.root.index c.requires.differ) ∙ c.lend-tree.ensures.tree) c.requires.there

pub returns : goal.returns
returns c = λ tree part is at.
    let same : c.lend-tree.result ≡ tree =
    same_Some _ _ (sym c.lend-tree.ensures.tree ∙ (c.take-part.ensures.released.others c.args.root.index c.requires.differ ∙ is)) in
    let put : c.take-part.result ≡ part = same_Some _ _ (sym c.take-part.ensures.tree ∙ at) in
    joined_root c.args.self.now.trees c.take-part.new.self.trees c.lend-tree.new.self.trees c.put_back.new.self.trees
    c.args.root.index c.args.new.index c.replace_at.new.self (replaced_at c.args.path.now part tree) c.requires.differ
    c.take-part.ensures.released c.lend-tree.ensures.others c.lend-tree.ensures.room c.put_back.ensures
    (c.replace_at.ensures.tree ∙
    (ap (λ p. replaced_at c.args.path.now p c.lend-tree.result) put ∙ ap (replaced_at c.args.path.now part) same))
