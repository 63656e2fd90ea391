use Rattle.std.proofs.Common.{◌≡◌, ap, sym, subst, ◌∙◌, rules, w64, to_z, of_z, IfSome}
use Rattle.std.proofs.lemmas.Int.{to_z-of_z}
use Rattle.std.proofs.lemmas.Option.{same_Some}
use Rattle.node_pool.specs.Slots.{value_at}
use Rattle.rtx_tree.specs.Tree.{part_at, replaced_at}
use Rattle.rtx_pool.specs.Trees.{with_head}
use Rattle.rtx_pool.proofs.Roots.{before_some, behind_some, with_some, changed_again}
use Rattle.rtx_pool.proofs.pool.RtxPool.set_head.Goals as goal

pub lend-tree-requires : goal.lend-tree-requires
lend-tree-requires c =
    before_some (λ tree. part_at tree c.args.path.now) (value_at c.args.self.now.trees c.args.root.index) c.requires

pub set_head-requires : goal.set_head-requires
set_head-requires c =
    behind_some (λ tree. part_at tree c.args.path.now) (value_at c.args.self.now.trees c.args.root.index) c.lend-tree.result c.lend-tree.ensures.tree c.requires

pub returns : goal.returns
returns c = λ tree part is at.
    let number : to_z w64 (of_z w64 c.args.number) ≡ c.args.number = search (rules, to_z-of_z) in
    let same : c.lend-tree.result ≡ tree = same_Some _ _ (sym c.lend-tree.ensures.tree ∙ is) in
    changed_again c.args.self.now.trees c.lend-tree.new.self.trees c.put_back.new.self.trees c.args.root.index c.set_head.new.x
    (replaced_at c.args.path.now (with_head c.args.code c.args.mode c.args.number part) tree)
    c.lend-tree.ensures.others c.lend-tree.ensures.room c.put_back.ensures
    (with_some (λ p. c.set_head.new.x ≡ replaced_at c.args.path.now (with_head c.args.code c.args.mode c.args.number p) c.lend-tree.result)
    (part_at c.lend-tree.result c.args.path.now) part (ap (λ t. part_at t c.args.path.now) same ∙ at) (subst (λ n. IfSome (part_at c.lend-tree.result c.args.path.now) (λ p. c.set_head.new.x ≡ replaced_at c.args.path.now (with_head c.args.code c.args.mode n p) c.lend-tree.result)) number c.set_head.ensures) ∙
    ap (replaced_at c.args.path.now (with_head c.args.code c.args.mode c.args.number part)) same)
