use Rattle.std.proofs.Common.{◌≡◌, ◌∙◌, ap, rules, w64, to_z, of_z}
use Rattle.std.proofs.lemmas.Int.{to_z-of_z}
use Rattle.rtx_tree.specs.Tree.{part_at, replaced_at}
use Rattle.rtx_pool.specs.Trees.{with_head}
use Rattle.rtx_pool.proofs.Parts.{at_some, changed, still_there}
use Rattle.rtx_pool.proofs.change.set_head.Goals as goal

pub replace_at-requires : goal.replace_at-requires
replace_at-requires c =
    still_there c.args.x.now c.replace_at-part.new.self _ c.replace_at-part.result c.args.path.now c.replace_at-part.ensures.part c.replace_at-part.ensures.tree

pub returns : goal.returns
returns c =
    let number : to_z w64 (of_z w64 c.args.number) ≡ c.args.number = search (rules, to_z-of_z) in
    at_some (λ part. c.replace_at.new.self ≡ replaced_at c.args.path.now (with_head c.args.code c.args.mode c.args.number part) c.args.x.now)
    (part_at c.args.x.now c.args.path.now) c.replace_at-part.result c.replace_at-part.ensures.part
    (changed c.args.x.now c.replace_at-part.new.self c.replace_at.new.self _ c.replace_at-part.result
    (with_head c.args.code c.args.mode c.args.number c.replace_at-part.result) c.args.path.now
    c.replace_at-part.ensures.part c.replace_at-part.ensures.tree
    (c.replace_at.ensures.tree ∙
    (ap (λ part. replaced_at c.args.path.now part c.replace_at-part.new.self) c.put_head.ensures ∙
    ap (λ n. replaced_at c.args.path.now (with_head c.args.code c.args.mode n c.replace_at-part.result) c.replace_at-part.new.self) number)))
