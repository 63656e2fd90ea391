use Rattle.std.proofs.Common.{IsSome, ap, sym, subst, ◌∙◌}
use Rattle.rtx_tree.specs.Tree.{part_at, replaced_at}
use Rattle.insn_fuse.proofs.Placed.{roots_differ, part_live, path_there, whole_live, whole_taken}
use Rattle.insn_fuse.proofs.putting.joined.Goals as goal

pub replace_at-requires-clause-differ : goal.replace_at-requires-clause-differ
replace_at-requires-clause-differ c =
    roots_differ c.reserve.new.self.trees c.place.new.self.trees c.place-2.new.self.trees c.in_ok-whole.whole.index c.in_ok-part.part.index
    c.args.second.now c.args.source.now c.in_ok-whole.ensures.ok c.in_ok-part.ensures.ok

pub replace_at-requires-clause-live : goal.replace_at-requires-clause-live
replace_at-requires-clause-live c =
    part_live c.reserve.new.self.trees c.place.new.self.trees c.place-2.new.self.trees c.in_ok-whole.whole.index c.in_ok-part.part.index
    c.args.second.now c.args.source.now c.in_ok-whole.ensures.ok c.in_ok-part.ensures.ok

pub replace_at-requires-clause-there : goal.replace_at-requires-clause-there
replace_at-requires-clause-there c =
    path_there c.reserve.new.self.trees c.place.new.self.trees c.place-2.new.self.trees c.in_ok-whole.whole.index c.in_ok-part.part.index
    c.args.second.now c.args.source.now c.in_ok-whole.ensures.ok c.in_ok-part.ensures.ok c.as_slice.result.now
    (subst (λ path. IsSome (part_at c.args.second.now path)) (sym c.as_slice.ensures.value) c.requires)

pub take-requires : goal.take-requires
take-requires c =
    whole_live c.reserve.new.self.trees c.place.new.self.trees c.place-2.new.self.trees c.in_ok-whole.whole.index c.in_ok-part.part.index
    c.args.second.now c.args.source.now c.in_ok-whole.ensures.ok c.in_ok-part.ensures.ok c.replace_at.new.self.trees c.as_slice.result.now c.replace_at.ensures

pub returns : goal.returns
returns c =
    whole_taken c.reserve.new.self.trees c.place.new.self.trees c.place-2.new.self.trees c.in_ok-whole.whole.index c.in_ok-part.part.index
    c.args.second.now c.args.source.now c.in_ok-whole.ensures.ok c.in_ok-part.ensures.ok c.replace_at.new.self.trees c.as_slice.result.now c.replace_at.ensures
    c.take.result c.take.ensures.tree
    ∙ ap (λ path. replaced_at path c.args.source.now c.args.second.now) c.as_slice.ensures.value
