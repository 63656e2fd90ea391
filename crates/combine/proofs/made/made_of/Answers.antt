use Rattle.std.proofs.Common.{◌≡◌, Some, refl, ap, sym, ◌∙◌}
use Rattle.std.specs.Prelude.{slice_get}
use Rattle.std.proofs.lemmas.Option.{slice_get_read}
use Rattle.rtx_tree.specs.Tree.{kids_of}
use Rattle.combine.proofs.Found.{is_made, not_made}
use Rattle.combine.proofs.made.made_of.Goals as goal
use Rattle.combine.proofs.made.made_of.Goals.{In-Some}

source_is : (c : In-Some) → slice_get (kids_of c.insn-one.result.now.pattern) 1 ≡ Some c.in-Some.source.now
source_is c =
    ap (λ kids. slice_get kids 1) (sym c.as_slice.ensures.value)
    ∙ slice_get_read c.as_slice.result.now _ 1 c.in-Some.source.now refl c.in-Some.ensures.lookup.3.0 (c.in-Some.ensures.lookup.3.1 c.in-Some.source.now)

pub returns-then-branch : goal.returns-then-branch
returns-then-branch c =
    is_made c.args.desc.now c.args.chain.now c.args.first c.args.second c.args.path.now c.insn-one.result.now c.insn-other.result.now c.insn-one.ensures c.insn-other.ensures
    c.in-Some.source.now c.in_ok-x.x (source_is (goal.at.returns-then-branch c).In-Some) c.in_ok-x.ensures.fused (c.in_ok-is_formed.ensures.some c.if-branch.true)

pub returns-else-branch : goal.returns-else-branch
returns-else-branch c =
    not_made c.args.desc.now c.args.chain.now c.args.first c.args.second c.args.path.now c.insn-one.result.now c.insn-other.result.now c.insn-one.ensures c.insn-other.ensures
    c.in-Some.source.now c.in_ok-x.x (source_is (goal.at.returns-else-branch c).In-Some) c.in_ok-x.ensures.fused (c.in_ok-is_formed.ensures.none c.if-branch.false)
