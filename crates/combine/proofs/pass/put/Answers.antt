use Rattle.std.proofs.Common.{◌+◌, ◌≤◌, length, sym, ap, subst, ◌∙◌}
use Rattle.std.specs.Prelude.{IfSome}
use Rattle.std.proofs.lemmas.Option.{slice_get_within}
use Rattle.live_chain.specs.Stays.{StaysBefore}
use Rattle.live_chain.specs.Rows.{AreRowsFor}
use Rattle.new_insns.specs.Replaced.{replaced}
use Rattle.combine.proofs.Ends.{pair_shorter}
use Rattle.combine.proofs.Next.{none_put}
use Rattle.combine.proofs.pass.put.Goals as goal

pub fuse-requires-clause-shorter : goal.fuse-requires-clause-shorter
fuse-requires-clause-shorter c =
    let p = c.requires.pair in
    subst (λ end. c.args.pair.first + length c.args.pair.new ≤ end) (sym c.in_ok-end.ensures)
    (pair_shorter c.args.chain.now c.args.pair.first c.args.pair.second p.pattern c.args.pair.new p.combines.before
    (slice_get_within c.args.chain.now.insns c.args.pair.second p.combines.links.other p.combines.links.at_second) p.new_is)

pub fuse-requires-clause-rows : goal.fuse-requires-clause-rows
fuse-requires-clause-rows c =
    let p = c.args.pair in
    subst (λ f. IfSome c.in_ok-rows.rows (AreRowsFor f p.first c.in_ok-end.end p.new)) (sym c.in_ok-rows.ensures.same)
    (subst (λ new. IfSome c.in_ok-rows.rows (AreRowsFor c.args.chain.now p.first c.in_ok-end.end new)) c.as_slice.ensures.value c.in_ok-rows.ensures.rows)

pub returns-then-fuse-clause-none : goal.returns-then-fuse-clause-none
returns-then-fuse-clause-none c =
    let same = c.in_ok-rows.ensures.same in
    none_put c.args.desc.now c.args.chain.now c.args.pair c.requires c.fuse.new.self c.in_ok-end.end
    (c.fuse.ensures.replaced ∙ ap (λ f. replaced f c.args.pair.first c.in_ok-end.end c.args.pair.new) same)
    (subst (λ f. StaysBefore f c.fuse.new.self c.args.pair.first) same (c.fuse.ensures.stays c.if-fuse.true))
