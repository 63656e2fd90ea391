use Rattle.std.proofs.Common.{rules, subst}
use Rattle.md_match.specs.machine.Collected.{Makes, Collects, is_given_in}
use Rattle.md_match.proofs.Reaching.{other_length, reaches_next, reaches_none, reaches_end}
use Rattle.md_match.proofs.Seen.{seen, seen_other, seen_within, seen_end, seen_at}
use Rattle.md_match.proofs.collect.collect_each.Goals as goal

pub returns-then-patterns-insns : goal.returns-then-patterns-insns
returns-then-patterns-insns c =
    other_length c.args.patterns.now (seen c.args.insns.now) (seen_other c.args.patterns.now c.args.insns.now (λ same. search rules))

pub returns-in-None : goal.returns-in-None
returns-in-None c =
    reaches_none c.args.patterns.now (seen c.args.insns.now) c.args.operands c.loop-i.operands c.loop-i.i c.index-patterns-i.result c.index-insns-i.result.now (search rules) (seen_within c.args.insns.now c.loop-i.i (search rules))
    c.index-patterns-i.is (seen_at c.args.insns.now c.loop-i.i c.index-insns-i.result (search rules) c.index-insns-i.is)
    (subst (Collects (λ k. is_given_in k c.index-patterns-i.result) (Makes c.index-patterns-i.result c.index-insns-i.result.now) c.loop-i.operands) c.in-None.is c.in_ok-collect.ensures) c.loop-i.invariant

pub loop-i-preserved : goal.loop-i-preserved
loop-i-preserved c =
    reaches_next c.args.patterns.now (seen c.args.insns.now) c.args.operands c.loop-i.operands c.in-Some.more c.loop-i.i c.index-patterns-i.result c.index-insns-i.result.now (search rules) (seen_within c.args.insns.now c.loop-i.i (search rules))
    c.index-patterns-i.is (seen_at c.args.insns.now c.loop-i.i c.index-insns-i.result (search rules) c.index-insns-i.is)
    (subst (Collects (λ k. is_given_in k c.index-patterns-i.result) (Makes c.index-patterns-i.result c.index-insns-i.result.now) c.loop-i.operands) c.in-Some.is c.in_ok-collect.ensures) c.loop-i.invariant

pub returns : goal.returns
returns c =
    reaches_end c.args.patterns.now (seen c.args.insns.now) c.args.operands c.loop-i.operands c.loop-i.i (search rules) (seen_end c.args.insns.now c.loop-i.i (search rules)) c.loop-i.invariant
