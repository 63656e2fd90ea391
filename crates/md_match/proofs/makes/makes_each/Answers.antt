use Rattle.std.proofs.Common.{rules}
use Rattle.md_match.proofs.Parts.{other_length, decides_next, decides_not}
use Rattle.md_match.proofs.Seen.{seen, seen_other, seen_within, seen_at}
use Rattle.md_match.proofs.makes.makes_each.Goals as goal

pub returns-then-patterns-insns : goal.returns-then-patterns-insns
returns-then-patterns-insns c =
    other_length c.args.patterns.now (seen c.args.insns.now) c.args.operands.now (seen_other c.args.patterns.now c.args.insns.now (λ same. search rules))

pub returns-then-not-makes : goal.returns-then-not-makes
returns-then-not-makes c =
    decides_not c.args.patterns.now (seen c.args.insns.now) c.args.operands.now c.loop-i.i c.index-patterns-i.result c.index-insns-i.result.now (search rules) (seen_within c.args.insns.now c.loop-i.i (search rules))
    c.index-patterns-i.is (seen_at c.args.insns.now c.loop-i.i c.index-insns-i.result (search rules) c.index-insns-i.is) (λ m. search rules) c.loop-i.invariant

pub loop-i-preserved : goal.loop-i-preserved
loop-i-preserved c =
    decides_next c.args.patterns.now (seen c.args.insns.now) c.args.operands.now c.loop-i.i c.index-patterns-i.result c.index-insns-i.result.now (search rules) (seen_within c.args.insns.now c.loop-i.i (search rules))
    c.index-patterns-i.is (seen_at c.args.insns.now c.loop-i.i c.index-insns-i.result (search rules) c.index-insns-i.is) (c.makes.ensures.0 (search rules)) c.loop-i.invariant
