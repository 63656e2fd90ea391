use Rattle.std.proofs.Common.{◌≡◌, true, false, rules, subst}
use Rattle.md_match.proofs.Seen.{seen, seen_other, seen_within, seen_at}
use Rattle.md_recog.proofs.Placed.{Tells}
use Rattle.md_recog.proofs.Taken.{taken_next, taken_not, other_number}
use Rattle.md_recog.proofs.accepted.each_accepted.Goals as goal

pub returns-then-patterns-insns : goal.returns-then-patterns-insns
returns-then-patterns-insns g c =
    other_number (g.P.Preds.accepts c.args.preds.now) c.args.patterns.now (seen c.args.insns.now)
    (seen_other c.args.patterns.now c.args.insns.now (λ same. search rules))

pub returns-then-not-are_accepted : goal.returns-then-not-are_accepted
returns-then-not-are_accepted g c =
    let refused : c.are_accepted.result ≡ false = search rules in
    taken_not (g.P.Preds.accepts c.args.preds.now) c.args.patterns.now (seen c.args.insns.now) c.loop-i.i c.index-patterns-i.result
    c.index-insns-i.result.now (search rules) (seen_within c.args.insns.now c.loop-i.i (search rules)) c.index-patterns-i.is
    (seen_at c.args.insns.now c.loop-i.i c.index-insns-i.result (search rules) c.index-insns-i.is)
    (subst (Tells (g.P.Preds.accepts c.args.preds.now) c.index-patterns-i.result c.index-insns-i.result.now) refused c.are_accepted.ensures)
    c.loop-i.invariant

pub loop-i-preserved : goal.loop-i-preserved
loop-i-preserved g c =
    let taken : c.are_accepted.result ≡ true = search rules in
    taken_next (g.P.Preds.accepts c.args.preds.now) c.args.patterns.now (seen c.args.insns.now) c.loop-i.i c.index-patterns-i.result
    c.index-insns-i.result.now (search rules) (seen_within c.args.insns.now c.loop-i.i (search rules)) c.index-patterns-i.is
    (seen_at c.args.insns.now c.loop-i.i c.index-insns-i.result (search rules) c.index-insns-i.is)
    (subst (Tells (g.P.Preds.accepts c.args.preds.now) c.index-patterns-i.result c.index-insns-i.result.now) taken c.are_accepted.ensures)
    c.loop-i.invariant
