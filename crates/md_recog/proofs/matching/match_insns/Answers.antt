use Rattle.std.proofs.Common.{◌≡◌, true, false, rules, sym, subst, ◌∙◌}
use Rattle.md_match.proofs.Seen.{seen}
use Rattle.md_recog.proofs.Placed.{TellsAll}
use Rattle.md_recog.proofs.Usable.{HasShape, untaken, admitting, refusing}
use Rattle.md_recog.proofs.matching.match_insns.Goals as goal

pub returns-then-not-each_accepted-clause-operands : goal.returns-then-not-each_accepted-clause-operands
returns-then-not-each_accepted-clause-operands g c =
    let refused : c.each_accepted.result ≡ false = search rules in
    untaken (g.P.Preds.accepts c.args.preds.now) c.args.facts.now c.args.patterns.now c.args.condition.now (seen c.args.insns.now)
    (subst (TellsAll (g.P.Preds.accepts c.args.preds.now) c.args.patterns.now (seen c.args.insns.now)) refused c.each_accepted.ensures)

pub returns-else-is_met-clause-operands : goal.returns-else-is_met-clause-operands
returns-else-is_met-clause-operands g c =
    refusing (g.P.Preds.accepts c.args.preds.now) c.args.facts.now c.args.patterns.now c.args.condition.now (seen c.args.insns.now) c.in-Some.operands
    (subst (HasShape c.args.patterns.now (seen c.args.insns.now)) c.in-Some.is c.in_ok-operands.ensures.operands) (sym c.is_met.ensures ∙ c.if-is_met.false)

pub returns-then-is_met-clause-operands : goal.returns-then-is_met-clause-operands
returns-then-is_met-clause-operands g c =
    let taken : c.each_accepted.result ≡ true = search rules in
    admitting (g.P.Preds.accepts c.args.preds.now) c.args.facts.now c.args.patterns.now c.args.condition.now (seen c.args.insns.now) c.in-Some.operands
    (subst (HasShape c.args.patterns.now (seen c.args.insns.now)) c.in-Some.is c.in_ok-operands.ensures.operands)
    (subst (TellsAll (g.P.Preds.accepts c.args.preds.now) c.args.patterns.now (seen c.args.insns.now)) taken c.each_accepted.ensures) (sym c.is_met.ensures ∙ c.if-is_met.true)
