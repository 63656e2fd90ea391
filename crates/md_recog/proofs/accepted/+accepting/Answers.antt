use Rattle.std.proofs.Common.{◌≡◌, true, false, rules, sym, subst, ◌∙◌}
use Rattle.md_recog.proofs.Placed.{Tells, operator_accepted, itself_accepted}
use Rattle.md_recog.proofs.Taken.{taken_next, taken_not, other_number}
use Rattle.md_recog.proofs.accepted.+accepting.Goals as goal

pub are_accepted-returns-else-not-is_accepted : goal.are_accepted-returns-else-not-is_accepted
are_accepted-returns-else-not-is_accepted g t c =
    operator_accepted (g.P.Preds.accepts c.args.preds.now) c.args.pattern.now c.args.insn.now c.as_slice.result.now c.as_slice-in-Operator.result.now c.all_accepted.result (sym c.role_of.ensures ∙ c.in-Operator.is)
    (search rules) c.as_slice.ensures.value c.as_slice-in-Operator.ensures.value c.all_accepted.ensures

pub are_accepted-returns-else-not-same_head : goal.are_accepted-returns-else-not-same_head
are_accepted-returns-else-not-same_head g t c =
    itself_accepted (g.P.Preds.accepts c.args.preds.now) c.args.pattern.now c.args.insn.now c.as_slice-in-Itself.result.now c.as_slice-in-Itself-2.result.now c.all_accepted-in-Itself.result (sym c.role_of.ensures ∙ c.in-Itself.is)
    c.as_slice-in-Itself.ensures.value c.as_slice-in-Itself-2.ensures.value c.all_accepted-in-Itself.ensures

pub all_accepted-returns-then-patterns-insns : goal.all_accepted-returns-then-patterns-insns
all_accepted-returns-then-patterns-insns g t c =
    other_number (g.P.Preds.accepts c.args.preds.now) c.args.patterns.now c.args.insns.now (λ same. search rules)

pub all_accepted-returns-then-not-are_accepted : goal.all_accepted-returns-then-not-are_accepted
all_accepted-returns-then-not-are_accepted g t c =
    let refused : c.are_accepted.result ≡ false = search rules in
    taken_not (g.P.Preds.accepts c.args.preds.now) c.args.patterns.now c.args.insns.now c.loop-i.i c.index-patterns-i.result c.index-insns-i.result (search rules) (search rules) c.index-patterns-i.is c.index-insns-i.is
    (subst (Tells (g.P.Preds.accepts c.args.preds.now) c.index-patterns-i.result c.index-insns-i.result) refused c.are_accepted.ensures) c.loop-i.invariant

pub all_accepted-loop-i-preserved : goal.all_accepted-loop-i-preserved
all_accepted-loop-i-preserved g t c =
    let taken : c.are_accepted.result ≡ true = search rules in
    taken_next (g.P.Preds.accepts c.args.preds.now) c.args.patterns.now c.args.insns.now c.loop-i.i c.index-patterns-i.result c.index-insns-i.result (search rules) (search rules) c.index-patterns-i.is c.index-insns-i.is
    (subst (Tells (g.P.Preds.accepts c.args.preds.now) c.index-patterns-i.result c.index-insns-i.result) taken c.are_accepted.ensures) c.loop-i.invariant
