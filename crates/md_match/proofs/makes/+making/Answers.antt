use Rattle.std.proofs.Common.{rules, sym, ◌∙◌}
use Rattle.md_match.proofs.Decided.{operator_decided, itself_decided}
use Rattle.md_match.proofs.Parts.{decides_next, decides_not}
use Rattle.md_match.proofs.makes.+making.Goals as goal

pub makes-returns-else-not-names_operator : goal.makes-returns-else-not-names_operator
makes-returns-else-not-names_operator t c =
    operator_decided c.args.pattern.now c.args.insn.now c.args.operands.now c.as_slice.result.now c.as_slice-in-Operator.result.now c.makes_all.result (sym c.role_of.ensures ∙ c.in-Operator.is)
    (c.names_operator.ensures.0 (search rules)) c.as_slice.ensures.value c.as_slice-in-Operator.ensures.value c.makes_all.ensures

pub makes-returns-else-not-same_head : goal.makes-returns-else-not-same_head
makes-returns-else-not-same_head t c =
    itself_decided c.args.pattern.now c.args.insn.now c.args.operands.now c.as_slice-in-Itself.result.now c.as_slice-in-Itself-2.result.now c.makes_all-in-Itself.result (sym c.role_of.ensures ∙ c.in-Itself.is)
    (c.same_head.ensures.0 (search rules)) c.as_slice-in-Itself.ensures.value c.as_slice-in-Itself-2.ensures.value c.makes_all-in-Itself.ensures

pub makes_all-returns-then-not-makes : goal.makes_all-returns-then-not-makes
makes_all-returns-then-not-makes t c =
    decides_not c.args.patterns.now c.args.insns.now c.args.operands.now c.loop-i.i c.index-patterns-i.result c.index-insns-i.result (search rules) (search rules) c.index-patterns-i.is c.index-insns-i.is
    (λ m. search rules) c.loop-i.invariant

pub makes_all-loop-i-preserved : goal.makes_all-loop-i-preserved
makes_all-loop-i-preserved t c =
    decides_next c.args.patterns.now c.args.insns.now c.args.operands.now c.loop-i.i c.index-patterns-i.result c.index-insns-i.result (search rules) (search rules) c.index-patterns-i.is c.index-insns-i.is
    (c.makes.ensures.0 (search rules)) c.loop-i.invariant
