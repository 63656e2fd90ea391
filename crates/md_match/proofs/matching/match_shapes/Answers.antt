use Rattle.std.proofs.Common.{rules, subst, map, Bor}
use Rattle.rtx_tree.specs.declared.tree.Rtx.{Rtx}
use Rattle.md_match.specs.machine.Collected.{MakesAll, Collected, Collects, is_given_by}
use Rattle.md_match.proofs.Unique.{matched, unmatched}
use Rattle.md_match.proofs.OneList.{one_list}
use Rattle.md_match.proofs.matching.match_shapes.Goals as goal

pub returns-then-makes_each-clause-operands : goal.returns-then-makes_each-clause-operands
returns-then-makes_each-clause-operands g c =
    matched c.args.patterns.now (map (λ (insn : Bor Rtx). insn.now) c.args.insns.now) c.in-Some.operands
    (subst (λ old. Collected (is_given_by c.args.patterns.now) (MakesAll c.args.patterns.now (map (λ (insn : Bor Rtx). insn.now) c.args.insns.now)) old c.in-Some.operands) c.new.ensures
    (subst (Collects (is_given_by c.args.patterns.now) (MakesAll c.args.patterns.now (map (λ (insn : Bor Rtx). insn.now) c.args.insns.now)) c.new.result) c.in-Some.is c.in_ok-operands.ensures))
    (c.makes_each.ensures.0 (search rules))

pub returns-else-makes_each-clause-operands : goal.returns-else-makes_each-clause-operands
returns-else-makes_each-clause-operands g c =
    unmatched c.args.patterns.now (map (λ (insn : Bor Rtx). insn.now) c.args.insns.now) c.in-Some.operands
    (subst (λ old. Collected (is_given_by c.args.patterns.now) (MakesAll c.args.patterns.now (map (λ (insn : Bor Rtx). insn.now) c.args.insns.now)) old c.in-Some.operands) c.new.ensures
    (subst (Collects (is_given_by c.args.patterns.now) (MakesAll c.args.patterns.now (map (λ (insn : Bor Rtx). insn.now) c.args.insns.now)) c.new.result) c.in-Some.is c.in_ok-operands.ensures))
    (λ made. search rules)

pub returns-in_err-operands-clause-one : goal.returns-in_err-operands-clause-one
returns-in_err-operands-clause-one g c = λ ps xs a b m n. one_list ps xs a b m n

pub returns-in_default-clause-one : goal.returns-in_default-clause-one
returns-in_default-clause-one g c = λ ps xs a b m n. one_list ps xs a b m n

pub returns-then-makes_each-clause-one : goal.returns-then-makes_each-clause-one
returns-then-makes_each-clause-one g c = λ ps xs a b m n. one_list ps xs a b m n

pub returns-else-makes_each-clause-one : goal.returns-else-makes_each-clause-one
returns-else-makes_each-clause-one g c = λ ps xs a b m n. one_list ps xs a b m n
