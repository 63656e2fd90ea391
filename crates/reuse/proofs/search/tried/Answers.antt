use Rattle.std.proofs.Common.{refl, sym, subst, ◌∙◌}
use Rattle.std.specs.Prelude.{IsSome}
use Rattle.reuse.specs.machine.Found.{FoundAgain}
use Rattle.reuse.proofs.Found.{no_again, not_left, not_formed, not_put, is_repeated}
use Rattle.reuse.proofs.search.tried.Goals as goal

pub returns-in_default-clause-repeats : goal.returns-in_default-clause-repeats
returns-in_default-clause-repeats c =
    let a = c.args in
    no_again a.desc.now a.chain.now a.first a.second c.insn.result.now c.insn-other.result.now c.insn.ensures c.insn-other.ensures (subst (FoundAgain c.insn.result.now c.insn-other.result.now) c.in_default.is c.again_of.ensures)

pub returns-then-not-all_leave-clause-repeats : goal.returns-then-not-all_leave-clause-repeats
returns-then-not-all_leave-clause-repeats c =
    let a = c.args in
    let again = subst (FoundAgain c.insn.result.now c.insn-other.result.now) c.in-Some.is c.again_of.ensures in
    not_left a.desc.now a.chain.now a.first a.second c.insn.result.now c.insn-other.result.now c.insn.ensures c.insn-other.ensures c.in-Some.again.register c.in-Some.again.mode again.0 again.1
    (sym c.all_leave.ensures ∙ c.if-not-all_leave.true)

pub reusing-requires : goal.reusing-requires
reusing-requires c =
    let again = subst (FoundAgain c.insn.result.now c.insn-other.result.now) c.in-Some.is c.again_of.ensures in
    subst IsSome (sym again.1.again_to) refl

pub returns-then-not-branch-clause-repeats : goal.returns-then-not-branch-clause-repeats
returns-then-not-branch-clause-repeats c =
    let a = c.args in
    let again = subst (FoundAgain c.insn.result.now c.insn-other.result.now) c.in-Some.is c.again_of.ensures in
    not_formed a.desc.now a.chain.now a.first a.second c.insn.result.now c.insn-other.result.now c.insn.ensures c.insn-other.ensures c.in-Some.again.register c.in-Some.again.mode again.0 again.1
    c.in_ok-new.new c.in_ok-new.ensures (c.in_ok-is_formed.ensures.none c.if-not-branch.true)

pub returns-then-branch-clause-repeats : goal.returns-then-branch-clause-repeats
returns-then-branch-clause-repeats c =
    let a = c.args in
    let again = subst (FoundAgain c.insn.result.now c.insn-other.result.now) c.in-Some.is c.again_of.ensures in
    is_repeated a.desc.now a.chain.now a.first a.second c.insn.result.now c.insn-other.result.now c.insn.ensures c.insn-other.ensures c.in-Some.again.register c.in-Some.again.mode again.0 again.1
    c.in_ok-new.new c.in_ok-new.ensures c.requires.order c.in_ok-end.end c.in_ok-end.ensures c.requires.near c.requires.kept (sym c.all_leave.ensures ∙ c.if-not-all_leave.false)
    (c.in_ok-is_formed.ensures.some c.if-not-branch.false) (c.in_ok-is_put.ensures.all c.if-branch.true)

pub returns-else-branch-clause-repeats : goal.returns-else-branch-clause-repeats
returns-else-branch-clause-repeats c =
    let a = c.args in
    let again = subst (FoundAgain c.insn.result.now c.insn-other.result.now) c.in-Some.is c.again_of.ensures in
    not_put a.desc.now a.chain.now a.first a.second c.insn.result.now c.insn-other.result.now c.insn.ensures c.insn-other.ensures c.in-Some.again.register c.in-Some.again.mode again.0 again.1
    c.in_ok-new.new c.in_ok-new.ensures c.requires.order c.in_ok-end.end c.in_ok-end.ensures (c.in_ok-is_put.ensures.none c.if-branch.false)
