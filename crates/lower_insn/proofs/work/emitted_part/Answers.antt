use Rattle.std.proofs.Common.{subst}
use Rattle.lower_insn.specs.machine.Work.{Counts}
use Rattle.lower_insn.proofs.Steps.{counts_so, unmatched_so}
use Rattle.lower_insn.proofs.work.emitted_part.Goals as goal

pub returns-in_ok-make : goal.returns-in_ok-make
returns-in_ok-make c =
    counts_so c.args.desc.now c.args.uids c.args.work c.in_ok-make.field-0 c.args.tree (subst (Counts c.args.desc.now c.args.tree) c.if-branch.true c.in_ok-counts.ensures) c.in_ok-make.ensures

pub returns-in_ok-unmatched : goal.returns-in_ok-unmatched
returns-in_ok-unmatched c =
    let none = subst (Counts c.args.desc.now c.args.tree) c.if-branch.false c.in_ok-counts.ensures in
    unmatched_so c.args.desc.now c.args.uids c.args.work c.args.tree c.in_ok-unmatched.field-0 none.0 none.1 c.in_ok-unmatched.ensures
