use Rattle.reload.proofs.Adding.{given_added, given_refused}
use Rattle.reload.proofs.insn.add_given.Goals as goal

pub returns-in-Some : goal.returns-in-Some
returns-in-Some c =
    given_added c.args.setting.now.desc.now c.args.form c.args.given c.args.uid c.args.insn.now
    c.in-Some.plan c.args.insns.now
    c.add_window.new.insns c.add_window.result ((c.in_ok-plan.ensures.best c.in-Some.plan).0
    c.in-Some.is) c.add_window.ensures

pub returns-in_ok-unsatisfied-in-None : goal.returns-in_ok-unsatisfied-in-None
returns-in_ok-unsatisfied-in-None c =
    given_refused c.args.setting.now.desc.now c.args.form c.args.given c.args.uid c.args.insn.now
    c.in_ok-unsatisfied-in-None.field-0 c.in_ok-unsatisfied-in-None.ensures
    (c.in_ok-plan.ensures.none c.in-None.is)
