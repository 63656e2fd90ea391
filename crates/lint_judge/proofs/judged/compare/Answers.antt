use Rattle.lint_judge.proofs.ComparedLaws.{is_compared}
use Rattle.lint_judge.proofs.judged.compare.Goals as goal

pub returns-in-Ok : goal.returns-in-Ok
returns-in-Ok c =
    is_compared c.args.texts.now c.args.insn.now c.args.side.now c.lines_in.result.now c.from_ref.result.now c.in_ok-live.live c.in-Ok.told c.fault_of.result
    c.from_ref.ensures.value c.lines_in.ensures c.requires.read c.requires.lines c.in_ok-live.ensures c.in-Ok.ensures.gives c.fault_of.ensures
