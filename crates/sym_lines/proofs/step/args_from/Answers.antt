use Rattle.std.proofs.Common.{◌+◌}
use Rattle.std.specs.Prelude.{map}
use Rattle.sym_state.specs.Views.{changed_of}
use Rattle.sym_lines.specs.Step.{args_from}
use Rattle.sym_lines.proofs.Needs.{args_more}
use Rattle.sym_lines.proofs.step.args_from.Goals as goal

pub loop-reg-preserved : goal.loop-reg-preserved
loop-reg-preserved c =
    let regs = map changed_of c.args.regs.now in
    args_more (c.args.first + c.args.count) c.loop-reg.reg regs c.loop-reg.args c.push.new.self c.in_ok-arg.field-0
    (args_from c.args.count c.args.first regs) c.loop-reg-test.true c.in_ok-arg.ensures c.in_ok-push.ensures.ok c.loop-reg.invariant
