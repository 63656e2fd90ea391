use Rattle.func_after.proofs.PassLaws.{rest_gave}
use Rattle.func_after.proofs.pass.made_by.Goals as goal

pub returns-in-Read : goal.returns-in-Read
returns-in-Read c = rest_gave c.args.desc.now c.args.m c.args.pass c.in-Read.is
