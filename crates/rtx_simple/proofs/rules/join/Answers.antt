use Rattle.rtx_simple.proofs.Applied.{joined_long, inner_long}
use Rattle.rtx_simple.proofs.rules.join.Goals as goal

pub raise-requires : goal.raise-requires
raise-requires c = joined_long c.args.x.now c.args.sum c.requires

pub put_constant-requires : goal.put_constant-requires
put_constant-requires c = inner_long c.args.x.now c.raise.new.x c.args.sum c.requires c.raise.ensures
