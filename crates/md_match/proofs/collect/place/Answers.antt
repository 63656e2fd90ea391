use Rattle.std.proofs.Common.{rules}
use Rattle.md_match.proofs.Placing.{collected_put}
use Rattle.md_match.proofs.collect.place.Goals as goal

pub returns : goal.returns
returns c =
    collected_put c.args.placeholder.now c.args.insn.now c.in_ok-copy.field-0 c.args.operands c.put.new.self c.in-Ok.number (search rules) (search rules) (search rules) c.in_ok-copy.ensures c.in_ok-put.ensures.ok
