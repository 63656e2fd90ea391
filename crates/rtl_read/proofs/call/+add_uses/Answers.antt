use Rattle.std.proofs.Common.{arith}
use Rattle.rtl_read.proofs.Uses.{adds_link}
use Rattle.rtl_read.proofs.call.+add_uses.Goals as goal

pub returns-in-len3 : goal.returns-in-len3
returns-in-len3 t c =
    adds_link c.add_uses.result c.args.uses.now c.push.new.self c.add_uses.new.uses c.args.tree.now c.items.result.now c.element-item.result c.rest-item.result c.in_ok-arg_use.field-0
    c.items.ensures c.in-len3.len_at_least c.in-len3.len_below c.element-item.is c.rest-item.is (grind (arith, c.is_whole_link.ensures, c.if-not-is_whole_link.false)) c.in_ok-arg_use.ensures c.in_ok-push.ensures.ok c.add_uses.ensures
