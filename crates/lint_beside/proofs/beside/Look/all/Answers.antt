use Rattle.std.proofs.Common.{◌<◌, length, arith}
use Rattle.lint_beside.proofs.BesideLaws.{one_more}
use Rattle.lint_beside.proofs.beside.Look.all.Goals as goal

pub loop-at-preserved : goal.loop-at-preserved
loop-at-preserved c =
    let within : c.loop-at.at < length c.args.found.now = omega arith in
    one_more c.args.self.now.description.now c.args.self.now.tested.now c.args.found.now c.loop-at.at c.index-found-at.result c.in_ok-beside.field-0 c.loop-at.all c.push.new.self
    within c.index-found-at.is c.in_ok-beside.ensures c.in_ok-push.ensures.ok c.loop-at.invariant
