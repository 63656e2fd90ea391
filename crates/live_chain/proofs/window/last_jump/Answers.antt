use Rattle.std.proofs.Common.{sym}
use Rattle.live_chain.proofs.WindowLaws.{flow_jump, flow_falls}
use Rattle.live_chain.proofs.window.last_jump.Goals as goal

pub returns-then-is_jump : goal.returns-then-is_jump
returns-then-is_jump c = flow_jump c.args.window.now c.in_ok-last.last.now c.in_ok-last.ensures.value (sym c.if-is_jump.ensures)

pub returns-else-is_jump : goal.returns-else-is_jump
returns-else-is_jump c = flow_falls c.args.window.now c.in_ok-last.last.now c.in_ok-last.ensures.value (sym c.if-is_jump.ensures)
