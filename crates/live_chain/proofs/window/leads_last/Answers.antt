use Rattle.std.proofs.Common.{sym, ap, ◌∙◌}
use Rattle.live_chain.specs.machine.Window.{leads_last}
use Rattle.live_chain.proofs.WindowLaws.{leads_from}
use Rattle.live_chain.proofs.window.leads_last.Goals as goal

pub returns-then-is_inner : goal.returns-then-is_inner
returns-then-is_inner c all =
    ap leads_last c.in-Some.ensures.cases.0 ∙ leads_from c.in-Some.before.now c.in-Some.last.now (sym c.if-is_inner.ensures) (sym c.all_pass.ensures ∙ all)
