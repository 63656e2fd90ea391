use Rattle.std.proofs.Common.{◌∷◌, [], ◌++◌, take, ap, sym, ◌∙◌, arith}
use Rattle.std.proofs.lemmas.Grind.{take_at_read}
use Rattle.live_chain.proofs.WindowLaws.{IsDemandOf-push}
use Rattle.live_chain.proofs.demand.demand_of.Goals as goal

pub loop-insn-preserved : goal.loop-insn-preserved
loop-insn-preserved c =
    IsDemandOf-push _ _ c.insn-item.result c.loop-insn.demand c.add_insn.new.demand
    ((take_at_read c.args.window.now c.loop-insn.insn-index c.insn-item.result (omega arith)).1 ∙ ap (λ i. take c.loop-insn.insn-index c.args.window.now ++ i ∷ []) (sym c.insn-item.is))
    c.loop-insn.invariant c.in_ok-add_insn.ensures.asks c.in_ok-add_insn.ensures.defines
