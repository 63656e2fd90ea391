-- A plain instruction with its moves, in a function: so many steps as they are lead to what the instruction leaves, where its results are made
-- behind the other effects.
use Rattle.std.proofs.Common.{ℕ, length, List, [], ◌∷◌, ◌++◌}
use Rattle.law_operands_replaced.specs.rtx_tree.declared.function.Function.{Function}
use Rattle.law_operands_replaced.specs.rtx_tree.declared.function.Insn.{Insn}
use Rattle.law_operands_replaced.specs.rtx_tree.declared.machine.Start.{Start}
use Rattle.law_operands_replaced.specs.rtx_tree.declared.machine.World.{World}
use Rattle.law_operands_replaced.specs.rtx_tree.declared.tree.Rtx.{Rtx}
use Rattle.law_operands_replaced.specs.rtl_step.Effect.{memory_after}
use Rattle.law_operands_replaced.specs.rtl_step.declared.effect.Effect.{Effect}
use Rattle.law_operands_replaced.specs.rtl_step.declared.step.State.{State}
use Rattle.assign.specs.declared.places.Layout.{Layout}
use Rattle.law_operands_replaced.proofs.law_frame.law_window_replaced.Stands.{Stands}
use Rattle.law_operands_fetched.specs.Onwards.{ArePlain}
use Rattle.law_operands_fetched.proofs.Endings.{IsAroundFrom, around_from_leads}
use Rattle.law_operands_fetched.proofs.Keeping.{Stay, stay_rest}
use Rattle.law_operands_fetched.proofs.PlainWindow.{ComesTo}
use Rattle.law_operands_fetched.proofs.Stepping.{passes}

pub window_comes_from : (world : World) (g : Function) (locals : ℕ) (layout : Layout) (start : Start) (u : State) (es : List Effect) (before : List Rtx) (y : Rtx)
    (behind : List Rtx) (insns rest : List Insn) (q : ℕ) → Stay locals layout start u u.regs u.memory →
    IsAroundFrom world.symbols (Stay locals layout start u) (stay_rest locals layout start u) u.regs u.memory es before y behind →
    ArePlain insns (before ++ y ∷ behind) → Stands g.insns u.next (insns ++ rest) q → ComesTo world g locals layout start u es insns rest
window_comes_from world g locals layout start u es before y behind insns rest q told around plain stands =
    let leads = around_from_leads world.symbols (Stay locals layout start u) (stay_rest locals layout start u) u.regs u.memory es before y behind told around in
    let passed = passes world g u (Stay locals layout start u) (before ++ y ∷ behind) u.regs u.memory leads.after (memory_after es u.memory) leads.runs insns rest u.next q plain stands in
    record {
      next_place = passed.next_place;
      q = passed.q;
      regs = leads.after;
      steps = passed.steps;
      stands = passed.stands;
      known = leads.known;
    }
