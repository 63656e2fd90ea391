-- Straight instructions that stand in a function are stepped through, one step each.
use Rattle.std.proofs.Common.{◌≡◌, ℕ, ◌+◌, length, List, [], ◌∷◌, ◌++◌, Some, refl, ap, ◌∙◌}
use Rattle.law_operands_replaced.specs.rtx_tree.declared.function.Function.{Function}
use Rattle.law_operands_replaced.specs.rtx_tree.declared.function.Insn.{Insn}
use Rattle.law_operands_replaced.specs.rtx_tree.declared.function.Kind.TheVariants as kind
use Rattle.law_operands_replaced.specs.rtx_tree.declared.machine.World.{World}
use Rattle.law_operands_replaced.specs.rtx_tree.declared.memories.MemByte.{MemByte}
use Rattle.law_operands_replaced.specs.rtx_tree.declared.tree.Rtx.{Rtx}
use Rattle.law_operands_replaced.specs.rtl_step.Effect.{effects_of, regs_after, memory_after}
use Rattle.law_operands_replaced.specs.rtl_step.Regs.{Regs}
use Rattle.law_operands_replaced.specs.rtl_step.Step.{step, after_effects}
use Rattle.law_operands_replaced.specs.rtl_step.declared.effect.Effect.{Effect}
use Rattle.law_operands_replaced.specs.rtl_step.declared.step.State.{State}
use Rattle.law_operands_replaced.specs.rtl_step.declared.step.StepEnd.TheVariants.{Next}
use Rattle.law_operands_replaced.proofs.law_frame.law_window_replaced.Stands.{Stands, stands_behind, step_is}
use Rattle.law_operands_replaced.specs.Straight.{Straight, done, next}
use Rattle.law_operands_fetched.specs.Onwards.{Onwards, stays, on, ArePlain}

module _ (world : World) (g : Function) (u : State) (Told : Regs → List MemByte → Type 0) where
  -- the state with another next place, registers and memory
  abbrev pub at : ℕ → Regs → List MemByte → State
  at place r m = record u { next = place; regs = r; memory = m }

  plain_step : (i : Insn) (x : Rtx) (rest : List Insn) (place q : ℕ) (r : Regs) (m : List MemByte) (es : List Effect) →
      Stands g.insns place (i ∷ rest) q → i.kind ≡ kind.Plain → i.pattern ≡ x → effects_of world.symbols r m x ≡ Some es →
      step world g (at place r m) ≡ (Next, at (q + 1) (regs_after es r) (memory_after es m))
  plain_step i x rest place q r m es stands plain pattern is =
      step_is world g (at place r m) i rest q kind.Plain stands refl plain ∙
      ap (λ p. after_effects (at place r m) q (effects_of world.symbols r m p)) pattern ∙
      ap (after_effects (at place r m) q) is

  -- so many steps lead behind them
  pub record Passed (insns : List Insn) (rest : List Insn) (place : ℕ) (r : Regs) (m : List MemByte) (last : Regs) (end : List MemByte) : Type 0 where
    pub next_place : ℕ
    pub q : ℕ
    pub steps : Onwards world g Told (length insns) (at place r m) (at next_place last end)
    pub stands : Stands g.insns next_place rest q

  pub passes : (xs : List Rtx) (r : Regs) (m : List MemByte) (last : Regs) (end : List MemByte) → Straight world.symbols Told xs r m last end →
      (insns rest : List Insn) (place q : ℕ) → ArePlain insns xs → Stands g.insns place (insns ++ rest) q → Passed insns rest place r m last end
  passes _ _ _ _ _ (done r m) [] rest place q plain stands = record { next_place = place; q = q; steps = stays (at place r m); stands = stands }
  passes _ _ _ _ _ (done r m) (i ∷ insns) rest place q plain stands = absurd plain
  passes _ _ _ _ _ (next x xs r m es last end is told more) [] rest place q plain stands = absurd plain
  passes _ _ _ _ _ (next x xs r m es last end is told more) (i ∷ insns) rest place q plain stands =
      let p = passes xs (regs_after es r) (memory_after es m) last end more insns rest (q + 1) (q + 1) plain.2
      (stands_behind g.insns place i (insns ++ rest) q stands) in record {
        next_place = p.next_place;
        q = p.q;
        steps = on (length insns) (at place r m) (at (q + 1) (regs_after es r) (memory_after es m)) (at p.next_place last end)
            (plain_step i x (insns ++ rest) place q r m es stands plain.0 plain.1 is) told p.steps;
        stands = p.stands;
      }
