-- Some steps of a function's own instructions, which change t3 and some registers more.
use Rattle.std.proofs.Common.{◌≡◌, ◌≢◌, ℕ, suc, ◌||◌, Bool, false, List, refl, ◌∙◌}
use Rattle.std.specs.FinMap.{get}
use Rattle.rtx_tree.specs.declared.function.Function.{Function}
use Rattle.rtx_tree.specs.declared.function.Insn.{Insn}
use Rattle.rtx_tree.specs.declared.machine.World.{World}
use Rattle.rtx_tree.specs.declared.memories.MemByte.{MemByte}
use Rattle.rtl_step.specs.Step.{step}
use Rattle.rtl_step.specs.declared.step.State.{State}
use Rattle.rtl_step.specs.declared.step.StepEnd.TheVariants.{Next}
use Rattle.law_window_replaced.proofs.law_window_lines.Simulation.{added}
use Rattle.law_window_replaced.proofs.law_window_lines.Small.{or_false}
use Rattle.law_window_replaced.proofs.Stands.{Stands}
use Rattle.law_frame.proofs.Straight.{Steps, stays, steps, steps_on}

module _ (world : World) (g : Function) where
  -- From a state some steps lead to one that stands at a rest of the chain, of which something holds. Of registers only t3 and those of a
  -- test may have changed.
  pub record Behind (t : State) (rest : List Insn) (changes : ℕ → Bool) (memory : List MemByte) (Holds : State → Type 0) : Type 0 where
    pub count : ℕ
    pub after : State
    pub place : ℕ
    pub steps_are : Steps world g count t after
    pub stands : Stands g.insns after.next rest place
    pub others : (r : ℕ) → r ≢ 28 → changes r ≡ false → get after.regs r ≡ get t.regs r
    pub memory_is : after.memory ≡ memory
    pub visible_is : after.visible ≡ t.visible
    pub calls_are : after.calls ≡ t.calls
    pub holds : Holds after

  -- by another name of the memory, and with something else that holds
  pub with_memory : (t : State) (rest : List Insn) (changes : ℕ → Bool) (memory other : List MemByte) (P Q : State → Type 0) → memory ≡ other →
      (b : Behind t rest changes memory P) → Q b.after → Behind t rest changes other Q
  with_memory t rest changes memory other P Q same b holds = record {
    count = b.count;
    after = b.after;
    place = b.place;
    steps_are = b.steps_are;
    stands = b.stands;
    others = b.others;
    memory_is = b.memory_is ∙ same;
    visible_is = b.visible_is;
    calls_are = b.calls_are;
    holds = holds;
  }

  pub behind_none : (t : State) (rest : List Insn) (changes : ℕ → Bool) (Q : State → Type 0) (q : ℕ) → Stands g.insns t.next rest q → Q t →
      Behind t rest changes t.memory Q
  behind_none t rest changes Q q stands holds = record {
    count = 0;
    after = t;
    place = q;
    steps_are = stays t;
    stands = stands;
    others = λ r other kept. refl;
    memory_is = refl;
    visible_is = refl;
    calls_are = refl;
    holds = holds;
  }

  -- one step more, before them
  pub behind_step : (t t' : State) (rest : List Insn) (changes : ℕ → Bool) (memory : List MemByte) (Q : State → Type 0) →
      step world g t ≡ (Next, t') → ((r : ℕ) → r ≢ 28 → changes r ≡ false → get t'.regs r ≡ get t.regs r) → t'.visible ≡ t.visible →
      t'.calls ≡ t.calls → Behind t' rest changes memory Q → Behind t rest changes memory Q
  behind_step t t' rest changes memory Q is others visible_is calls_are b = record {
    count = suc b.count;
    after = b.after;
    place = b.place;
    steps_are = steps b.count t t' b.after is b.steps_are;
    stands = b.stands;
    others = λ r other kept. b.others r other kept ∙ others r other kept;
    memory_is = b.memory_is;
    visible_is = b.visible_is ∙ visible_is;
    calls_are = b.calls_are ∙ calls_are;
    holds = b.holds;
  }

  -- some steps and some more
  pub behind_both : (t : State) (middle rest : List Insn) (first second : ℕ → Bool) (memory memory' : List MemByte) (P Q : State → Type 0)
      (b : Behind t middle first memory P) → Behind b.after rest second memory' Q → Behind t rest (λ r. first r || second r) memory' Q
  behind_both t middle rest first second memory memory' P Q b c = record {
    count = added b.count c.count;
    after = c.after;
    place = c.place;
    steps_are = steps_on world g b.count c.count t b.after c.after b.steps_are c.steps_are;
    stands = c.stands;
    others = λ r other kept. let both = or_false (first r) (second r) kept in c.others r other both.1 ∙ b.others r other both.0;
    memory_is = c.memory_is;
    visible_is = c.visible_is ∙ b.visible_is;
    calls_are = c.calls_are ∙ b.calls_are;
    holds = c.holds;
  }
