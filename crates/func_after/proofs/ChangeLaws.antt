-- What a pass makes that changes the function alone, from what its call gave.
use Rattle.std.proofs.Common.{◌≡◌, ℕ, List, Result, Ok, Err, sym, subst}
use Rattle.rtx_tree.specs.declared.function.Function.{Function}
use Rattle.pass_name.specs.declared.pass.Pass.TheVariants.{Lower, Reuse, Combine, Split1, Split2, Peephole2, Schedule}
use Rattle.md_forms.specs.declared.form.Entry.{Entry}
use Rattle.md_dfa.specs.Pipeline.{pipeline_in}
use Rattle.md_dfa.specs.declared.pipeline.Pipeline.{Pipeline}
use Rattle.pass_refusal.specs.declared.refusal.PassRefusal.{PassRefusal}
use Rattle.pass_refusal.specs.declared.refusal.PassRefusal.TheVariants as passes
use Rattle.pass_refusal.specs.Outcome as outcome
use Rattle.lower.specs.Lower.{LowerComes}
use Rattle.reuse.specs.Reuse.{Reused}
use Rattle.combine.specs.Combine.{Combined}
use Rattle.split.specs.Split.{SplitComes}
use Rattle.peep2.specs.Cover.{CoverComes}
use Rattle.schedule.specs.Schedule.{Scheduled}
use Rattle.schedule.specs.declared.plan.CycleOf.{CycleOf}
use Rattle.func_after.specs.After.{Changed, plainly, ChangeComes}

-- what follows from what a pass comes to that gives a function and nothing beside it
pub plain_gives : (P : Result Function PassRefusal → Type 0) (Q : Changed → Type 0) → ((r : Result Function PassRefusal) → P r → Q (plainly r)) →
    (r : Result Function PassRefusal) → outcome.Gives r P → outcome.Gives (plainly r) Q
plain_gives P Q follows (Ok g) gives = follows (Ok g) gives
plain_gives P Q follows (Err passes.Memory) gives = tt
plain_gives P Q follows (Err (passes.Unmatched uid insn)) gives = follows (Err (passes.Unmatched uid insn)) gives
plain_gives P Q follows (Err (passes.NotEquated uid rule item left right)) gives = follows (Err (passes.NotEquated uid rule item left right)) gives
plain_gives P Q follows (Err (passes.Limit which count)) gives = follows (Err (passes.Limit which count)) gives

-- what the reuse of values makes
pub reused : (forms : List Entry) (n : ℕ) (f g : Function) → Reused forms n f g →
    outcome.Gives (Ok (record { function = g; combined = 0 })) (ChangeComes forms f Reuse)
reused forms n f g comes = ChangeComes.reuses n g comes

-- what combination makes
pub combined : (forms : List Entry) (n : ℕ) (f g : Function) → Combined forms n f g →
    outcome.Gives (Ok (record { function = g; combined = n })) (ChangeComes forms f Combine)
combined forms n f g comes = ChangeComes.combines n g comes

-- what putting instructions in order makes
pub scheduled : (forms : List Entry) (pipeline : Pipeline) (cycles : List CycleOf) (f g : Function) → pipeline ≡ pipeline_in forms → Scheduled forms pipeline f cycles g →
    outcome.Gives (Ok (record { function = g; combined = 0 })) (ChangeComes forms f Schedule)
scheduled forms pipeline cycles f g is comes =
    ChangeComes.schedules cycles g (subst (λ (p : Pipeline). Scheduled forms p f cycles g) is comes)

module _ (forms : List Entry) (f : Function) (r : Result Function PassRefusal) (c : Changed) (is : c ≡ plainly r) where
  -- a line a pass
  pub lowered : outcome.Gives r (LowerComes forms f) → outcome.Gives c (ChangeComes forms f Lower)
  lowered gives = subst (λ (c : Changed). outcome.Gives c (ChangeComes forms f Lower)) (sym is)
      (plain_gives (LowerComes forms f) (ChangeComes forms f Lower) (λ r comes. ChangeComes.lowers r comes) r gives)

  pub split_first : outcome.Gives r (SplitComes forms Split1 f) → outcome.Gives c (ChangeComes forms f Split1)
  split_first gives = subst (λ (c : Changed). outcome.Gives c (ChangeComes forms f Split1)) (sym is)
      (plain_gives (SplitComes forms Split1 f) (ChangeComes forms f Split1) (λ r comes. ChangeComes.splits_first r comes) r gives)

  pub split_again : outcome.Gives r (SplitComes forms Split2 f) → outcome.Gives c (ChangeComes forms f Split2)
  split_again gives = subst (λ (c : Changed). outcome.Gives c (ChangeComes forms f Split2)) (sym is)
      (plain_gives (SplitComes forms Split2 f) (ChangeComes forms f Split2) (λ r comes. ChangeComes.splits_again r comes) r gives)

  pub covered : outcome.Gives r (CoverComes forms f) → outcome.Gives c (ChangeComes forms f Peephole2)
  covered gives = subst (λ (c : Changed). outcome.Gives c (ChangeComes forms f Peephole2)) (sym is)
      (plain_gives (CoverComes forms f) (ChangeComes forms f Peephole2) (λ r comes. ChangeComes.covers r comes) r gives)
