-- What the passes make of a function, one behind the other: GCC Internals, "Passes and Files of the
-- Compiler" ("RTL passes"). A pass goes on with what the one before it leaves, and what one refuses
-- is told by the function's name and the pass; a function that one makes too long is refused too.
use Rattle.std.specs.Prelude.{◌≡◌, ℕ, ◌≤◌, ◌<◌, Bool, if◌then◌else◌, List, [], ◌∷◌, Result, Ok, Err}
use Rattle.std.specs.Str.{bytes_eq}
use Rattle.rtx_tree.specs.declared.function.Insn.{Insn}
use Rattle.rtx_tree.specs.declared.function.Function.{Function}
use Rattle.rtx_tree.specs.declared.limit.Limit.TheVariants.{Instructions}
use Rattle.rtx_tree.specs.Limit.{most_made}
use Rattle.rtl_chain.specs.Counts.{instruction_count}
use Rattle.pass_name.specs.Pass.{pass_name}
use Rattle.pass_name.specs.declared.pass.Pass.{Pass}
use Rattle.pass_name.specs.declared.pass.Pass.TheVariants.{Read, Lower, Reuse, Combine, Split1, Reload, Frame, Split2, Peephole2, Schedule, Output}
use Rattle.pass_name.specs.declared.road.Road.{Road}
use Rattle.pass_name.specs.Road.{passes_of}
use Rattle.run_refusal.specs.declared.refusal.Refusal.{Refusal}
use Rattle.run_refusal.specs.declared.refusal.Refusal.TheVariants as refusal
use Rattle.md_forms.specs.declared.form.Entry.{Entry}
use Rattle.md_dfa.specs.Pipeline.{pipeline_in}
use Rattle.pass_refusal.specs.declared.refusal.PassRefusal.{PassRefusal}
use Rattle.pass_refusal.specs.declared.refusal.PassRefusal.TheVariants as passes
use Rattle.lower.specs.Lower.{LowerComes}
use Rattle.reuse.specs.Reuse.{Reused}
use Rattle.combine.specs.Combine.{Combined}
use Rattle.split.specs.Split.{SplitComes}
use Rattle.peep2.specs.Cover.{CoverComes}
use Rattle.schedule.specs.Schedule.{Scheduled}
use Rattle.schedule.specs.declared.plan.CycleOf.{CycleOf}
use Rattle.assign.specs.Frame.{layout_of}
use Rattle.assign.specs.Homes.{AreHomes}
use Rattle.assign.specs.declared.home.HomeOf.{HomeOf}
use Rattle.assign.specs.declared.places.Layout.{Layout}
use Rattle.reload.specs.Reload.{FunctionReloads}
use Rattle.reload.specs.declared.refusal.ReloadRefusal.{ReloadRefusal}
use Rattle.reload.specs.declared.refusal.ReloadRefusal.TheVariants as reloading
use Rattle.frame.specs.Framed.{FrameComes}
pub use Rattle.func_input.specs.Input.{Gives}
use Rattle.func_after.specs.declared.change.Change.{Change}
use Rattle.func_after.specs.declared.compilation.Compilation.{Compilation}

-- ---- what was made so far

-- a function as it was read; nothing is combined and its frame is not laid out yet
abbrev pub as_read : Function → Compilation
as_read f =
    record { function = f; combined = 0; layout = record { size = 0; slots = []; saved = [] } }

-- what was made, or a refusal
abbrev pub Answer : Type 0
Answer = Result Compilation Refusal

-- ---- refusals

-- the refusal of an instruction of a function at a pass
abbrev pub unmatched_at : Pass → List ℕ → Insn → Refusal
unmatched_at at function i = refusal.Unmatched function i.uid at i.pattern

-- the refusal of a run for that of a pass over a function
abbrev pub refused_for : List ℕ → Pass → PassRefusal → Refusal
refused_for function at (passes.Unmatched uid insn) = refusal.Unmatched function uid at insn
refused_for function at (passes.NotEquated uid rule item left right) =
    refusal.NotEquated function uid rule item left right
refused_for function at (passes.Limit which count) = refusal.Limit which count
refused_for function at passes.Memory = refusal.Memory

-- the refusal for a function whose registers get no homes
abbrev pub unreloaded_for : List ℕ → ReloadRefusal → Refusal
unreloaded_for function (reloading.Unmatched uid insn) =
    refusal.Unmatched function uid Reload insn
unreloaded_for function (reloading.Unsatisfied uid form insn) =
    refusal.Unsatisfied function uid form insn
unreloaded_for function reloading.Memory = refusal.Memory

-- ---- passes that change the function alone

-- what such a pass makes of a function, or a refusal
abbrev pub Changed : Type 0
Changed = Result Change PassRefusal

-- what a pass makes that gives a function and nothing beside it
abbrev pub plainly : Result Function PassRefusal → Changed
plainly (Ok g) = Ok (record { function = g; combined = 0 })
plainly (Err e) = Err e

-- What a pass that changes the function alone makes of it, by the forms of a description. Reading
-- and writing leave it as it is.
pub data ChangeComes (forms : List Entry) (f : Function) : Pass → Changed → Type 0 where
  reads : ChangeComes forms f Read (plainly (Ok f))
  lowers : (r : Result Function PassRefusal) → LowerComes forms f r →
      ChangeComes forms f Lower (plainly r)
  reuses : (n : ℕ) (g : Function) → Reused forms n f g →
      ChangeComes forms f Reuse (plainly (Ok g))
  combines : (n : ℕ) (g : Function) → Combined forms n f g →
      ChangeComes forms f Combine (Ok (record { function = g; combined = n }))
  splits_first : (r : Result Function PassRefusal) → SplitComes forms Split1 f r →
      ChangeComes forms f Split1 (plainly r)
  splits_again : (r : Result Function PassRefusal) → SplitComes forms Split2 f r →
      ChangeComes forms f Split2 (plainly r)
  covers : (r : Result Function PassRefusal) → CoverComes forms f r →
      ChangeComes forms f Peephole2 (plainly r)
  schedules : (cycles : List CycleOf) (g : Function) →
      Scheduled forms (pipeline_in forms) f cycles g →
      ChangeComes forms f Schedule (plainly (Ok g))
  writes : ChangeComes forms f Output (plainly (Ok f))

-- ---- one pass

-- how many instructions are combined behind a pass: as many as before, unless it combines them
abbrev pub combined_behind : Pass → ℕ → ℕ → ℕ
combined_behind Combine before now = now
combined_behind _ before now = before

-- what was made, by a name, how many instructions were combined before, and the layout of the
-- frame, where a pass changed the function, or what the pass refuses
abbrev pub told_for : List ℕ → ℕ → Layout → Pass → Changed → Answer
told_for name before layout at (Ok c) = Ok (record {
  function = c.function;
  combined = combined_behind at before c.combined;
  layout = layout;
})
told_for name before layout at (Err e) = Err (refused_for name at e)

-- the function that reload gives, with the layout of its frame, or the refusal
abbrev pub told_reloaded : List ℕ → ℕ → Layout → Result Function ReloadRefusal → Answer
told_reloaded name before layout (Ok g) =
    Ok (record { function = g; combined = before; layout = layout })
told_reloaded name before layout (Err e) = Err (unreloaded_for name e)

-- What a pass makes of what was made, by the forms of a description, or what it refuses. Registers
-- have the homes that are defined for the function as it comes to reload.
pub data PassMakes (forms : List Entry) (m : Compilation) : Pass → Answer → Type 0 where
  changes : (pass : Pass) (c : Changed) (answer : Answer) → ChangeComes forms m.function pass c →
      answer ≡ told_for m.function.name m.combined m.layout pass c → PassMakes forms m pass answer
  reloads : (homes : List HomeOf) (r : Result Function ReloadRefusal) (answer : Answer) →
      AreHomes m.function homes →
      FunctionReloads forms homes (layout_of m.function homes) m.function r →
      answer ≡ told_reloaded m.function.name m.combined (layout_of m.function homes) r → PassMakes forms m Reload answer
  frames : (r : Result Function PassRefusal) (answer : Answer) →
      FrameComes forms m.function m.layout r →
      answer ≡ told_for m.function.name m.combined m.layout Frame (plainly r) → PassMakes forms m Frame answer

-- how many instructions the function has that was made
abbrev pub count_of : Compilation → ℕ
count_of m = instruction_count m.function.insns

-- what was made is no longer than a function may become
abbrev pub IsShort : Compilation → Type 0
IsShort m = count_of m ≤ most_made

-- What a pass comes to: what it makes, where that is not too long; what it refuses; or the number
-- of instructions that it would make.
pub data PassComes (forms : List Entry) (m : Compilation) (pass : Pass) : Answer → Type 0 where
  refused : (e : Refusal) → PassMakes forms m pass (Err e) → PassComes forms m pass (Err e)
  long : (n : Compilation) → PassMakes forms m pass (Ok n) → most_made < count_of n →
      PassComes forms m pass (Err (refusal.Limit Instructions (count_of n)))
  made : (n : Compilation) → PassMakes forms m pass (Ok n) → IsShort n → PassComes forms m pass (Ok n)

-- ---- one behind the other

-- what some passes make, in their order, or the first refusal
pub data PassesCome (forms : List Entry) : List Pass → Compilation → Answer → Type 0 where
  done : (m : Compilation) → PassesCome forms [] m (Ok m)
  refused : (pass : Pass) (others : List Pass) (m : Compilation) (e : Refusal) →
      PassComes forms m pass (Err e) →
      PassesCome forms (pass ∷ others) m (Err e)
  goes_on : (pass : Pass) (others : List Pass) (m next : Compilation) (answer : Answer) →
      PassComes forms m pass (Ok next) →
      PassesCome forms others next answer → PassesCome forms (pass ∷ others) m answer

-- two passes are one if they have one name
abbrev pub is_pass : Pass → Pass → Bool
is_pass a b = bytes_eq (pass_name a) (pass_name b)

-- those of some passes up to one, or all where it is none of them
unfoldable pub up_to : Pass → List Pass → List Pass
up_to last [] = []
up_to last (pass ∷ passes) = pass ∷ (if is_pass pass last then [] else up_to last passes)

-- what a function is on a road behind a pass, or what a pass on the way there refuses
abbrev pub IsBehind : List Entry → Road → Function → Pass → Answer → Type 0
IsBehind forms road f pass = PassesCome forms (up_to pass (passes_of road)) (as_read f)

-- what comes to output: the function behind all passes of a road
abbrev pub AfterComes : List Entry → Road → Function → Answer → Type 0
AfterComes forms road f = PassesCome forms (passes_of road) (as_read f)
