-- What has the behaviour of a function has that of each function that it does the same as.
use Rattle.std.proofs.Common.{◌≢◌, ℕ, ◌≤◌, ◌||◌, not, arith, List, Option, Some, sym, subst, ◌∙◌}
use Rattle.std.proofs.lemmas.List.Elements.{All-weaker}
use Rattle.std.specs.Prelude.{slice_get}
use Rattle.rtx_tree.specs.declared.code.Mode.{Mode}
use Rattle.rtx_tree.specs.declared.function.Function.{Function}
use Rattle.rtx_tree.specs.declared.machine.Start.{Start}
use Rattle.rtx_tree.specs.declared.machine.World.{World}
use Rattle.rtl_step.specs.declared.call.CallEvent.{CallEvent}
use Rattle.func_run.specs.Run.{run_of, taken}
use Rattle.func_run.specs.declared.outcome.Outcome.{Outcome}
use Rattle.func_run.specs.declared.outcome.Outcome.TheVariants as rtl
use Rattle.rv_text.specs.declared.line.CodeItem.{CodeItem}
use Rattle.rv_line.specs.Run as lines
use Rattle.rv_line.specs.declared.outcome.CodeCall.{CodeCall}
use Rattle.rv_line.specs.declared.outcome.CodeOutcome.{CodeOutcome}
use Rattle.rv_line.specs.declared.outcome.CodeOutcome.TheVariants as code
use Rattle.law_function_kept.specs.same_behaviour.Lawful.{IsLawful, IsLawfulReply, IsLawfulWorld, is_below_sp, seen_by_rtl}
use Rattle.law_function_kept.specs.same_behaviour.Same as same
use Rattle.law_function_kept.specs.same_behaviour.Same.{Same, SameFrom, SameCall, SameCalls, SameResult}
use Rattle.law_function_kept.proofs.same_behaviour.Kept.{memory_kept}
use Rattle.law_function_kept.specs.Outcomes.{SameEvent, SameEvents, SameOutcome}
use Rattle.law_function_kept.specs.Keeps.{Keeps, IsMachineStart, IsMachineReply, IsMachineWorld}
use Rattle.law_kept_composed.proofs.Events.{beside}
use Rattle.law_kept_composed.proofs.Keeping.{has_value}

-- ---- starts and worlds

-- what a function sees of a lawful start is a start of a machine
pub seen_is_machine : (frame locals : ℕ) (start : Start) → IsLawful frame locals start → IsMachineStart (seen_by_rtl frame locals start)
seen_is_machine frame locals start lawful = record {
  words = record {
    args = lawful.words.args;
    saved = lawful.words.saved;
    sp = lawful.words.sp;
    ra = lawful.words.ra;
  };
  vars = lawful.words.sp;
  memory = memory_kept (λ address. not (is_below_sp start frame address) || is_below_sp start locals address) start.memory
      lawful.memory;
}

-- a lawful world is a world of a machine
pub world_is_machine : (start : Start) (world : World) → IsLawfulWorld start world → IsMachineWorld world
world_is_machine start world lawful = record {
  symbols = lawful.symbols;
  replies = All-weaker (IsLawfulReply start) IsMachineReply (λ reply is. record { value = is.value; bytes = is.bytes }) world.replies
      lawful.replies;
}

-- ---- calls

call_too : (event other : CallEvent) (call : CodeCall) → SameEvent event other → SameCall other call → SameCall event call
call_too event other call one two = record {
  target_is = two.target_is ∙ one.target_is;
  args_are = λ i arg at. let there = one.passes i arg at in two.args_are there.0 arg there.1;
  memory_is = two.memory_is ∙ one.memory_is;
}

calls_too : (events others : List CallEvent) (calls : List CodeCall) → SameEvents events others → SameCalls others calls →
    SameCalls events calls
calls_too events others calls one two = (
  two.0 ∙ one.long,
  λ i event call at at'. let middle = beside events others i event one.long at in
      call_too event middle.0 call (one.each i event middle.0 at middle.1) (two.1 i middle.0 call middle.1 at'),
)

-- ---- outcomes

pub outcome_too : (mode : Option Mode) (start : Start) (x y : Outcome) (z : CodeOutcome) → SameOutcome x y → same.SameOutcome mode start y z →
    same.SameOutcome mode start x z
outcome_too mode start (rtl.Running a) (rtl.Running b) (code.Running c) one two = calls_too a b c one two
outcome_too mode start (rtl.Asked a) (rtl.Asked b) (code.Asked c) one two = calls_too a b c one two
outcome_too mode start (rtl.Returned value memory a kept) (rtl.Returned value' memory' b kept') (code.Returned a0 memory'' c saved) one two =
    (subst (λ v. SameResult mode v a0) one.0 two.0, two.1 ∙ one.1, calls_too a b c one.2 two.2, two.3)
outcome_too mode start (rtl.Running a) (rtl.Running b) _ one two = absurd two
outcome_too mode start (rtl.Asked a) (rtl.Asked b) _ one two = absurd two
outcome_too mode start (rtl.Returned value memory a kept) (rtl.Returned value' memory' b kept') _ one two = absurd two
outcome_too mode start _ _ _ one two = absurd one

-- ---- functions

from_start : (f g : Function) (items : List CodeItem) (frame : ℕ) (start : Start) (world : World) (n : ℕ) → Keeps f g →
    IsLawful frame f.locals start → IsLawfulWorld start world →
    ((m : ℕ) → SameFrom frame g items start world m) → SameFrom frame f items start world n
from_start f g items frame start world n keeps lawful lawful_world second some =
    let seen : ℕ → Start = λ locals. seen_by_rtl frame locals start in
    let one = keeps.runs (seen f.locals) world n (seen_is_machine frame f.locals start lawful) (world_is_machine start world lawful_world)
    some in
    let value = has_value (run_of f (seen f.locals) world n) (run_of g (seen f.locals) world one.0) one.2 in
    let two = second one.0 (subst (λ l. run_of g (seen l) world one.0 ≢ rtl.Undefined) (sym keeps.locals_are) value) in
    let enough : taken g (seen f.locals) world one.0 ≤ two.0 = subst (λ l. taken g (seen l) world one.0 ≤ two.0) keeps.locals_are two.1 in
    let few = one.1 in (
      two.0,
      omega (arith, few, enough),
      outcome_too f.result start (run_of f (seen f.locals) world n) (run_of g (seen f.locals) world one.0)
          (lines.run items start world two.0) one.2
          (subst (λ r. same.SameOutcome r start (run_of g (seen f.locals) world one.0) (lines.run items start world two.0)) keeps.result_is
          (subst (λ l. same.SameOutcome g.result start (run_of g (seen l) world one.0) (lines.run items start world two.0)) keeps.locals_are
          two.2)),
    )

pub keeps_then_same : (least : ℕ) (f g : Function) (items : List CodeItem) → Keeps f g → Same least g items → Same least f items
keeps_then_same least f g items keeps second = λ frame start world n enough lawful lawful_world.
    from_start f g items frame start world n keeps lawful lawful_world
    (λ m. second frame start world m enough (subst (λ l. IsLawful frame l start) (sym keeps.locals_are) lawful) lawful_world)
