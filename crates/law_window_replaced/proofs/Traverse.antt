-- The run of the new function through the instructions in the window's place.
use Rattle.std.proofs.Common.{◌≡◌, ℕ, ◌+◌, true, false, List, [], ◌∷◌, ◌++◌, Option, Some, None, refl, sym, ap, subst, ◌∙◌}
use Rattle.std.specs.Prelude.{option_map, option_and_then}
use Rattle.bits64.specs.declared.Width.{Width}
use Rattle.rtx_tree.specs.Patterns.{place_of}
use Rattle.rtx_tree.specs.declared.function.Insn.{Insn}
use Rattle.rtx_tree.specs.declared.function.Kind.{Kind}
use Rattle.rtx_tree.specs.declared.function.Kind.TheVariants as kind
use Rattle.rtx_tree.specs.declared.memories.MemByte.{MemByte}
use Rattle.rtl_step.specs.Call.{event_of, result_width}
use Rattle.rtl_step.specs.Effect.{effects_of, regs_after, memory_after}
use Rattle.rtl_step.specs.Jump.{jump_of}
use Rattle.rtl_step.specs.Regs.{Regs}
use Rattle.rtl_step.specs.Step.{step, act, after_effects, after_goes, after_jump, after_event, after_reply, next_reply, is_mark}
use Rattle.rtl_step.specs.Value.{of_two}
use Rattle.rtl_step.specs.declared.call.CallEvent.{CallEvent}
use Rattle.rtl_step.specs.declared.effect.Effect.{Effect}
use Rattle.rtl_step.specs.declared.jump.Way.{Way}
use Rattle.rtl_step.specs.declared.jump.Way.TheVariants as way
use Rattle.rtl_step.specs.declared.step.State.{State}
use Rattle.rtl_step.specs.declared.step.StepEnd.TheVariants as ends
use Rattle.law_function_kept.specs.Ends.{is_past}
use Rattle.law_window_runs.specs.Insns as window
use Rattle.law_window_runs.specs.Insns.{InsnsEnd, InsnsCome, insns_come, insn_comes, come_to, come_after, end_of_way}
use Rattle.law_window_kept.specs.Same.{leads_last, is_plain}
use Rattle.law_window_lines.proofs.Simulation as machine
use Rattle.law_window_lines.proofs.Simulation.{added}
use Rattle.law_window_replaced.proofs.Known.{both_of}
use Rattle.law_window_replaced.proofs.Machine.{one_move, then_more}
use Rattle.law_window_replaced.proofs.Setting.{Setting, new_of, Moves}
use Rattle.law_window_replaced.proofs.Stands.{Stands, not_past, stands_behind, stands_mark, step_is}
use Rattle.law_window_replaced.proofs.Twins.{rest_leads}

-- a state behind some instructions
pub record Arrives (t after : State) (regs : Regs) (memory : List MemByte) : Type 0 where
  pub regs_are : after.regs ≡ regs
  pub memory_is : after.memory ≡ memory
  pub visible_is : after.visible ≡ t.visible
  pub calls_are : after.calls ≡ t.calls

-- how the run comes through them, by how they end: before a jump that is taken and before a call it stands at its instruction
pub data Through (c : Setting) (back : List Insn) (t : State) (regs : Regs) (memory : List MemByte) : InsnsEnd → Type 0 where
  falls : (k : ℕ) (after : State) (q : ℕ) → Moves c k t after → Arrives t after regs memory →
      Stands (new_of c).insns after.next back q → Through c back t regs memory window.Falls
  goes : (uid k : ℕ) (after : State) → Moves c k t after → Arrives t after regs memory →
      step c.world (new_of c) after ≡ after_goes after (place_of uid (new_of c).insns) → Through c back t regs memory (window.Goes uid)
  calls : (event : CallEvent) (w : Width) (k : ℕ) (after : State) (q : ℕ) → Moves c k t after → Arrives t after regs memory →
      step c.world (new_of c) after ≡ after_reply after q w event (next_reply c.world after) →
      Stands (new_of c).insns (q + 1) back (q + 1) → is_past (new_of c) after ≡ false → Through c back t regs memory (window.Calls event w)
  returns : Through c back t regs memory window.Returns

module _ (c : Setting) (back : List Insn) where
  abbrev Comes : List Insn → State → InsnsCome → Type 0
  Comes insns t came = insns_come c.world.symbols t.visible insns t.regs t.memory ≡ Some came

  abbrev Led : State → InsnsCome → Type 0
  Led t came = Through c back t came.regs came.memory came.ending

  arrives_later : (t t1 after : State) (regs : Regs) (memory : List MemByte) → t1.visible ≡ t.visible → t1.calls ≡ t.calls →
      Arrives t1 after regs memory → Arrives t after regs memory
  arrives_later t t1 after regs memory visible told a = record {
    regs_are = a.regs_are;
    memory_is = a.memory_is;
    visible_is = a.visible_is ∙ visible;
    calls_are = a.calls_are ∙ told;
  }

  later : (k : ℕ) (t t1 : State) (regs : Regs) (memory : List MemByte) (e : InsnsEnd) → Moves c k t t1 → t1.visible ≡ t.visible →
      t1.calls ≡ t.calls → Through c back t1 regs memory e → Through c back t regs memory e
  later k t t1 regs memory _ led visible calls_are (falls j after q more arrives stands) =
      falls (added k j) after q (then_more c.world (new_of c) k j t t1 after led more)
      (arrives_later t t1 after regs memory visible calls_are arrives) stands
  later k t t1 regs memory _ led visible calls_are (goes uid j after more arrives is) =
      goes uid (added k j) after (then_more c.world (new_of c) k j t t1 after led more)
      (arrives_later t t1 after regs memory visible calls_are arrives) is
  later k t t1 regs memory _ led visible calls_are (calls event w j after q more arrives is stands before) =
      calls event w (added k j) after q (then_more c.world (new_of c) k j t t1 after led more)
      (arrives_later t t1 after regs memory visible calls_are arrives) is stands before
  later k t t1 regs memory _ led visible calls_are returns = returns

  here : (t : State) → Arrives t t t.regs t.memory
  here t = record { regs_are = refl; memory_is = refl; visible_is = refl; calls_are = refl }

  -- a step to the next instruction
  one_more : (t t1 : State) (came : InsnsCome) → step c.world (new_of c) t ≡ (ends.Next, t1) → t1.visible ≡ t.visible →
      t1.calls ≡ t.calls → Led t1 came → Led t came
  one_more t t1 came is visible calls_are more =
      later 1 t t1 came.regs came.memory came.ending (one_move c.world (new_of c) t t1 ends.Next is refl) visible calls_are more

  module _ (i : Insn) (rest : List Insn) (t : State) (q : ℕ) (came : InsnsCome)
      (stands : Stands (new_of c).insns t.next (i ∷ (rest ++ back)) q) (leads : leads_last (i ∷ rest) ≡ true)
      (more : (t1 : State) (p : ℕ) → Stands (new_of c).insns t1.next (rest ++ back) p → Comes rest t1 came → Led t1 came) where
    abbrev after_it : InsnsCome → Option InsnsCome
    after_it it = window.goes_on it.ending it (insns_come c.world.symbols t.visible rest)

    behind_it : Stands (new_of c).insns (q + 1) (rest ++ back) (q + 1)
    behind_it = stands_behind (new_of c).insns t.next i (rest ++ back) q stands

    plain_through : (o : Option (List Effect)) → effects_of c.world.symbols t.regs t.memory i.pattern ≡ o →
        option_and_then after_it (option_map (come_after t.regs t.memory) o) ≡ Some came →
        step c.world (new_of c) t ≡ act kind.Plain c.world (new_of c) i q t → Led t came
    plain_through None are comes is = absurd (let no : ⊥ = cc in no)
    plain_through (Some es) are comes is =
        let t1 : State = record t { next = q + 1; regs = regs_after es t.regs; memory = memory_after es t.memory } in
        one_more t t1 came (is ∙ ap (after_effects t q) are) refl refl (more t1 (q + 1) behind_it comes)

    way_through : (w : Way) → jump_of c.world.symbols t.regs t.memory i.pattern ≡ Some w →
        after_it (come_to t.regs t.memory (end_of_way w)) ≡ Some came →
        step c.world (new_of c) t ≡ act kind.Jump c.world (new_of c) i q t → Led t came
    way_through way.Falls goes_is comes is =
        let t1 : State = record t { next = q + 1 } in
        one_more t t1 came (is ∙ ap (after_jump (new_of c) t q) goes_is) refl refl (more t1 (q + 1) behind_it comes)
    way_through (way.Goes uid) goes_is comes is =
        let same : come_to t.regs t.memory (window.Goes uid) ≡ came = cc in
        subst (Led t) same (goes uid 0 t (machine.stays t) (here t) (is ∙ ap (after_jump (new_of c) t q) goes_is))
    way_through way.Leaves goes_is comes is =
        let same : come_to t.regs t.memory window.Returns ≡ came = cc in subst (Led t) same returns

    jump_through : (o : Option Way) → jump_of c.world.symbols t.regs t.memory i.pattern ≡ o →
        option_and_then after_it (option_map (λ w. come_to t.regs t.memory (end_of_way w)) o) ≡ Some came →
        step c.world (new_of c) t ≡ act kind.Jump c.world (new_of c) i q t → Led t came
    jump_through None goes_is comes is = absurd (let no : ⊥ = cc in no)
    jump_through (Some w) goes_is comes is = way_through w goes_is comes is

    -- a call is the last
    call_last : (insns : List Insn) → i.kind ≡ kind.Call → leads_last (i ∷ insns) ≡ true → insns ++ back ≡ back
    call_last [] is leads = refl
    call_last (j ∷ insns) is leads =
        absurd (let no : false ≡ true = ap is_plain (sym is) ∙ (both_of (is_plain i.kind) _ leads).0 in let none : ⊥ = cc in none)

    call_through : (event : Option CallEvent) (width : Option Width) → i.kind ≡ kind.Call →
        event_of c.world.symbols t.regs t.memory t.visible i.pattern i.uses ≡ event → result_width i.pattern ≡ width →
        option_and_then after_it (of_two (λ event w. Some (come_to t.regs t.memory (window.Calls event w))) event width) ≡ Some came →
        step c.world (new_of c) t ≡ act kind.Call c.world (new_of c) i q t → Led t came
    call_through None width call event_is width_is comes is = absurd (let no : ⊥ = cc in no)
    call_through (Some event) None call event_is width_is comes is = absurd (let no : ⊥ = cc in no)
    call_through (Some event) (Some w) call event_is width_is comes is =
        let same : come_to t.regs t.memory (window.Calls event w) ≡ came = cc in
        subst (Led t) same (calls event w 0 t q (machine.stays t) (here t)
        (is ∙ ap (λ o. after_event c.world t q o (event_of c.world.symbols t.regs t.memory t.visible i.pattern i.uses)) width_is ∙
        ap (after_event c.world t q (Some w)) event_is)
        (subst (λ insns. Stands (new_of c).insns (q + 1) insns (q + 1)) (call_last rest call leads) behind_it)
        (not_past (new_of c) t i (rest ++ back) q kind.Call stands refl call))

    by_kind : (k : Kind) → i.kind ≡ k → option_and_then after_it (insn_comes k c.world.symbols t.visible i t.regs t.memory) ≡ Some came →
        Led t came
    by_kind kind.Plain is comes =
        plain_through (effects_of c.world.symbols t.regs t.memory i.pattern) refl comes
        (step_is c.world (new_of c) t i (rest ++ back) q kind.Plain stands refl is)
    by_kind kind.Jump is comes =
        jump_through (jump_of c.world.symbols t.regs t.memory i.pattern) refl comes
        (step_is c.world (new_of c) t i (rest ++ back) q kind.Jump stands refl is)
    by_kind kind.Call is comes =
        call_through (event_of c.world.symbols t.regs t.memory t.visible i.pattern i.uses) (result_width i.pattern) is refl refl comes
        (step_is c.world (new_of c) t i (rest ++ back) q kind.Call stands refl is)
    by_kind kind.Label is comes = absurd (let no : ⊥ = cc in no)
    by_kind kind.Barrier is comes =
        more t (q + 1) (stands_mark (new_of c).insns t.next i (rest ++ back) q (ap is_mark is) stands) comes

  -- the run of the new function through the instructions, to where they end
  pub through : (insns : List Insn) (t : State) (q : ℕ) (came : InsnsCome) → Stands (new_of c).insns t.next (insns ++ back) q →
      leads_last insns ≡ true → Comes insns t came → Through c back t came.regs came.memory came.ending
  through [] t q came stands leads comes =
      let same : come_to t.regs t.memory window.Falls ≡ came = cc in
      subst (Led t) same (falls 0 t q (machine.stays t) (here t) stands)
  through (i ∷ insns) t q came stands leads comes =
      by_kind i insns t q came stands leads (λ t1 p s more. through insns t1 p came s (rest_leads i insns leads) more) i.kind refl comes
