-- Each step of a function is followed by the turns of what stands for its instruction.
use Rattle.std.proofs.Common.{◌≡◌, ℕ, ◌+◌, ◌<◌, ◌||◌, ◌&&◌, not, arith, if◌then◌else◌, Bool, true, false, drop, List, [], ◌∷◌, ◌++◌, Option, Some, None, refl, sym, ap, subst, ◌∙◌}
use Rattle.std.specs.Prelude.{slice_get, is_some, option_map, option_and_then}
use Rattle.bits64.specs.declared.Width.{Width}
use Rattle.rtx_tree.specs.Tree.{head_of}
use Rattle.rtx_tree.specs.Patterns.{place_of}
use Rattle.rtx_tree.specs.declared.function.Insn.{Insn}
use Rattle.rtx_tree.specs.declared.function.Function.{Function}
use Rattle.rtx_tree.specs.declared.function.Kind.{Kind}
use Rattle.rtx_tree.specs.declared.function.Kind.TheVariants as kind
use Rattle.rtx_tree.specs.declared.machine.Start.{Start}
use Rattle.rtx_tree.specs.declared.machine.World.{World}
use Rattle.rtl_step.specs.Call.{event_of, result_width}
use Rattle.rtl_step.specs.Effect.{effects_of, regs_after, memory_after}
use Rattle.rtl_step.specs.Jump.{jump_of}
use Rattle.rtl_step.specs.Regs.{Regs}
use Rattle.rtl_step.specs.Step as rtl_step
use Rattle.rtl_step.specs.Value.{of_two}
use Rattle.rtl_step.specs.declared.call.CallEvent.{CallEvent}
use Rattle.rtl_step.specs.declared.effect.Effect.{Effect}
use Rattle.rtl_step.specs.declared.jump.Way.{Way}
use Rattle.rtl_step.specs.declared.jump.Way.TheVariants as way
use Rattle.rtl_step.specs.declared.step.State.{State}
use Rattle.rtl_step.specs.declared.step.StepEnd.TheVariants as rtl_ends
use Rattle.func_run.specs.Run as func
use Rattle.func_run.specs.declared.outcome.Outcome.{Outcome}
use Rattle.law_function_kept.specs.Ends.{is_past}
use Rattle.rtl_func.specs.Paths.{leads}
use Rattle.rtx_tree.specs.Registers.{is_call_used}
use Rattle.reg_uses.specs.Effects.{pattern_defines}
use Rattle.reg_uses.specs.Uses.{insn_uses, insn_defines, is_return, return_uses, is_call_kind}
use Rattle.live.specs.Live as live
use Rattle.rv_text.specs.declared.line.Line.{Line}
use Rattle.rv_text.specs.declared.line.CodeItem.{CodeItem}
use Rattle.rv_line.specs.Run as lines
use Rattle.rv_line.specs.Run.{Running, next_line}
use Rattle.rv_line.specs.declared.state.RvState.{RvState}
use Rattle.rv_line.specs.declared.state.LineEnd.TheVariants as ends
use Rattle.run_memory.specs.RunMemory.{visible}
use Rattle.law_window_runs.specs.same_behaviour.Lawful.{IsLawfulWorld}
use Rattle.law_window_runs.proofs.same_behaviour.Places.{get_dropped, get_past, drop_next}
use Rattle.law_window_runs.specs.Beside.{Agrees, Beside}
use Rattle.law_window_runs.specs.Insns as window
use Rattle.law_window_runs.specs.Insns.{InsnsCome, insns_come, insn_comes, come_to}
use Rattle.law_window_lines.specs.ForLines.{MarksAreEmpty}
use Rattle.law_window_lines.specs.Items.{AreItemsAt, AreItemsFrom, IsReturnLine, is_quiet}
use Rattle.law_window_lines.specs.Items as items_of
use Rattle.law_window_lines.proofs.Leads as leads_by
use Rattle.law_window_lines.proofs.Leads.{LeadsBy, leads_on, jump_leads}
use Rattle.law_window_lines.proofs.Places as places
use Rattle.law_window_lines.proofs.Quiet.{quiet_leaves}
use Rattle.law_window_lines.proofs.Returns.{leaves, line_returns, result_used, same_result}
use Rattle.law_window_lines.proofs.Simulation as machine
use Rattle.law_window_lines.proofs.Steps as steps
use Rattle.law_window_lines.proofs.Steps.{IsKeeping}
use Rattle.law_window_lines.proofs.Turns as turns
use Rattle.law_window_lines.proofs.Turns.{at}
use Rattle.law_window_lines.proofs.Small.{or_true}

module _ (number : ℕ) (f : Function) (marks : MarksAreEmpty f) (items : List CodeItem) (start : Start) (world : World)
    (Keeps : Regs → RvState → Type 0) (Good : State → Outcome → Type 0) (all : AreItemsFrom number f 0 f.insns items)
    (lawful : IsLawfulWorld start world) (keeping : IsKeeping number f marks items start world Keeps Good) where
  abbrev pub Related : State → Running → Type 0
  Related s t = steps.Related number f marks items start world Keeps Good s t

  abbrev Simulates : State → Running → Type 0
  Simulates s t = steps.Simulates number f marks items start world Keeps Good s t

  abbrev EndsGood : State → Type 0
  EndsGood s = steps.EndsGood number f marks items start world Keeps Good s

  abbrev LiveAgree : ℕ → Regs → RvState → Type 0
  LiveAgree place regs m = steps.LiveAgree number f marks items start world Keeps Good place regs m

  step_insn : (s : State) (place : ℕ) (i : Insn) (k : Kind) → rtl_step.place_from f.insns s.next ≡ place →
      slice_get f.insns place ≡ Some i →
      i.kind ≡ k → rtl_step.step world f s ≡ rtl_step.act k world f i place s
  step_insn = steps.step_insn number f marks items start world Keeps Good all lawful keeping

  never : (s s' : State) → rtl_step.step world f s ≡ (rtl_ends.Undefined, s') → EndsGood s → ⊥
  never = steps.never number f marks items start world Keeps Good all lawful keeping

  -- ---- returns

  returns_good : (s : State) (t : Running) (line : Line) (more : List CodeItem) → Related s t →
      ((reg : ℕ) → return_uses f reg ≡ true → reg < 32 → Agrees s.regs t.machine.regs reg) → next_line t.rest ≡ Some (line, more) →
      IsReturnLine line → rtl_step.has_result f.result s.regs ≡ true → rtl_step.step world f s ≡ (rtl_ends.Returned, s) → EndsGood s →
      Simulates s t
  returns_good s t line more related used next returns has stepped good =
      let back = keeping.returns s t.machine related.beside.second related.keeps used (good rtl_ends.Returned s stepped refl) in
      let line_is = line_returns world line t.machine returns (back.0 ∙ ap Some (sym related.entry_is)) in
      machine.ends_there rtl_ends.Returned s 0 t (lines.returned start.visible (at [] t.machine t.replies t.calls)) stepped refl
      (machine.stays t) tt
      (turns.line_turns world start.visible items t.replies t.calls t.rest line more t.machine t.machine ends.Returned next line_is)
      (omega arith) (
        same_result f.result s.regs t.machine.regs has (λ some. used 10 (result_used f some) (omega arith)),
        (related.beside.visible_is ∙ ap (λ v. visible v s.memory) (sym related.visible_is)),
        related.calls_are,
        back.1,
      )

  returns_by : (s : State) (t : Running) (line : Line) (more : List CodeItem) (b : Bool) → rtl_step.has_result f.result s.regs ≡ b →
      Related s t →
      ((reg : ℕ) → return_uses f reg ≡ true → reg < 32 → Agrees s.regs t.machine.regs reg) → next_line t.rest ≡ Some (line, more) →
      IsReturnLine line → rtl_step.step world f s ≡ rtl_step.after_return f.result s → EndsGood s → Simulates s t
  returns_by s t line more true has related used next returns stepped good = returns_good s t line more related used next returns has
      (stepped ∙ ap (λ b. if b then (rtl_ends.Returned, s) else (rtl_ends.Undefined, s)) has) good
  returns_by s t line more false has related used next returns stepped good =
      absurd (never s s (stepped ∙ ap (λ b. if b then (rtl_ends.Returned, s) else (rtl_ends.Undefined, s)) has) good)

  -- ---- a window

  one_comes : (i : Insn) (k : Kind) (s : State) (came : InsnsCome) → i.kind ≡ k →
      insn_comes k world.symbols start.visible i s.regs s.memory ≡ Some came →
      window.goes_on came.ending came (insns_come world.symbols start.visible []) ≡ Some came →
      insns_come world.symbols start.visible (i ∷ []) s.regs s.memory ≡ Some came
  one_comes i k s came kind_is comes stays =
      let further : InsnsCome → Option InsnsCome = λ came. window.goes_on came.ending came (insns_come world.symbols start.visible []) in
      ap (λ k. option_and_then further (insn_comes k world.symbols start.visible i s.regs s.memory)) kind_is ∙
      ap (option_and_then further) comes ∙ stays

  module _ (s : State) (t : Running) (place : ℕ) (i : Insn) (insns : List Insn) (ls : List Line) (more : List CodeItem)
      (w : steps.Window number f marks items start world Keeps Good all lawful keeping s t place i insns ls more)
      (good : EndsGood s) where
    there : slice_get f.insns place ≡ Some i
    there = get_dropped f.insns place i insns w.chain

    stepped : (k : Kind) → i.kind ≡ k → rtl_step.step world f s ≡ rtl_step.act k world f i place s
    stepped k is = step_insn s place i k w.passed there is

    plain_at : (effects : Option (List Effect)) → effects_of world.symbols s.regs s.memory i.pattern ≡ effects → i.kind ≡ kind.Plain →
        Simulates s t
    plain_at None are plain = absurd (never s s (stepped kind.Plain plain ∙ ap (rtl_step.after_effects s place) are) good)
    plain_at (Some effects) are plain =
        let came : InsnsCome = window.come_after s.regs s.memory effects in
        steps.falls_on number f marks items start world Keeps Good all lawful keeping s t place i insns ls more w came
        (one_comes i kind.Plain s came plain (ap (option_map (window.come_after s.regs s.memory)) are) refl) refl
        (stepped kind.Plain plain ∙ ap (rtl_step.after_effects s place) are)
        (leads_on f.insns place i there (λ jumps. let no : kind.Plain ≡ kind.Jump = sym plain ∙ jumps in let none : ⊥ = cc in none))

    jump_comes : (took : Way) → jump_of world.symbols s.regs s.memory i.pattern ≡ Some took → i.kind ≡ kind.Jump →
        window.goes_on (window.end_of_way took) (come_to s.regs s.memory (window.end_of_way took))
        (insns_come world.symbols start.visible []) ≡
        Some (come_to s.regs s.memory (window.end_of_way took)) →
        insns_come world.symbols start.visible (i ∷ []) s.regs s.memory ≡ Some (come_to s.regs s.memory (window.end_of_way took))
    jump_comes took is jump stays = one_comes i kind.Jump s (come_to s.regs s.memory (window.end_of_way took)) jump
        (ap (option_map (λ w. come_to s.regs s.memory (window.end_of_way w))) is) stays

    goes_at : (uid : ℕ) (q : Option ℕ) → place_of uid f.insns ≡ q → jump_of world.symbols s.regs s.memory i.pattern ≡ Some (way.Goes uid) →
        i.kind ≡ kind.Jump → ((q : ℕ) → place_of uid f.insns ≡ Some q → leads f.insns place q ≡ true) → Simulates s t
    goes_at uid None none is jump leads_there =
        absurd (never s s (stepped kind.Jump jump ∙ ap (rtl_step.after_jump f s place) is ∙ ap (rtl_step.after_goes s) none) good)
    goes_at uid (Some q) at_q is jump leads_there =
        steps.goes_on number f marks items start world Keeps Good all lawful keeping s t place i insns ls more w
        (come_to s.regs s.memory (window.Goes uid)) (jump_comes (way.Goes uid) is jump refl) uid q refl at_q
        (stepped kind.Jump jump ∙ ap (rtl_step.after_jump f s place) is ∙ ap (rtl_step.after_goes s) at_q) (leads_there q at_q)

    way_at : (took : Way) → LeadsBy f.insns place took → jump_of world.symbols s.regs s.memory i.pattern ≡ Some took →
        i.kind ≡ kind.Jump → Simulates s t
    way_at _ (leads_by.falls_on leads_there) is jump =
        steps.falls_on number f marks items start world Keeps Good all lawful keeping s t place i insns ls more w
        (come_to s.regs s.memory window.Falls) (jump_comes way.Falls is jump refl) refl
        (stepped kind.Jump jump ∙ ap (rtl_step.after_jump f s place) is) leads_there
    way_at _ (leads_by.goes_on uid leads_there) is jump = goes_at uid (place_of uid f.insns) refl is jump leads_there
    way_at _ leads_by.leaves_it is jump =
        let came : InsnsCome = come_to s.regs s.memory window.Returns in
        let does = w.lines_are.same world start.visible s.regs s.memory t.machine came
        (steps.starts number f marks items start world Keeps Good all lawful keeping s t place i insns ls more w)
        (jump_comes way.Leaves is jump refl) in
        absurd (steps.end_returns number start.visible does.done.machine window.Returns does.done.ending does.same_end refl)

    jump_at : (took : Option Way) → jump_of world.symbols s.regs s.memory i.pattern ≡ took → i.kind ≡ kind.Jump → Simulates s t
    jump_at None is jump = absurd (never s s (stepped kind.Jump jump ∙ ap (rtl_step.after_jump f s place) is) good)
    jump_at (Some took) is jump = way_at took (jump_leads world.symbols s.regs s.memory f.insns place i took there jump is) is jump

    call_at : (width : Option Width) (event : Option CallEvent) → result_width i.pattern ≡ width →
        event_of world.symbols s.regs s.memory start.visible i.pattern i.uses ≡ event → i.kind ≡ kind.Call →
        rtl_step.step world f s ≡ rtl_step.after_event world s place width event → Simulates s t
    call_at None event width_is event_is call is = absurd (never s s is good)
    call_at (Some w') None width_is event_is call is = absurd (never s s is good)
    call_at (Some w') (Some event) width_is event_is call is =
        let came : InsnsCome = come_to s.regs s.memory (window.Calls event w') in
        steps.calls_on number f marks items start world Keeps Good all lawful keeping s t place i insns ls more w came
        (one_comes i kind.Call s came call
        (ap (λ o. of_two (λ event w. Some (come_to s.regs s.memory (window.Calls event w))) o (result_width i.pattern)) event_is ∙
        ap (of_two (λ event w. Some (come_to s.regs s.memory (window.Calls event w))) (Some event)) width_is) refl) event w' refl call is

    window_at : (k : Kind) → i.kind ≡ k → Simulates s t
    window_at kind.Plain is = plain_at (effects_of world.symbols s.regs s.memory i.pattern) refl is
    window_at kind.Jump is = jump_at (jump_of world.symbols s.regs s.memory i.pattern) refl is
    window_at kind.Call is = call_at (result_width i.pattern)
        (event_of world.symbols s.regs s.memory start.visible i.pattern i.uses) refl refl is
        (stepped kind.Call is ∙ ap (λ v. rtl_step.after_event world s place (result_width i.pattern)
        (event_of world.symbols s.regs s.memory v i.pattern i.uses))
        w.related.visible_is)
    window_at kind.Label is = absurd (let no : true ≡ false = sym (ap rtl_step.is_mark is) ∙
        w.lines_are.is_none in let none : ⊥ = cc in none)
    window_at kind.Barrier is = absurd (let no : true ≡ false = sym (ap rtl_step.is_mark is) ∙
        w.lines_are.is_none in let none : ⊥ = cc in none)

  -- ---- a use or a clobber alone

  quiet_defines : (i : Insn) (reg : ℕ) → i.kind ≡ kind.Plain → pattern_defines reg i.pattern ≡ false → insn_defines i reg ≡ false
  quiet_defines i reg plain none = ap (λ b. b || (is_call_kind i.kind && is_call_used reg)) none ∙
      ap (λ k. is_call_kind k && is_call_used reg) plain

  quiet_at : (s : State) (t : Running) (place : ℕ) (i : Insn) (insns : List Insn) (more : List CodeItem) (effects : Option (List Effect)) →
      effects_of world.symbols s.regs s.memory i.pattern ≡ effects → Related s t → rtl_step.place_from f.insns s.next ≡ place →
      drop place f.insns ≡ i ∷ insns → LiveAgree place s.regs t.machine → i.kind ≡ kind.Plain →
      is_quiet (head_of i.pattern).code ≡ true → AreItemsFrom number f (place + 1) insns more → next_line t.rest ≡ next_line more →
      EndsGood s → Simulates s t
  quiet_at s t place i insns more None are related passed chain agree plain quiet rest_are next good =
      absurd (never s s (step_insn s place i kind.Plain passed (get_dropped f.insns place i insns chain) plain ∙
      ap (rtl_step.after_effects s place) are) good)
  quiet_at s t place i insns more (Some effects) are related passed chain agree plain quiet rest_are next good =
      let there = get_dropped f.insns place i insns chain in
      let leads_there = leads_on f.insns place i there (λ jumps. let no : kind.Plain ≡ kind.Jump = sym plain ∙
      jumps in let none : ⊥ = cc in none) in
      let left = quiet_leaves world.symbols s.regs s.memory i.pattern effects quiet are in
      let after : State = record s { next = place + 1; regs = regs_after effects s.regs; memory = memory_after effects s.memory } in
      let related_after : Related after t = record {
        place = record {
          there = more;
          are = subst (λ insns. AreItemsFrom number f (place + 1) insns more) (sym (drop_next f.insns place i insns chain)) rest_are;
          same = next;
        };
        beside = subst (λ memory. Beside start.visible memory t.machine) (sym left.memory_is) related.beside;
        agree = λ reg lives small width value known. let before = left.known reg width value known in
            agree reg (live.Passing place (place + 1) i there
            (quiet_defines i reg plain before.0) leads_there lives) small width value before.1;
        visible_is = related.visible_is;
        calls_are = related.calls_are;
        replies_are = related.replies_are;
        entry_is = related.entry_is;
        keeps = keeping.quiet place i s.regs s.memory t.machine effects there plain quiet are related.keeps;
      } in
      machine.goes_on rtl_ends.Next after 0 t (step_insn s place i kind.Plain passed there plain ∙
      ap (rtl_step.after_effects s place) are) refl
      (machine.stays t) (omega arith) related_after

  -- ---- whatever stands there

  returns_use : (i : Insn) (reg : ℕ) → is_return i ≡ true → return_uses f reg ≡ true → live.uses_in f i reg ≡ true
  returns_use i reg return uses = ap (λ b. insn_uses i reg || (b && return_uses f reg)) return ∙ ap (λ b. insn_uses i reg || b) uses ∙
      or_true (insn_uses i reg)

  return_at : (s : State) (t : Running) (place : ℕ) (i : Insn) (insns : List Insn) (line : Line) (more : List CodeItem) → Related s t →
      rtl_step.place_from f.insns s.next ≡ place → drop place f.insns ≡ i ∷ insns → LiveAgree place s.regs t.machine → i.kind ≡ kind.Jump →
      is_return i ≡ true → IsReturnLine line → next_line t.rest ≡ Some (line, more) → EndsGood s → Simulates s t
  return_at s t place i insns line more related passed chain agree jump return returns next good =
      let there = get_dropped f.insns place i insns chain in
      returns_by s t line more (rtl_step.has_result f.result s.regs) refl related
      (λ reg uses small. agree reg (live.AtUse place i there (returns_use i reg return uses)) small) next returns
      (step_insn s place i kind.Jump passed there jump ∙
      ap (rtl_step.after_jump f s place) (leaves i world.symbols s.regs s.memory return)) good

  insn_at : (s : State) (t : Running) (place : ℕ) (i : Insn) (insns : List Insn) (own more : List CodeItem) → Related s t →
      rtl_step.place_from f.insns s.next ≡ place → drop place f.insns ≡ i ∷ insns →
      LiveAgree place s.regs t.machine →
      rtl_step.is_mark i.kind ≡ false → AreItemsAt number f place i own → AreItemsFrom number f (place + 1) insns more →
      next_line t.rest ≡ next_line (own ++ more) → EndsGood s → Simulates s t
  insn_at s t place i insns _ more related passed chain agree none (items_of.label label small) rest_are next good =
      absurd (let no : true ≡ false = sym (ap rtl_step.is_mark label) ∙ none in let nothing : ⊥ = cc in nothing)
  insn_at s t place i insns _ more related passed chain agree none (items_of.barrier barrier) rest_are next good =
      absurd (let no : true ≡ false = sym (ap rtl_step.is_mark barrier) ∙ none in let nothing : ⊥ = cc in nothing)
  insn_at s t place i insns _ more related passed chain agree none (items_of.quiet plain quiet) rest_are next good =
      quiet_at s t place i insns more
      (effects_of world.symbols s.regs s.memory i.pattern) refl related passed chain agree plain quiet rest_are next good
  insn_at s t place i insns _ more related passed chain agree none (items_of.returning line jump return returns) rest_are next good =
      return_at s t place i insns line more related passed chain agree jump return returns next good
  insn_at s t place i insns _ more related passed chain agree none (items_of.window ls lines_are) rest_are next good =
      window_at s t place i insns ls more (record {
        related = related;
        passed = passed;
        chain = chain;
        agree = agree;
        lines_are = lines_are;
        rest_are = rest_are;
        next = next;
      }) good i.kind refl

  -- a run that ends well doesn't end past the last instruction
  end_by : (s : State) (b : Bool) → rtl_step.has_result f.result s.regs ≡ b →
      rtl_step.step world f s ≡ rtl_step.after_return f.result s → is_past f s ≡ true → EndsGood s → ⊥
  end_by s true has stepped past good =
      let stands = keeping.stands s (func.returned f s) (good rtl_ends.Returned s (stepped ∙
      ap (λ b. if b then (rtl_ends.Returned, s) else (rtl_ends.Undefined, s)) has) refl) in
      let no : true ≡ false = sym past ∙ stands in let none : ⊥ = cc in none
  end_by s false has stepped past good =
      never s s (stepped ∙ ap (λ b. if b then (rtl_ends.Returned, s) else (rtl_ends.Undefined, s)) has) good

  end_at : (s : State) (place : ℕ) → rtl_step.place_from f.insns s.next ≡ place → drop place f.insns ≡ [] → EndsGood s → ⊥
  end_at s place passed chain good =
      let none : slice_get f.insns (rtl_step.place_from f.insns s.next) ≡ None =
      ap (slice_get f.insns) passed ∙ get_past f.insns place chain in
      end_by s (rtl_step.has_result f.result s.regs) refl (ap (λ o. rtl_step.act_at o world f (rtl_step.place_from f.insns s.next) s) none)
      (ap (λ o. not (is_some o)) none) good

  stands_at : (s : State) (t : Running) (place : ℕ) → places.Stands number f marks place t.rest → Related s t →
      rtl_step.place_from f.insns s.next ≡ place → LiveAgree place s.regs t.machine → EndsGood s → Simulates s t
  stands_at s t place (places.at_end chain) related passed agree good = absurd (end_at s place passed chain good)
  stands_at s t place (places.at_insn i insns own more chain none own_are rest_are next) related passed agree good =
      insn_at s t place i insns own more related passed chain agree none own_are rest_are next good

  -- each step is followed
  pub step_follows : (s : State) (t : Running) → Related s t → EndsGood s → Simulates s t
  step_follows s t related good =
      let here = related.place in
      let passing = places.passes number f marks (drop s.next f.insns) here.there s.next refl here.are in
      stands_at s t passing.place' (places.restand number f marks passing.place' t.rest here.there here.same passing.stands) related
      passing.passed_is (λ reg lives small. related.agree reg (passing.lives reg lives) small) good
