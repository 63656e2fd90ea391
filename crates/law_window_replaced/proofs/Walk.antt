-- Each step of the old function is followed, wherever its run stands.
use Rattle.std.proofs.Common.{◌≡◌, ◌≢◌, ℕ, ◌+◌, ◌-◌, arith, Bool, true, false, drop, length, List, [], ◌∷◌, ◌++◌, Option, Some, None, refl, sym, ap, subst, ◌∙◌, ◌<◌}
use Rattle.std.specs.Prelude.{slice_get, option_map, option_and_then}
use Rattle.bits64.specs.declared.Width.{Width}
use Rattle.rtx_tree.specs.Patterns.{is_label_kind}
use Rattle.rtx_tree.specs.declared.function.Insn.{Insn}
use Rattle.rtx_tree.specs.declared.function.Kind.{Kind}
use Rattle.rtx_tree.specs.declared.function.Kind.TheVariants as kind
use Rattle.rtl_step.specs.Call.{event_of, result_width}
use Rattle.rtl_step.specs.Effect.{effects_of, regs_after, memory_after}
use Rattle.rtl_step.specs.Jump.{jump_of}
use Rattle.rtl_step.specs.Step.{step, after_effects, after_jump, after_event, is_mark}
use Rattle.rtl_step.specs.Value.{of_two}
use Rattle.rtl_step.specs.declared.call.CallEvent.{CallEvent}
use Rattle.rtl_step.specs.declared.effect.Effect.{Effect}
use Rattle.rtl_step.specs.declared.jump.Way.{Way}
use Rattle.rtl_step.specs.declared.step.State.{State}
use Rattle.rtl_step.specs.declared.step.StepEnd.TheVariants as ends
use Rattle.rtl_func.specs.Paths.{leads}
use Rattle.reg_uses.specs.Uses.{return_uses}
use Rattle.same_behaviour.specs.Lawful.{IsMemory}
use Rattle.live.specs.Live.{IsLive, IsLiveAfter, AtEnd, Passing}
use Rattle.law_window_runs.specs.Insns as window
use Rattle.law_window_runs.specs.Insns.{InsnsCome, InsnsEnd, insns_come, insn_comes, come_to, come_after, end_of_way}
use Rattle.law_window_kept.specs.Same.{KnownToo, CanReplace, leads_last, is_plain}
use Rattle.law_window_lines.proofs.Leads as leads_by
use Rattle.law_window_lines.proofs.Leads.{LeadsBy, leads_on, jump_leads}
use Rattle.law_window_lines.proofs.Simulation as machine
use Rattle.law_window_lines.proofs.Simulation.{added}
use Rattle.law_window_replaced.specs.Replaced as parts
use Rattle.law_window_replaced.specs.Replaced.{AreReplaced}
use Rattle.law_window_replaced.proofs.Inside.{Ended, catches_up, goes_both, calls_end, never_returns}
use Rattle.law_window_replaced.proofs.Known.{both_of}
use Rattle.law_window_replaced.proofs.Machine.{End, then_more, turn, stop, weight, Any}
use Rattle.law_window_replaced.proofs.Memory.{memory_effects}
use Rattle.law_window_replaced.proofs.Onward.{never, returns_both, onward_at}
use Rattle.law_window_replaced.proofs.Outside.{insn_both, plain_defines, plain_not, call_not}
use Rattle.law_window_replaced.proofs.Setting.{Setting, Site, new_of, Alike, Waits, Related, outside, inside, Moves, Simulates, EndsWell}
use Rattle.law_window_replaced.proofs.Stands.{Stands, stands_behind, stands_mark, there_is, step_is, step_returns, end_is, past_end}
use Rattle.law_window_replaced.proofs.Twins.{first_no_label, rest_leads}
use Rattle.law_window_lines.proofs.Places.{mark_calls_not, mark_jumps_not}

-- ---- labels and barriers

kind_jumps_not : (i : Insn) (k : Kind) → i.kind ≡ k → k ≢ kind.Jump → i.kind ≢ kind.Jump
kind_jumps_not i k is other jumps = other (sym is ∙ jumps)

barrier_not : kind.Barrier ≢ kind.Jump
barrier_not is = cc

module _ (c : Setting) where
  alike_mark : (s t : State) (q : ℕ) (i : Insn) → slice_get c.f.insns q ≡ Some i → is_mark i.kind ≡ true → Alike c q s t →
      Alike c (q + 1) s t
  alike_mark s t q i there mark alike = record {
    live = λ reg lives. alike.live reg (Passing q (q + 1) i there
        (plain_defines i reg i.kind refl (mark_calls_not i.kind mark) (c.marks q reg i there mark))
        (leads_on c.f.insns q i there (mark_jumps_not i.kind mark)) lives);
    kept = alike.kept;
    memory_is = alike.memory_is;
    visible_is = alike.visible_is;
    calls_are = alike.calls_are;
    is_memory = alike.is_memory;
  }

  -- some turns before
  prefix : (k : ℕ) (s t t1 : State) → Moves c k t t1 → Simulates c s t1 → Simulates c s t
  prefix k s t t1 led (machine.goes_on e s' j t' stepped on more few related) =
      let all = machine.weigh_on State End (turn c.world (new_of c)) (stop c.world (new_of c)) (weight c.world (new_of c))
      (Any c.world (new_of c)) k j t t1 led in
      machine.goes_on e s' (added k j) t' stepped on (then_more c.world (new_of c) k j t t1 t' led more) (omega (arith, all, few)) related
  prefix k s t t1 led (machine.ends_there e s' j t' outcome stepped over more asked end few done) =
      let longer = then_more c.world (new_of c) k j t t1 t' led more in
      let all = machine.weigh_on State End (turn c.world (new_of c)) (stop c.world (new_of c)) (weight c.world (new_of c))
      (Any c.world (new_of c)) (added k j) 1 t t' longer in
      let some = machine.weigh_on State End (turn c.world (new_of c)) (stop c.world (new_of c)) (weight c.world (new_of c))
      (Any c.world (new_of c)) j 1 t1 t' more in
      let part = machine.weigh_on State End (turn c.world (new_of c)) (stop c.world (new_of c)) (weight c.world (new_of c))
      (Any c.world (new_of c)) k j t t1 led in
      machine.ends_there e s' (added k j) t' outcome stepped over longer asked end (omega (arith, all, some, part, few)) done

  -- ---- within the window

  -- the window has ended
  ended : (w : Site c) (s0 s t : State) (rest : List Insn) (q other : ℕ) (ending : InsnsEnd) → Waits c w s0 s t rest q other →
      insns_come c.world.symbols s.visible rest s.regs s.memory ≡ Some (come_to s.regs s.memory ending) →
      Ended c w s0 s t ending other
  ended w s0 s t rest q other ending wait comes = record {
    alike = wait.alike;
    waiting = wait.waiting;
    comes = wait.comes ∙ comes;
    visible_is = wait.visible_is;
    calls_are = wait.calls_are;
    is_memory = wait.is_memory;
  }

  -- how the run is followed behind a window
  abbrev WalksOn : List Insn → List Insn → ℕ → Type 0
  WalksOn xs ys q = (s t : State) (other : ℕ) → Stands c.f.insns s.next xs q → Stands (new_of c).insns t.next ys other → Alike c q s t →
      EndsWell c s → Simulates c s t

  behind_it : (w : Site c) (q : ℕ) → q + 0 ≡ w.last + 1 → w.last + 1 ≡ q
  behind_it w q last = omega (arith, last)

  at_end : (w : Site c) (s0 s t : State) (q other : ℕ) → Waits c w s0 s t [] q other → WalksOn w.back w.back_new (w.last + 1) →
      EndsWell c s → Simulates c s t
  at_end w s0 s t q other wait on well =
      let caught = catches_up c w s0 s t other (ended w s0 s t [] q other window.Falls wait refl) q (wait.ends refl) in
      prefix caught.turns s t caught.after caught.led
      (subst (WalksOn w.back w.back_new) (behind_it w q wait.last_is) on s caught.after caught.place wait.stands caught.stands
      caught.alike well)

  module _ (w : Site c) (s0 s t : State) (i : Insn) (rest : List Insn) (q other : ℕ)
      (wait : Waits c w s0 s t (i ∷ rest) q other) where
    there : slice_get c.f.insns q ≡ Some i
    there = there_is c.f.insns s.next i (rest ++ w.back) q wait.stands

    behind : Stands c.f.insns (q + 1) (rest ++ w.back) (q + 1)
    behind = stands_behind c.f.insns s.next i (rest ++ w.back) q wait.stands

    abbrev after_it : InsnsCome → Option InsnsCome
    after_it it = window.goes_on it.ending it (insns_come c.world.symbols s.visible rest)

    -- what the rest does, by the kind of its first
    comes_by : (k : Kind) → i.kind ≡ k → insns_come c.world.symbols s.visible (i ∷ rest) s.regs s.memory ≡
        option_and_then after_it (insn_comes k c.world.symbols s.visible i s.regs s.memory)
    comes_by k is = ap (λ k. option_and_then after_it (insn_comes k c.world.symbols s.visible i s.regs s.memory)) is

    last_by : rest ≡ [] → w.last ≡ q
    last_by none = let last = wait.last_is in let empty : length rest ≡ 0 = ap length none in omega (arith, last, empty)

    onwards_by : rest ≡ [] → AreReplaced c.f (q + 1) w.back w.back_new × Stands c.f.insns (q + 1) w.back (q + 1)
    onwards_by none = (
      subst (λ p. AreReplaced c.f (p + 1) w.back w.back_new) (last_by none) w.behind,
      subst (λ insns. Stands c.f.insns (q + 1) (insns ++ w.back) (q + 1)) none behind,
    )

    -- one instruction further
    further : (s' : State) → Stands c.f.insns s'.next (rest ++ w.back) (q + 1) → leads c.f.insns q (q + 1) ≡ true →
        insns_come c.world.symbols s.visible (i ∷ rest) s.regs s.memory ≡
        insns_come c.world.symbols s'.visible rest s'.regs s'.memory → s'.visible ≡ s.visible → s'.calls ≡ s.calls →
        IsMemory s'.memory → Waits c w s0 s' t rest (q + 1) other
    further s' stands led comes visible told is_memory = record {
      alike = wait.alike;
      stands = stands;
      waiting = wait.waiting;
      leads_on = rest_leads i rest wait.leads_on;
      last_is = let last = wait.last_is in omega (arith, last);
      ends = λ none. subst (λ p. leads c.f.insns p (q + 1) ≡ true) (sym (last_by none)) led;
      comes = wait.comes ∙ comes;
      visible_is = visible ∙ wait.visible_is;
      calls_are = told ∙ wait.calls_are;
      is_memory = is_memory;
    }

    -- a step of the old run alone
    alone : (s' : State) → step c.world c.f s ≡ (ends.Next, s') → Waits c w s0 s' t rest (q + 1) other → Simulates c s t
    alone s' stepped waits =
        machine.goes_on ends.Next s' 0 t stepped refl (machine.stays t) (omega arith) (inside w s0 rest (q + 1) other waits)

    plain_inside : (o : Option (List Effect)) → effects_of c.world.symbols s.regs s.memory i.pattern ≡ o → i.kind ≡ kind.Plain →
        EndsWell c s → Simulates c s t
    plain_inside None are plain well = absurd (never c s s
        (step_is c.world c.f s i (rest ++ w.back) q kind.Plain wait.stands refl plain ∙ ap (after_effects s q) are) well)
    plain_inside (Some es) are plain well =
        let s' : State = record s { next = q + 1; regs = regs_after es s.regs; memory = memory_after es s.memory } in
        alone s' (step_is c.world c.f s i (rest ++ w.back) q kind.Plain wait.stands refl plain ∙ ap (after_effects s q) are)
        (further s' behind (leads_on c.f.insns q i there (kind_jumps_not i kind.Plain plain plain_not))
        (comes_by kind.Plain plain ∙ ap (λ o. option_and_then after_it (option_map (come_after s.regs s.memory) o)) are) refl refl
        (memory_effects es s.memory wait.is_memory))

    -- one that is not plain is the last
    is_last : (k : Kind) (insns : List Insn) → i.kind ≡ k → is_plain k ≡ false → leads_last (i ∷ insns) ≡ true → insns ≡ []
    is_last k [] is other led = refl
    is_last k (j ∷ insns) is other led =
        absurd (let no : true ≡ false = sym (both_of (is_plain i.kind) _ led).0 ∙ ap is_plain is ∙ other in let none : ⊥ = cc in none)

    way_inside : (took : Way) → LeadsBy c.f.insns q took → jump_of c.world.symbols s.regs s.memory i.pattern ≡ Some took →
        i.kind ≡ kind.Jump → EndsWell c s → Simulates c s t
    way_inside _ (leads_by.falls_on led) goes jumps well =
        let s' : State = record s { next = q + 1 } in
        alone s' (step_is c.world c.f s i (rest ++ w.back) q kind.Jump wait.stands refl jumps ∙ ap (after_jump c.f s q) goes)
        (further s' behind led
        (comes_by kind.Jump jumps ∙
        ap (λ o. option_and_then after_it (option_map (λ way. come_to s.regs s.memory (end_of_way way)) o)) goes) refl refl wait.is_memory)
    way_inside _ (leads_by.goes_on uid led) goes jumps well =
        goes_both c w s0 s t other uid
        (ended w s0 s t (i ∷ rest) q other (window.Goes uid) wait (comes_by kind.Jump jumps ∙
        ap (λ o. option_and_then after_it (option_map (λ way. come_to s.regs s.memory (end_of_way way)) o)) goes))
        (step_is c.world c.f s i (rest ++ w.back) q kind.Jump wait.stands refl jumps ∙ ap (after_jump c.f s q) goes)
        (λ p at. subst (λ n. leads c.f.insns n p ≡ true) (sym (last_by (is_last kind.Jump rest jumps refl wait.leads_on))) (led p at)) well
    way_inside _ leads_by.leaves_it goes jumps well =
        absurd (never_returns c w s0 s t other
        (ended w s0 s t (i ∷ rest) q other window.Returns wait (comes_by kind.Jump jumps ∙
        ap (λ o. option_and_then after_it (option_map (λ way. come_to s.regs s.memory (end_of_way way)) o)) goes)))

    jump_inside : (o : Option Way) → jump_of c.world.symbols s.regs s.memory i.pattern ≡ o → i.kind ≡ kind.Jump → EndsWell c s →
        Simulates c s t
    jump_inside None goes jumps well = absurd (never c s s
        (step_is c.world c.f s i (rest ++ w.back) q kind.Jump wait.stands refl jumps ∙ ap (after_jump c.f s q) goes) well)
    jump_inside (Some took) goes jumps well =
        way_inside took (jump_leads c.world.symbols s.regs s.memory c.f.insns q i took there jumps goes) goes jumps well

    call_inside : (width : Option Width) (event : Option CallEvent) → result_width i.pattern ≡ width →
        event_of c.world.symbols s.regs s.memory s.visible i.pattern i.uses ≡ event → i.kind ≡ kind.Call →
        step c.world c.f s ≡ after_event c.world s q width event → EndsWell c s → Simulates c s t
    call_inside None event width_is event_is calls stepped well = absurd (never c s s stepped well)
    call_inside (Some v) None width_is event_is calls stepped well = absurd (never c s s stepped well)
    call_inside (Some v) (Some event) width_is event_is calls stepped well =
        let none = is_last kind.Call rest calls refl wait.leads_on in
        calls_end c w s0 s t other event v q
        (ended w s0 s t (i ∷ rest) q other (window.Calls event v) wait (comes_by kind.Call calls ∙
        ap (λ o. option_and_then after_it (of_two (λ event w. Some (come_to s.regs s.memory (window.Calls event w))) o
        (result_width i.pattern))) event_is ∙
        ap (λ o. option_and_then after_it (of_two (λ event w. Some (come_to s.regs s.memory (window.Calls event w))) (Some event) o))
        width_is)) stepped (onwards_by none)
        (subst (λ n. leads c.f.insns n (q + 1) ≡ true) (sym (last_by none))
        (leads_on c.f.insns q i there (kind_jumps_not i kind.Call calls call_not)))

    inside_by : (k : Kind) → i.kind ≡ k → EndsWell c s → (i.kind ≡ kind.Barrier → Simulates c s t) → Simulates c s t
    inside_by kind.Plain is well later = plain_inside (effects_of c.world.symbols s.regs s.memory i.pattern) refl is well
    inside_by kind.Jump is well later = jump_inside (jump_of c.world.symbols s.regs s.memory i.pattern) refl is well
    inside_by kind.Call is well later =
        call_inside (result_width i.pattern) (event_of c.world.symbols s.regs s.memory s.visible i.pattern i.uses) refl refl is
        (step_is c.world c.f s i (rest ++ w.back) q kind.Call wait.stands refl is) well
    inside_by kind.Label is well later = absurd (no_label is)
      where
        no_label : i.kind ≡ kind.Label → ⊥
        no_label is = let no : true ≡ false = sym (ap is_label_kind is) ∙
            first_no_label i rest wait.leads_on in cc
    inside_by kind.Barrier is well later = later is

  walk_inside : (w : Site c) (rest : List Insn) (s0 s t : State) (q other : ℕ) → Waits c w s0 s t rest q other →
      WalksOn w.back w.back_new (w.last + 1) → EndsWell c s → Simulates c s t
  walk_inside w [] s0 s t q other wait on well = at_end w s0 s t q other wait on well
  walk_inside w (i ∷ rest) s0 s t q other wait on well =
      inside_by w s0 s t i rest q other wait i.kind refl well
      (λ barrier. walk_inside w rest s0 s t (q + 1) other
      (further w s0 s t i rest q other wait s (stands_mark c.f.insns s.next i (rest ++ w.back) q (ap is_mark barrier) wait.stands)
      (leads_on c.f.insns q i (there w s0 s t i rest q other wait) (kind_jumps_not i kind.Barrier barrier barrier_not))
      (comes_by w s0 s t i rest q other wait kind.Barrier barrier) refl refl wait.is_memory) on well)

  -- ---- outside of windows

  -- a window that is come to
  abbrev site : (place : ℕ) (before after xs ys : List Insn) → 0 < length before →
      CanReplace before after (λ reg. IsLiveAfter c.f reg (place + length before - 1)) → AreReplaced c.f (place + length before) xs ys →
      drop place c.f.insns ≡ before ++ xs → Site c
  site place before after xs ys some replace rest begins = record {
    window = before;
    new = after;
    back = xs;
    back_new = ys;
    first = place;
    last = place + length before - 1;
    begins = begins;
    first_is = omega (arith, some);
    some = some;
    replace = replace;
    behind = subst (λ p. AreReplaced c.f p xs ys)
        (let all : place + length before ≡ place + length before - 1 + 1 = omega (arith, some) in all) rest;
  }

  no_window : (before : List Insn) → 0 < length before → before ≡ [] → ⊥
  no_window before some none = let empty : length before ≡ 0 = ap length none in omega (arith, some, empty)

  enters : (w : Site c) (s t : State) (other : ℕ) → Stands c.f.insns s.next (w.window ++ w.back) w.first →
      Stands (new_of c).insns t.next (w.new ++ w.back_new) other → Alike c w.first s t → Waits c w s s t w.window w.first other
  enters w s t other stands stands' alike = record {
    alike = alike;
    stands = stands;
    waiting = stands';
    leads_on = w.replace.before_leads;
    last_is = w.first_is;
    ends = λ none. absurd (no_window w.window w.some none);
    comes = refl;
    visible_is = refl;
    calls_are = refl;
    is_memory = alike.is_memory;
  }

  used_at_end : (s t : State) (q : ℕ) → q ≡ length c.f.insns → Alike c q s t → (reg : ℕ) → return_uses c.f reg ≡ true →
      KnownToo s.regs t.regs reg
  used_at_end s t q last alike reg uses = alike.live reg (subst (IsLive c.f reg) (sym last) (AtEnd uses))

  walk : (xs ys : List Insn) (q : ℕ) → AreReplaced c.f q xs ys → WalksOn xs ys q
  walk _ _ _ (parts.end q) s t other stands stands' alike well =
      returns_both c s t q alike (used_at_end s t q (end_is c.f.insns s.next q stands) alike)
      (step_returns c.world c.f s q stands) (step_returns c.world (new_of c) t other stands') well
      (λ past over. well.past (past_end c.f s q stands) over)
  walk _ _ _ (parts.stays q i xs ys rest) s t other stands stands' alike well = by (is_mark i.kind) refl
      (λ mark. walk xs ys (q + 1) rest s t (other + 1) (stands_mark c.f.insns s.next i xs q mark stands)
      (stands_mark (new_of c).insns t.next i ys other mark stands')
      (alike_mark s t q i (there_is c.f.insns s.next i xs q stands) mark alike) well)
    where
      by : (b : Bool) → is_mark i.kind ≡ b → (is_mark i.kind ≡ true → Simulates c s t) → Simulates c s t
      by true mark later = later mark
      by false none later =
          let behind = stands_behind c.f.insns s.next i xs q stands in
          let behind' = stands_behind (new_of c).insns t.next i ys other stands' in
          insn_both c s t q other i xs ys stands stands' none alike
          (onward_at c xs ys (q + 1) (other + 1) rest behind.there behind.within behind'.there behind'.within) well
  walk _ _ _ (parts.window q before after xs ys some replace rest) s t other stands stands' alike well =
      walk_inside (site q before after xs ys some replace rest stands.there) before s s t q other
      (enters (site q before after xs ys some replace rest stands.there) s t other stands stands' alike)
      (subst (WalksOn xs ys) (let all : q + length before ≡ q + length before - 1 + 1 = omega (arith, some) in all)
      (walk xs ys (q + length before) rest)) well

  -- each step is followed
  pub step_follows : (s t : State) → Related c s t → EndsWell c s → Simulates c s t
  step_follows s t (outside xs ys q other both stands stands' alike) well = walk xs ys q both s t other stands stands' alike well
  step_follows s t (inside w s0 rest q other wait) well =
      walk_inside w rest s0 s t q other wait (walk w.back w.back_new (w.last + 1) w.behind) well
