-- The old run within its window and at the window's end, where the new one takes all of its own at once.
use Rattle.std.proofs.Common.{◌≡◌, ℕ, ◌+◌, ◌≤◌, arith, true, false, List, ◌++◌, Some, refl, sym, ap, subst, ◌∙◌}
use Rattle.bits64.specs.declared.Width.{Width}
use Rattle.rtx_tree.specs.declared.function.Insn.{Insn}
use Rattle.rtx_tree.specs.Patterns.{place_of}
use Rattle.rtx_tree.specs.RegSet.{has_reg}
use Rattle.rtx_tree.specs.Registers.{is_call_used, virtual_stack_vars}
use Rattle.rtl_step.specs.Regs.{Regs}
use Rattle.rtx_tree.specs.declared.memories.MemByte.{MemByte}
use Rattle.same_behaviour.specs.Lawful.{IsMemory}
use Rattle.rtl_step.specs.Step.{step, after_goes, after_reply, next_reply}
use Rattle.rtl_step.specs.declared.call.CallEvent.{CallEvent}
use Rattle.rtl_step.specs.declared.step.State.{State}
use Rattle.rtl_func.specs.Paths.{leads}
use Rattle.rv_regs.specs.Registers.{kept_registers}
use Rattle.reg_uses.specs.Uses.{function_sets}
use Rattle.live.specs.Live.{IsLive, IsLiveAfter}
use Rattle.law_function_kept.specs.Outcomes.{SameEvent, SameEvents}
use Rattle.law_window_runs.specs.Insns as window
use Rattle.law_window_runs.specs.Insns.{InsnsCome, InsnsEnd, insns_come, come_to}
use Rattle.law_window_runs.specs.Same.{IsKept}
use Rattle.law_window_kept.specs.Same.{KnownToo, InsnsDo, SameEnd, Starts, is_free}
use Rattle.law_window_kept.specs.Same as keep
use Rattle.law_window_lines.proofs.Kept.{each_in, kept_hard}
use Rattle.law_window_lines.proofs.Small.{◌also◌}
use Rattle.law_window_replaced.proofs.Onward.{calls_both, jumps_both, AtCall, onward_at}
use Rattle.law_window_replaced.specs.Replaced.{AreReplaced}
use Rattle.law_window_replaced.proofs.Setting.{Setting, Site, new_of, Alike, Moves, Simulates, EndsWell}
use Rattle.law_window_replaced.proofs.Stands.{Stands}
use Rattle.law_window_replaced.proofs.Traverse.{Arrives, Through, through}
use Rattle.law_window_replaced.proofs.Traverse as traverse
use Rattle.law_window_replaced.proofs.Window.{uses_live, passed_live, window_left}

-- ---- registers that a function preserves

-- none of them is free for a function's own steps
abbrev IsHeld : ℕ → Type 0
IsHeld reg = (reg ≤ virtual_stack_vars) × (is_free reg ≡ false)

abbrev IsTaken : ℕ → Type 0
IsTaken reg = is_free reg ≡ false

taken : (reg : ℕ) → has_reg kept_registers reg ≡ true → IsTaken reg
taken reg kept = each_in IsTaken kept_registers reg
    (refl also refl also refl also refl also refl also refl also refl also refl also refl also refl also refl also refl also refl also
    refl also tt) kept

held : (reg : ℕ) → has_reg kept_registers reg ≡ true → IsHeld reg
held reg kept = let hard = kept_hard reg kept in let below = hard.below in (omega (arith, below), taken reg kept)

-- ---- the window has come to its end, as the old run has, and the new one waits

pub record Ended (c : Setting) (w : Site c) (s0 s t : State) (ending : InsnsEnd) (other : ℕ) : Type 0 where
  pub alike : Alike c w.first s0 t
  pub waiting : Stands (new_of c).insns t.next (w.new ++ w.back_new) other
  pub comes : insns_come c.world.symbols s0.visible w.window s0.regs s0.memory ≡ Some (come_to s.regs s.memory ending)
  pub visible_is : s.visible ≡ s0.visible
  pub calls_are : s.calls ≡ s0.calls
  pub is_memory : IsMemory s.memory

module _ (c : Setting) (w : Site c) (s0 s t : State) (ending : InsnsEnd) (other : ℕ) (e : Ended c w s0 s t ending other) where
  abbrev Live : ℕ → Type 0
  Live reg = IsLiveAfter c.f reg w.last

  abbrev came : InsnsCome
  came = come_to s.regs s.memory ending

  starts : Starts w.window Live c.world.symbols s0.regs t.regs s0.memory
  starts = record {
    symbols_are = c.world_is.symbols;
    memory_is = e.alike.is_memory;
    used = λ reg uses. e.alike.live reg (uses_live c w.back w.last w.window w.first reg w.begins w.replace.before_leads uses);
    passed = λ reg lives none. e.alike.live reg
        (passed_live c w.back w.last w.window w.first reg w.begins w.replace.before_leads w.some w.first_is lives none);
  }

  pub does : InsnsDo w.window w.new Live c.world.symbols s0.visible t.regs s0.memory came
  does = w.replace.same c.world.symbols s0.visible s0.regs t.regs s0.memory came starts e.comes

  -- the new run goes through its own instructions
  pub goes_through : Through c w.back_new t does.done.regs does.done.memory does.done.ending
  goes_through = through c w.back_new w.new t other does.done e.waiting w.replace.after_leads
      (ap (λ v. insns_come c.world.symbols v w.new t.regs t.memory) e.alike.visible_is ∙
      ap (λ m. insns_come c.world.symbols s0.visible w.new t.regs m) e.alike.memory_is ∙ does.comes)

  abbrev pub Comes : State → Type 0
  Comes after = Arrives t after does.done.regs does.done.memory

  live_known : (after : State) → Comes after → (p reg : ℕ) → leads c.f.insns w.last p ≡ true → IsLive c.f reg p → IsKept ending reg →
      KnownToo s.regs after.regs reg
  live_known after a p reg led lives kept =
      subst (λ regs. KnownToo s.regs regs reg) (sym a.regs_are) (does.agree reg (p, led, lives) kept)

  kept_known : (after : State) → Comes after → (reg : ℕ) → has_reg kept_registers reg ≡ true → function_sets c.f reg ≡ false →
      IsKept ending reg → KnownToo s.regs after.regs reg
  kept_known after a reg kept unset stays =
      let it = held reg kept in
      subst (λ regs. KnownToo s.regs regs reg) (sym a.regs_are) (λ v n known.
      let left = window_left c w.back w.last s0.visible reg (kept_hard reg kept).some unset v n came stays known w.window w.first s0.regs s0.memory
      w.begins w.replace.before_leads e.comes in
      sym (does.kept reg it.0 left.0 it.1 v) ∙ e.alike.kept reg kept unset v n left.1)

  memory_same : (after : State) → Comes after → after.memory ≡ s.memory
  memory_same after a = a.memory_is ∙ does.memory_is

  visible_same : (after : State) → Comes after → after.visible ≡ s.visible
  visible_same after a = a.visible_is ∙ e.alike.visible_is ∙ sym e.visible_is

  calls_same : (after : State) → Comes after → SameEvents s.calls after.calls
  calls_same after a = subst (λ calls. SameEvents calls after.calls) (sym e.calls_are)
      (subst (λ calls. SameEvents s0.calls calls) (sym a.calls_are) e.alike.calls_are)

  -- where no call is made
  pub alike_after : ((reg : ℕ) → IsKept ending reg) → (after : State) → Comes after → (p : ℕ) → leads c.f.insns w.last p ≡ true →
      Alike c p s after
  alike_after stays after a p led = record {
    live = λ reg lives. live_known after a p reg led lives (stays reg);
    kept = λ reg kept unset. kept_known after a reg kept unset (stays reg);
    memory_is = memory_same after a;
    visible_is = visible_same after a;
    calls_are = calls_same after a;
    is_memory = e.is_memory;
  }

  -- at a call
  pub call_after : ((reg : ℕ) → is_call_used reg ≡ false → IsKept ending reg) → (after : State) → Comes after → (q : ℕ) →
      leads c.f.insns w.last (q + 1) ≡ true → AtCall c s after q
  call_after stays after a q led = record {
    live = λ reg lives preserved. live_known after a (q + 1) reg led lives (stays reg preserved);
    kept = λ reg kept unset preserved. kept_known after a reg kept unset (stays reg preserved);
    memory_is = memory_same after a;
    visible_is = visible_same after a;
    calls_are = calls_same after a;
    is_memory = e.is_memory;
  }

-- ---- how it ends

end_falls : (e e' : InsnsEnd) → SameEnd e e' → e ≡ window.Falls → e' ≡ window.Falls
end_falls _ _ keep.falls is = refl
end_falls _ _ (keep.goes uid) is = absurd (let no : ⊥ = cc in no)
end_falls _ _ (keep.calls event told w one) is = absurd (let no : ⊥ = cc in no)

end_goes : (e e' : InsnsEnd) (uid : ℕ) → SameEnd e e' → e ≡ window.Goes uid → e' ≡ window.Goes uid
end_goes _ _ uid keep.falls is = absurd (let no : ⊥ = cc in no)
end_goes _ _ uid (keep.goes uid') is = is
end_goes _ _ uid (keep.calls event told w one) is = absurd (let no : ⊥ = cc in no)

record CallEnd (event : CallEvent) (w : Width) (e' : InsnsEnd) : Type 0 where
  told : CallEvent
  one : SameEvent event told
  is : e' ≡ window.Calls told w

end_calls : (e e' : InsnsEnd) (event : CallEvent) (w : Width) → SameEnd e e' → e ≡ window.Calls event w → CallEnd event w e'
end_calls _ _ event w keep.falls is = absurd (let no : ⊥ = cc in no)
end_calls _ _ event w (keep.goes uid) is = absurd (let no : ⊥ = cc in no)
end_calls _ _ event w (keep.calls event' told w' one) is =
    let here : event' ≡ event = cc in let width : w' ≡ w = cc in
    record { told = told; one = subst (λ e. SameEvent e told) here one; is = ap (window.Calls told) width }

pub end_returns : (e e' : InsnsEnd) → SameEnd e e' → e ≡ window.Returns → ⊥
end_returns _ _ keep.falls is = cc
end_returns _ _ (keep.goes uid) is = cc
end_returns _ _ (keep.calls event told w one) is = cc

-- the new run has gone through its instructions
pub record CaughtUp (c : Setting) (back : List Insn) (s t : State) (p : ℕ) : Type 0 where
  pub turns : ℕ
  pub after : State
  pub place : ℕ
  pub led : Moves c turns t after
  pub stands : Stands (new_of c).insns after.next back place
  pub alike : Alike c p s after

module _ (c : Setting) (w : Site c) (s0 s t : State) (other : ℕ) where
  -- the rest of the chain behind a place
  abbrev pub Onwards : ℕ → Type 0
  Onwards q = AreReplaced c.f (q + 1) w.back w.back_new × Stands c.f.insns (q + 1) w.back (q + 1)

  caught_by : (e' : InsnsEnd) (regs : Regs) (memory : List MemByte) (p : ℕ) → e' ≡ window.Falls → Through c w.back_new t regs memory e' →
      ((after : State) → Arrives t after regs memory → Alike c p s after) → CaughtUp c w.back_new s t p
  caught_by _ regs memory p is (traverse.falls k after q led arrives stands) alike =
      record { turns = k; after = after; place = q; led = led; stands = stands; alike = alike after arrives }
  caught_by _ regs memory p is (traverse.goes uid k after led arrives stepped) alike = absurd (let no : ⊥ = cc in no)
  caught_by _ regs memory p is (traverse.calls event v k after q led arrives stepped stands there) alike = absurd (let no : ⊥ = cc in no)
  caught_by _ regs memory p is traverse.returns alike = absurd (let no : ⊥ = cc in no)

  -- where the window falls through
  pub catches_up : (e : Ended c w s0 s t window.Falls other) (p : ℕ) → leads c.f.insns w.last p ≡ true → CaughtUp c w.back_new s t p
  catches_up e p led =
      let it = does c w s0 s t window.Falls other e in
      caught_by it.done.ending it.done.regs it.done.memory p (end_falls window.Falls it.done.ending it.same_end refl)
      (goes_through c w s0 s t window.Falls other e)
      (λ after a. alike_after c w s0 s t window.Falls other e (λ reg. tt) after a p led)

  goes_by : (e' : InsnsEnd) (regs : Regs) (memory : List MemByte) (uid : ℕ) → e' ≡ window.Goes uid → Through c w.back_new t regs memory e' →
      step c.world c.f s ≡ after_goes s (place_of uid c.f.insns) →
      ((after : State) → Arrives t after regs memory → (p : ℕ) → place_of uid c.f.insns ≡ Some p → Alike c p s after) →
      EndsWell c s → Simulates c s t
  goes_by _ regs memory uid is (traverse.falls k after q led arrives stands) stepped alike well = absurd (let no : ⊥ = cc in no)
  goes_by _ regs memory uid is (traverse.goes uid' k after led arrives stepped') stepped alike well =
      let here : uid' ≡ uid = cc in
      jumps_both c s t after k uid (place_of uid c.f.insns) refl stepped led
      (stepped' ∙ ap (λ uid. after_goes after (place_of uid (new_of c).insns)) here) (alike after arrives) well
  goes_by _ regs memory uid is (traverse.calls event v k after q led arrives stepped' stands there) stepped alike well =
      absurd (let no : ⊥ = cc in no)
  goes_by _ regs memory uid is traverse.returns stepped alike well = absurd (let no : ⊥ = cc in no)

  -- where it goes to a label
  pub goes_both : (uid : ℕ) (e : Ended c w s0 s t (window.Goes uid) other) →
      step c.world c.f s ≡ after_goes s (place_of uid c.f.insns) →
      ((p : ℕ) → place_of uid c.f.insns ≡ Some p → leads c.f.insns w.last p ≡ true) → EndsWell c s → Simulates c s t
  goes_both uid e stepped led well =
      let it = does c w s0 s t (window.Goes uid) other e in
      goes_by it.done.ending it.done.regs it.done.memory uid (end_goes (window.Goes uid) it.done.ending uid it.same_end refl)
      (goes_through c w s0 s t (window.Goes uid) other e) stepped
      (λ after a p at. alike_after c w s0 s t (window.Goes uid) other e (λ reg. tt) after a p (led p at)) well

  calls_by : (e' : InsnsEnd) (regs : Regs) (memory : List MemByte) (event told : CallEvent) (v : Width) (q : ℕ) →
      e' ≡ window.Calls told v → Through c w.back_new t regs memory e' → SameEvent event told →
      step c.world c.f s ≡ after_reply s q v event (next_reply c.world s) → Onwards q →
      ((after : State) → Arrives t after regs memory → AtCall c s after q) → Simulates c s t
  calls_by _ regs memory event told v q is (traverse.falls k after p led arrives stands) one stepped further at =
      absurd (let no : ⊥ = cc in no)
  calls_by _ regs memory event told v q is (traverse.goes uid k after led arrives stepped') one stepped further at =
      absurd (let no : ⊥ = cc in no)
  calls_by _ regs memory event told v q is (traverse.calls told' v' k after p led arrives stepped' stands there) one stepped further at =
      let here : told' ≡ told = cc in let width : v' ≡ v = cc in
      calls_both c s t after k q p event told v stepped led
      (stepped' ∙ ap (λ e. after_reply after p v' e (next_reply c.world after)) here ∙
      ap (λ v. after_reply after p v told (next_reply c.world after)) width) one (at after arrives)
      (onward_at c w.back w.back_new (q + 1) (p + 1) further.0 further.1.there further.1.within stands.there stands.within) there
  calls_by _ regs memory event told v q is traverse.returns one stepped further at = absurd (let no : ⊥ = cc in no)

  -- where it makes a call
  pub calls_end : (event : CallEvent) (v : Width) (q : ℕ) (e : Ended c w s0 s t (window.Calls event v) other) →
      step c.world c.f s ≡ after_reply s q v event (next_reply c.world s) → Onwards q →
      leads c.f.insns w.last (q + 1) ≡ true → Simulates c s t
  calls_end event v q e stepped further led =
      let it = does c w s0 s t (window.Calls event v) other e in
      let end = end_calls (window.Calls event v) it.done.ending event v it.same_end refl in
      calls_by it.done.ending it.done.regs it.done.memory event end.told v q end.is
      (goes_through c w s0 s t (window.Calls event v) other e) end.one stepped further
      (λ after a. call_after c w s0 s t (window.Calls event v) other e (λ reg preserved. preserved) after a q led)

  -- it does not return
  pub never_returns : Ended c w s0 s t window.Returns other → ⊥
  never_returns e = let it = does c w s0 s t window.Returns other e in
      end_returns window.Returns it.done.ending it.same_end refl
