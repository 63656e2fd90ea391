-- One step of a function and of the function with its frame, which stand at the same item.
use Rattle.std.proofs.Common.{◌≡◌, ◌≢◌, ℕ, suc, ◌+◌, ◌≤◌, if◌then◌else◌, Bool, true, false, drop, length, List, [], ◌∷◌, ◌++◌, Option, Some, None, refl, sym, ap, subst, ◌∙◌}
use Rattle.std.specs.Prelude.{not, is_some, slice_get}
use Rattle.bits64.specs.declared.Width.{Width}
use Rattle.rtx_tree.specs.Patterns.{place_of}
use Rattle.rtx_tree.specs.declared.function.Function.{Function}
use Rattle.rtx_tree.specs.declared.function.Insn.{Insn}
use Rattle.rtx_tree.specs.declared.function.Kind.{Kind}
use Rattle.rtx_tree.specs.declared.function.Kind.TheVariants as kind
use Rattle.rtx_tree.specs.declared.machine.Reply.{Reply}
use Rattle.rtx_tree.specs.declared.machine.World.{World}
use Rattle.run_memory.specs.RunMemory.{written}
use Rattle.rtl_step.specs.Call.{event_of, result_width}
use Rattle.rtl_step.specs.Effect.{effects_of, regs_after, memory_after}
use Rattle.rtl_step.specs.Jump.{jump_of}
use Rattle.rtl_step.specs.Step as rtl
use Rattle.rtl_step.specs.Step.{step, act, after_effects, after_goes, after_jump, after_event, after_reply, next_reply, after_return, is_mark, passed}
use Rattle.rtl_step.specs.declared.call.CallEvent.{CallEvent}
use Rattle.rtl_step.specs.declared.effect.Effect.{Effect}
use Rattle.rtl_step.specs.declared.jump.Way.{Way}
use Rattle.rtl_step.specs.declared.jump.Way.TheVariants as way
use Rattle.rtl_step.specs.declared.step.State.{State}
use Rattle.rtl_step.specs.declared.step.StepEnd.{StepEnd}
use Rattle.rtl_step.specs.declared.step.StepEnd.TheVariants as ends
use Rattle.func_run.specs.Run as func
use Rattle.law_function_kept.specs.Ends.{is_past}
use Rattle.rtl_func.specs.Paths.{Path}
use Rattle.reg_uses.specs.Effects.{pattern_uses}
use Rattle.assign.specs.declared.places.Layout.{Layout}
use Rattle.law_window_replaced.specs.law_window_kept.Same.{KnownToo}
use Rattle.law_window_replaced.proofs.law_window_lines.Leads as leads_by
use Rattle.law_window_replaced.proofs.law_window_lines.Leads.{LeadsBy, leads_on, jump_leads, further}
use Rattle.law_window_replaced.proofs.law_window_lines.Returns.{leaves}
use Rattle.law_window_replaced.specs.Natural.{RegistersAreNatural}
use Rattle.law_window_replaced.proofs.Effects.{AsMuch, effects_too, after_too}
use Rattle.law_window_replaced.proofs.Insns.{jump_too, event_too}
use Rattle.law_window_replaced.proofs.Outside.{leaves_is}
use Rattle.law_window_replaced.proofs.Replied.{replied_too}
use Rattle.law_window_replaced.proofs.Stands.{Stands, stands_at, stands_behind, stands_same, stands_mark, there_is, step_is, step_returns, end_is}
use Rattle.law_frame.specs.Frame.{prologue, plain_insns, leaving, left_uid, returns, returns_by, left_at_returns}
use Rattle.law_frame.proofs.Chain.{left_return, left_other, label_place}

-- the second state has what the first has, and knows as much
pub record Alike (s u : State) : Type 0 where
  pub known : (reg : ℕ) → KnownToo s.regs u.regs reg
  pub memory_is : u.memory ≡ s.memory
  pub visible_is : u.visible ≡ s.visible
  pub calls_are : u.calls ≡ s.calls

-- the function, the function with its frame, and how the chain of the first ends there
pub record Framing : Type 0 where
  pub world : World
  pub f : Function
  pub g : Function
  pub layout : Layout
  pub end : List Insn
  pub first : ℕ
  pub uid : ℕ
  pub insns_are : g.insns ≡ plain_insns first (prologue layout) ++ left_at_returns layout uid (f.insns ++ end)
  pub natural : RegistersAreNatural f
  pub ends : Path f.insns 0 (length f.insns) → (i : Insn) × (end ≡ i ∷ []) × (returns i ≡ true)

-- both stand at the same rest of the chain
pub record Beside (c : Framing) (s u : State) : Type 0 where
  pub rest : List Insn
  pub p : ℕ
  pub q : ℕ
  pub n : ℕ
  pub stands : Stands c.f.insns s.next rest p
  pub other : Stands c.g.insns u.next (left_at_returns c.layout n (rest ++ c.end)) q
  pub path : Path c.f.insns 0 p
  pub alike : Alike s u

-- What they do: both go on, and stand beside each other again; both are at a call without a reply; the first returns, and the second is
-- where its frame is left; or the first has no value.
pub data Both (c : Framing) (s u : State) : Type 0 where
  go : (e : StepEnd) (s' u' : State) → step c.world c.f s ≡ (e, s') → func.goes_on e ≡ true → step c.world c.g u ≡ (e, u') → Beside c s' u' →
      Both c s u
  ask : (s' u' : State) → step c.world c.f s ≡ (ends.Asked, s') → step c.world c.g u ≡ (ends.Asked, u') → u'.calls ≡ s'.calls →
      is_past c.g u ≡ false → Both c s u
  leave : (n q : ℕ) (more : List Insn) → step c.world c.f s ≡ after_return c.f.result s → Stands c.g.insns u.next (leaving c.layout n ++ more) q →
      Both c s u
  never : (s' : State) → step c.world c.f s ≡ (ends.Undefined, s') → Both c s u

-- ---- an instruction

-- no run ends past the last where an instruction stands
pub not_past : (g : Function) (u : State) (i : Insn) (rest : List Insn) (q : ℕ) → Stands g.insns u.next (i ∷ rest) q → is_mark i.kind ≡ false →
    is_past g u ≡ false
not_past g u i rest q stands none =
    ap (λ p. not (is_some (slice_get g.insns p))) (stands.passes ∙ ap (λ b. if b then passed rest (q + 1) else q) none) ∙
    ap (λ o. not (is_some o)) (there_is g.insns u.next i rest q stands)

module _ (c : Framing) (s u : State) (i : Insn) (rest : List Insn) (p q n : ℕ) (stands : Stands c.f.insns s.next (i ∷ rest) p)
    (other : Stands c.g.insns u.next (left_at_returns c.layout n (i ∷ rest ++ c.end)) q) (path : Path c.f.insns 0 p) (alike : Alike s u) where
  there : slice_get c.f.insns p ≡ Some i
  there = there_is c.f.insns s.next i rest p stands

  as_much : AsMuch c.world.symbols s.regs u.regs s.memory (λ reg. pattern_uses reg i.pattern)
  as_much r uses = alike.known (suc r)

  -- behind it
  onward : (s' u' : State) → s'.next ≡ p + 1 → u'.next ≡ q + 1 → i.kind ≢ kind.Jump → returns i ≡ false → Alike s' u' → Beside c s' u'
  onward s' u' at at' no_jump stays same = record {
    rest = rest;
    p = p + 1;
    q = q + 1;
    n = n;
    stands = subst (λ k. Stands c.f.insns k rest (p + 1)) (sym at) (stands_behind c.f.insns s.next i rest p stands);
    other = subst (λ k. Stands c.g.insns k (left_at_returns c.layout n (rest ++ c.end)) (q + 1)) (sym at')
        (stands_behind c.g.insns u.next i (left_at_returns c.layout n (rest ++ c.end)) q
        (stands_same c.g.insns u.next _ _ q (left_other c.layout n i (rest ++ c.end) stays) other));
    path = further c.f.insns 0 p (p + 1) path (leads_on c.f.insns p i there no_jump);
    alike = same;
  }

  step_one : (k : Kind) → is_mark k ≡ false → i.kind ≡ k → step c.world c.f s ≡ act k c.world c.f i p s
  step_one k none is = step_is c.world c.f s i rest p k stands none is

  step_other : (k : Kind) → is_mark k ≡ false → i.kind ≡ k → returns i ≡ false → step c.world c.g u ≡ act k c.world c.g i q u
  step_other k none is stays = step_is c.world c.g u i (left_at_returns c.layout n (rest ++ c.end)) q k
      (stands_same c.g.insns u.next _ _ q (left_other c.layout n i (rest ++ c.end) stays) other) none is

  -- ---- one that goes on

  plain_stays : i.kind ≡ kind.Plain → returns i ≡ false
  plain_stays is = ap (λ k. returns_by k i) is

  plain_not : i.kind ≡ kind.Plain → i.kind ≢ kind.Jump
  plain_not is jumps = let no : kind.Plain ≡ kind.Jump = sym is ∙ jumps in cc

  plain_by : (o : Option (List Effect)) → effects_of c.world.symbols s.regs s.memory i.pattern ≡ o → i.kind ≡ kind.Plain → Both c s u
  plain_by None are is = never s (step_one kind.Plain refl is ∙ ap (after_effects s p) are)
  plain_by (Some es) are is =
      let s' : State = record s { next = p + 1; regs = regs_after es s.regs; memory = memory_after es s.memory } in
      let u' : State = record u { next = q + 1; regs = regs_after es u.regs; memory = memory_after es u.memory } in
      let are' : effects_of c.world.symbols u.regs u.memory i.pattern ≡ Some es =
      ap (λ m. effects_of c.world.symbols u.regs m i.pattern) alike.memory_is ∙
      effects_too c.world.symbols s.regs u.regs s.memory i.pattern (c.natural p i there) as_much es are in
      go ends.Next s' u' (step_one kind.Plain refl is ∙ ap (after_effects s p) are) refl
      (step_other kind.Plain refl is (plain_stays is) ∙ ap (after_effects u q) are')
      (onward s' u' refl refl (plain_not is) (plain_stays is) (record {
        known = λ reg. after_too es s.regs u.regs reg (alike.known reg);
        memory_is = ap (memory_after es) alike.memory_is;
        visible_is = alike.visible_is;
        calls_are = alike.calls_are;
      }))

  -- ---- a jump

  moved : (a b : ℕ) → Alike (record s { next = a }) (record u { next = b })
  moved a b = record { known = alike.known; memory_is = alike.memory_is; visible_is = alike.visible_is; calls_are = alike.calls_are }

  label_by : (label : ℕ) (o : Option ℕ) → place_of label c.f.insns ≡ o → LeadsBy c.f.insns p (way.Goes label) →
      step c.world c.f s ≡ after_goes s (place_of label c.f.insns) → step c.world c.g u ≡ after_goes u (place_of label c.g.insns) → Both c s u
  label_by label None at led is is' = never s (is ∙ ap (after_goes s) at)
  label_by label (Some p') at (leads_by.goes_on _ led) is is' =
      let found = label_place c.layout c.end c.f.insns label c.first c.uid p' at in
      let q' : ℕ = found.0 in
      let place : place_of label c.g.insns ≡ Some q' = ap (place_of label) c.insns_are ∙ found.1 in
      let here = found.2 in
      go ends.Jumped (record s { next = p' }) (record u { next = q' }) (is ∙ ap (after_goes s) at) refl (is' ∙ ap (after_goes u) place) (record {
        rest = drop p' c.f.insns;
        p = p';
        q = q';
        n = here.uid;
        stands = stands_at c.f.insns p' (drop p' c.f.insns) refl here.within;
        other = stands_at c.g.insns q' (left_at_returns c.layout here.uid (drop p' c.f.insns ++ c.end)) (ap (drop q') c.insns_are ∙ here.there)
            (subst (λ (ys : List Insn). q' ≤ length ys) (sym c.insns_are) here.within_other);
        path = further c.f.insns 0 p p' path (led p' at);
        alike = moved p' q';
      })

  -- both fall through
  falls : LeadsBy c.f.insns p way.Falls → returns i ≡ false → step c.world c.f s ≡ (ends.Next, record s { next = p + 1 }) →
      step c.world c.g u ≡ (ends.Next, record u { next = q + 1 }) → Both c s u
  falls (leads_by.falls_on led) stays is is' = go ends.Next (record s { next = p + 1 }) (record u { next = q + 1 }) is refl is' (record {
    rest = rest;
    p = p + 1;
    q = q + 1;
    n = n;
    stands = stands_behind c.f.insns s.next i rest p stands;
    other = stands_behind c.g.insns u.next i (left_at_returns c.layout n (rest ++ c.end)) q
        (stands_same c.g.insns u.next _ _ q (left_other c.layout n i (rest ++ c.end) stays) other);
    path = further c.f.insns 0 p (p + 1) path led;
    alike = moved (p + 1) (q + 1);
  })

  way_by : (w : Way) → jump_of c.world.symbols s.regs s.memory i.pattern ≡ Some w → jump_of c.world.symbols u.regs u.memory i.pattern ≡ Some w →
      LeadsBy c.f.insns p w → i.kind ≡ kind.Jump → returns i ≡ false → Both c s u
  way_by way.Falls goes goes' led is stays =
      falls led stays (step_one kind.Jump refl is ∙ ap (after_jump c.f s p) goes) (step_other kind.Jump refl is stays ∙ ap (after_jump c.g u q) goes')
  way_by (way.Goes label) goes goes' led is stays =
      label_by label (place_of label c.f.insns) refl led (step_one kind.Jump refl is ∙ ap (after_jump c.f s p) goes)
      (step_other kind.Jump refl is stays ∙ ap (after_jump c.g u q) goes')
  way_by way.Leaves goes goes' led is stays =
      let both : true ≡ false = sym (leaves_is c.world.symbols s.regs s.memory i goes) ∙ sym (ap (λ k. returns_by k i) is) ∙ stays in
      absurd (let no : ⊥ = cc in no)

  jump_by : (o : Option Way) → jump_of c.world.symbols s.regs s.memory i.pattern ≡ o → i.kind ≡ kind.Jump → returns i ≡ false → Both c s u
  jump_by None goes is stays = never s (step_one kind.Jump refl is ∙ ap (after_jump c.f s p) goes)
  jump_by (Some w) goes is stays =
      way_by w goes (ap (λ m. jump_of c.world.symbols u.regs m i.pattern) alike.memory_is ∙
      jump_too c.world.symbols s.regs u.regs s.memory i.pattern (c.natural p i there) as_much w goes)
      (jump_leads c.world.symbols s.regs s.memory c.f.insns p i w there is goes) is stays

  -- a return, or another jump
  jump_or_return : (b : Bool) → returns i ≡ b → i.kind ≡ kind.Jump → Both c s u
  jump_or_return true is jumps =
      leave n q (left_at_returns c.layout (left_uid c.layout n) (rest ++ c.end))
      (step_one kind.Jump refl jumps ∙ ap (after_jump c.f s p)
      (leaves i c.world.symbols s.regs s.memory (sym (ap (λ k. returns_by k i) jumps) ∙ is)))
      (stands_same c.g.insns u.next _ _ q (left_return c.layout n i (rest ++ c.end) is) other)
  jump_or_return false stays jumps = jump_by (jump_of c.world.symbols s.regs s.memory i.pattern) refl jumps stays

  -- ---- a call

  call_stays : i.kind ≡ kind.Call → returns i ≡ false
  call_stays is = ap (λ k. returns_by k i) is

  call_not : i.kind ≡ kind.Call → i.kind ≢ kind.Jump
  call_not is jumps = let no : kind.Call ≡ kind.Jump = sym is ∙ jumps in cc

  reply_by : (w : Width) (event : CallEvent) (o : Option Reply) → next_reply c.world s ≡ o → i.kind ≡ kind.Call →
      step c.world c.f s ≡ after_reply s p w event (next_reply c.world s) → step c.world c.g u ≡ after_reply u q w event (next_reply c.world s) →
      Both c s u
  reply_by w event None reply is took took' =
      ask (rtl.asked s event).1 (rtl.asked u event).1 (took ∙ ap (after_reply s p w event) reply) (took' ∙ ap (after_reply u q w event) reply)
      (ap (λ calls. calls ++ event ∷ []) alike.calls_are)
      (not_past c.g u i (left_at_returns c.layout n (rest ++ c.end)) q
      (stands_same c.g.insns u.next _ _ q (left_other c.layout n i (rest ++ c.end) (call_stays is)) other) (ap is_mark is))
  reply_by w event (Some r) reply is took took' =
      go ends.Called (rtl.replied s p w event r).1 (rtl.replied u q w event r).1 (took ∙ ap (after_reply s p w event) reply) refl
      (took' ∙ ap (after_reply u q w event) reply)
      (onward (rtl.replied s p w event r).1 (rtl.replied u q w event r).1 refl refl (call_not is) (call_stays is) (record {
        known = λ reg. replied_too s.regs u.regs w r.value reg (λ kept. alike.known reg);
        memory_is = ap (written r.writes) alike.memory_is;
        visible_is = alike.visible_is;
        calls_are = ap (λ calls. calls ++ event ∷ []) alike.calls_are;
      }))

  call_by : (width : Option Width) (o : Option CallEvent) → result_width i.pattern ≡ width →
      event_of c.world.symbols s.regs s.memory s.visible i.pattern i.uses ≡ o → i.kind ≡ kind.Call → Both c s u
  call_by None o width_is event_is is = never s (step_one kind.Call refl is ∙
      ap (λ w. after_event c.world s p w (event_of c.world.symbols s.regs s.memory s.visible i.pattern i.uses)) width_is)
  call_by (Some w) None width_is event_is is = never s (step_one kind.Call refl is ∙
      ap (λ w. after_event c.world s p w (event_of c.world.symbols s.regs s.memory s.visible i.pattern i.uses)) width_is ∙
      ap (after_event c.world s p (Some w)) event_is)
  call_by (Some w) (Some event) width_is event_is is =
      let too : event_of c.world.symbols u.regs u.memory u.visible i.pattern i.uses ≡ Some event =
      ap (λ m. event_of c.world.symbols u.regs m u.visible i.pattern i.uses) alike.memory_is ∙
      ap (λ v. event_of c.world.symbols u.regs s.memory v i.pattern i.uses) alike.visible_is ∙
      event_too c.world.symbols s.regs u.regs s.memory s.visible i.pattern i.uses (c.natural p i there) as_much (λ reg has. alike.known reg)
      event event_is in
      reply_by w event (next_reply c.world s) refl is
      (step_one kind.Call refl is ∙
      ap (λ w. after_event c.world s p w (event_of c.world.symbols s.regs s.memory s.visible i.pattern i.uses)) width_is ∙
      ap (after_event c.world s p (Some w)) event_is)
      (step_other kind.Call refl is (call_stays is) ∙
      ap (λ w. after_event c.world u q w (event_of c.world.symbols u.regs u.memory u.visible i.pattern i.uses)) width_is ∙
      ap (after_event c.world u q (Some w)) too ∙
      ap (λ calls. after_reply u q w event (slice_get c.world.replies (length calls))) alike.calls_are)

  pub insn_both : (k : Kind) → i.kind ≡ k → is_mark k ≡ false → Both c s u
  insn_both kind.Plain is none = plain_by (effects_of c.world.symbols s.regs s.memory i.pattern) refl is
  insn_both kind.Jump is none = jump_or_return (returns i) refl is
  insn_both kind.Call is none =
      call_by (result_width i.pattern) (event_of c.world.symbols s.regs s.memory s.visible i.pattern i.uses) refl refl is
  insn_both kind.Label is none = absurd (let no : ⊥ = cc in no)
  insn_both kind.Barrier is none = absurd (let no : ⊥ = cc in no)

-- ---- whatever stands there

mark_stays : (i : Insn) (k : Kind) → i.kind ≡ k → is_mark k ≡ true → (returns i ≡ false) × (i.kind ≢ kind.Jump)
mark_stays i kind.Label is mark = (ap (λ k. returns_by k i) is, λ jumps. let no : kind.Label ≡ kind.Jump = sym is ∙ jumps in cc)
mark_stays i kind.Barrier is mark = (ap (λ k. returns_by k i) is, λ jumps. let no : kind.Barrier ≡ kind.Jump = sym is ∙ jumps in cc)
mark_stays i kind.Plain is mark = absurd (let no : ⊥ = cc in no)
mark_stays i kind.Jump is mark = absurd (let no : ⊥ = cc in no)
mark_stays i kind.Call is mark = absurd (let no : ⊥ = cc in no)

module _ (c : Framing) (s u : State) (alike : Alike s u) where
  at_end : (p q n : ℕ) → Stands c.f.insns s.next [] p → Stands c.g.insns u.next (left_at_returns c.layout n c.end) q → Path c.f.insns 0 p →
      Both c s u
  at_end p q n stands other path =
      let e = c.ends (subst (Path c.f.insns 0) (end_is c.f.insns s.next p stands) path) in
      leave n q (left_at_returns c.layout (left_uid c.layout n) []) (step_returns c.world c.f s p stands)
      (stands_same c.g.insns u.next _ _ q (ap (left_at_returns c.layout n) e.1 ∙ left_return c.layout n e.0 [] e.2) other)

  -- a mark is passed over
  by_mark : (mark : Bool) (i : Insn) (rest : List Insn) (p q n : ℕ) → is_mark i.kind ≡ mark → Stands c.f.insns s.next (i ∷ rest) p →
      Stands c.g.insns u.next (left_at_returns c.layout n (i ∷ rest ++ c.end)) q → Path c.f.insns 0 p →
      (Stands c.f.insns s.next rest (p + 1) → Stands c.g.insns u.next (left_at_returns c.layout n (rest ++ c.end)) (q + 1) →
      Path c.f.insns 0 (p + 1) → Both c s u) → Both c s u
  by_mark true i rest p q n is stands other path later =
      let stays = mark_stays i i.kind refl is in
      later (stands_mark c.f.insns s.next i rest p is stands)
      (stands_mark c.g.insns u.next i (left_at_returns c.layout n (rest ++ c.end)) q is
      (stands_same c.g.insns u.next _ _ q (left_other c.layout n i (rest ++ c.end) stays.0) other))
      (further c.f.insns 0 p (p + 1) path (leads_on c.f.insns p i (there_is c.f.insns s.next i rest p stands) stays.1))
  by_mark false i rest p q n is stands other path later = insn_both c s u i rest p q n stands other path alike i.kind refl is

  both : (rest : List Insn) (p q n : ℕ) → Stands c.f.insns s.next rest p → Stands c.g.insns u.next (left_at_returns c.layout n (rest ++ c.end)) q →
      Path c.f.insns 0 p → Both c s u
  both [] p q n stands other path = at_end p q n stands other path
  both (i ∷ rest) p q n stands other path = by_mark (is_mark i.kind) i rest p q n refl stands other path (both rest (p + 1) (q + 1) n)

-- states that stand beside each other
pub step_both : (c : Framing) (s u : State) → Beside c s u → Both c s u
step_both c s u b = both c s u b.alike b.rest b.p b.q b.n b.stands b.other b.path
