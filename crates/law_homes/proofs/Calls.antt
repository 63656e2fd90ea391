-- A call with homes put in tells the same; and behind a reply the states stand beside each other.
use Rattle.std.proofs.Common.{◌≡◌, ◌≢◌, ℕ, ◌+◌, ◌<◌, ◌==◌, ◌&&◌, ◌||◌, not, ◌⊎◌, inl, inr, ⊎_elim, Bool, true, false, [], ◌∷◌, ◌++◌, map, Some, refl, sym, ap, subst, ◌∙◌, arith, filter}
use Rattle.std.proofs.lemmas.Bool.{false≢true, and_parts, or_cases, or_left, or_right, eqb-true, false_from_ne_true, leb-true}
use Rattle.std.specs.Prelude.{nat_le, slice_get, if◌then◌else◌}
use Rattle.bits64.specs.declared.Width.{Width}
use Rattle.bits64.specs.declared.Width.TheVariants.{W64}
use Rattle.rtx_tree.specs.RegSet.{has_reg}
use Rattle.rtx_tree.specs.Registers.{is_call_used}
use Rattle.rtx_tree.specs.Tree.{mentions_reg}
use Rattle.rtx_tree.specs.declared.function.Insn.{Insn}
use Rattle.rtx_tree.specs.declared.function.Kind.TheVariants as kind
use Rattle.rtx_tree.specs.declared.machine.Reply.{Reply}
use Rattle.rtx_tree.specs.declared.tree.Rtx.{Rtx}
use Rattle.run_memory.specs.RunMemory.{visible, written}
use Rattle.run_memory.proofs.Laws.{has-written}
use Rattle.rtl_step.specs.Call.{call_part, target_of, event_of, regs_replied}
use Rattle.rtl_step.specs.Regs.{reg_value}
use Rattle.rtl_step.specs.declared.call.CallEvent.{CallEvent}
use Rattle.rtl_step.specs.declared.step.State.{State}
use Rattle.rtl_step.proofs.Too.{Too}
use Rattle.rtl_func.specs.Calls.{is_argument}
use Rattle.rtl_func.specs.Paths.{leads}
use Rattle.rv_regs.specs.Registers.{saved_registers}
use Rattle.reg_uses.specs.Effects.{pattern_uses, pattern_defines}
use Rattle.reg_uses.specs.Uses.{insn_uses, insn_defines, is_call_kind, has_argument}
use Rattle.live.specs.Live.{IsLive, AtUse, Passing}
use Rattle.same_behaviour.specs.Lawful.{IsLawfulReply}
use Rattle.same_behaviour.proofs.Entry.{same_or_not}
use Rattle.law_window_lines.proofs.Memories.{within_written, visible_written}
use Rattle.law_window_lines.proofs.Small.{and_none}
use Rattle.law_window_lines.proofs.Sets.{call_defines}
use Rattle.assign.specs.Frame.{is_call, is_home}
use Rattle.assign.specs.declared.home.Home.TheVariants.{Hard}
use Rattle.assign.specs.declared.places.SavedAt.{SavedAt}
use Rattle.reload_homes.specs.Homes.{home_of, slot_offset}
use Rattle.law_homes.specs.Kept.{is_unsaved}
use Rattle.law_homes.specs.Placed.{placed}
use Rattle.law_homes.specs.Stands.{content_in, has_home}
use Rattle.law_homes.proofs.After.{any_at, content_same, eight_bytes, hidden, one_has}
use Rattle.law_homes.proofs.CallTrees.{target_used, event_put}
use Rattle.law_homes.proofs.HomesApart.{hard_home, homes_apart, below_itself}
use Rattle.law_homes.proofs.Placing.{AreHomed}
use Rattle.law_homes.proofs.Replies.{replied_here, replied_known, replied_kept, unseen_byte, unseen_load}
use Rattle.law_homes.proofs.Setting.{Setting, named_of, IsCounted, base, StandsIn, machines, are_homed, home_least, slot_below, slot_no_local}

module _ (c : Setting) (place : ℕ) (i : Insn) (at : slice_get c.f.insns place ≡ Some i) (call : i.kind ≡ kind.Call) (s u : State) (stands : StandsIn c place s u) where
  abbrev are : AreHomed c.homes c.layout (machines c place s u)
  are = are_homed c place s u stands

  a0_home : home_of c.homes 10 ≡ Hard 10
  a0_home = below_itself c.f c.homes c.are_homes 10 (omega arith)

  -- ---- the event

  target_known : (t : Rtx) → target_of (call_part i.pattern) ≡ Some t → (reg : ℕ) → mentions_reg reg t ≡ true → (reg ≡ 32) ⊎ IsCounted c.f place reg
  target_known t is reg has =
      let used = target_used i.pattern t reg is has in
      elim (named_of c place i at reg used.0) [
        | inl vars ↦ inl vars
        | inr named ↦ inr (record {
          named = named;
          live = AtUse place i at (or_left (insn_uses i reg) _ (or_left (pattern_uses reg i.pattern) _
              (used.1 (let least = home_least reg named.has in omega (arith, least)))));
        })
      ]

  argument_known : (reg : ℕ) → has_argument reg i.uses ≡ true → (w : Width) → Too (reg_value s.regs reg w) (reg_value u.regs reg w)
  argument_known reg has w v is =
      let argument = c.can.passed place reg i at call has in
      let most = leb-true reg 17 (and_parts (nat_le 10 reg) (nat_le reg 17) argument).1 in
      let live : IsLive c.f reg place = AtUse place i at (or_left (insn_uses i reg) _ (or_right (pattern_uses reg i.pattern) _ has)) in
      sym (ap (λ home. content_in c.layout (base c) u.regs u.memory reg home w) (below_itself c.f c.homes c.are_homes reg (omega (arith, most))))
      ∙ stands.values reg (or_left (is_argument reg) _ argument) live w v is

  pub event_keeps : (event : CallEvent) → event_of c.world.symbols s.regs s.memory s.visible i.pattern i.uses ≡ Some event →
      event_of c.world.symbols u.regs u.memory u.visible (placed c.homes c.layout i.pattern) i.uses ≡ Some event
  event_keeps event is = event_put c.homes c.layout (machines c place s u) are a0_home s.visible u.visible i.pattern i.uses (c.can.sized place i at)
      target_known argument_known (ap (λ r. visible r u.memory) stands.ranges_too ∙ stands.seen ∙ sym (ap (λ r. visible r s.memory) stands.ranges)) event is

  -- ---- behind a reply

  call_used_defined : (reg : ℕ) → is_call_used reg ≡ true → insn_defines i reg ≡ true
  call_used_defined reg used = or_right (pattern_defines reg i.pattern) _ (ap (λ k. is_call_kind k && is_call_used reg) call ∙ used)

  module _ (event : CallEvent) (told : event_of c.world.symbols s.regs s.memory s.visible i.pattern i.uses ≡ Some event) (w : Width) (reply : Reply)
      (lawful : IsLawfulReply c.start reply) where
    abbrev replied : State → ℕ → State
    replied t next = record t { next = next; regs = regs_replied t.regs w reply.value; memory = written reply.writes t.memory; calls = t.calls ++ event ∷ [] }

    -- the home of a register that is live behind is none that a call may change
    hard_below : (reg hard : ℕ) → hard ≢ reg → home_of c.homes reg ≡ Hard hard → hard < 64
    hard_below reg hard other is = elim (hard_home c.f c.homes c.are_homes reg hard is) [
      | inl among ↦ let most = among.1 in omega (arith, most)
      | inr same ↦ absurd (other same)
    ]

    home_kept : (reg hard q : ℕ) → leads c.f.insns place q ≡ true → IsLive c.f reg q → is_call_used reg ≡ false → home_of c.homes reg ≡ Hard hard → is_call_used hard ≡ false
    home_kept reg hard q leads_on live kept is = false_from_ne_true (is_call_used hard) (λ used. ⊎_elim
        (λ (same : hard ≡ reg). false≢true (sym kept ∙ sym (ap is_call_used same) ∙ used))
        (λ (other : hard ≢ reg). homes_apart c.f c.homes c.are_homes hard reg hard other
        (inl (place, i, at, call_used_defined hard used, (q, leads_on, live)))
        (below_itself c.f c.homes c.are_homes hard (hard_below reg hard other is)) is)
        (same_or_not hard reg))

    not_defined : (reg : ℕ) → (10 ≡ reg → ⊥) → is_call_used reg ≡ false → insn_defines i reg ≡ false
    not_defined reg other kept =
        ap (λ b. b || (is_call_kind i.kind && is_call_used reg))
        (call_defines c.world.symbols s.regs s.memory i.pattern i.uses s.visible reg event told (λ same. other (sym same)))
        ∙ ap (λ b. is_call_kind i.kind && b) kept
        ∙ and_none (is_call_kind i.kind)

    -- what the frame does not save no call changes
    turned : (b : Bool) → not b ≡ true → b ≡ false
    turned true is = absurd (false≢true is)
    turned false is = refl

    ra_saved : has_reg (map (λ (r : SavedAt). r.reg) c.layout.saved) 1 ≡ true
    ra_saved =
        ap (λ regs. has_reg regs 1) c.frame.saved
        ∙ ap (λ b. has_reg ((if b then 1 ∷ [] else []) ++ filter (is_home c.homes) saved_registers) 1) (any_at is_call c.f.insns place i at (ap is_call_kind call))

    unsaved_kept : (reg : ℕ) → is_unsaved c.layout reg ≡ true → is_call_used reg ≡ false
    unsaved_kept reg unsaved =
        let both = and_parts (has_reg (1 ∷ saved_registers) reg) (not (has_reg (map (λ (r : SavedAt). r.reg) c.layout.saved) reg)) unsaved in
        elim (or_cases (1 == reg) (has_reg saved_registers reg) both.0) [
          | inl ra ↦ absurd (false≢true (sym (turned (has_reg (map (λ (r : SavedAt). r.reg) c.layout.saved) reg) both.1)
              ∙ (ap (has_reg (map (λ (r : SavedAt). r.reg) c.layout.saved)) (sym (eqb-true 1 reg ra)) ∙ ra_saved)))
          | inr among ↦ turned (is_call_used reg) (one_has (λ n. not (is_call_used n)) saved_registers reg refl among)
        ]

    result_in : (v : Width) (x : ℕ) → reg_value (regs_replied s.regs w reply.value) 10 v ≡ Some x →
        content_in c.layout (base c) (regs_replied u.regs w reply.value) (written reply.writes u.memory) 10 (home_of c.homes 10) v ≡ Some x
    result_in v x is =
        ap (λ home. content_in c.layout (base c) (regs_replied u.regs w reply.value) (written reply.writes u.memory) 10 home v) a0_home
        ∙ replied_here u.regs w reply.value v ∙ sym (replied_here s.regs w reply.value v) ∙ is

    other_in : (reg q : ℕ) → 10 ≢ reg → has_home reg ≡ true → leads c.f.insns place q ≡ true → IsLive c.f reg q → (v : Width) (x : ℕ) →
        reg_value (regs_replied s.regs w reply.value) reg v ≡ Some x →
        content_in c.layout (base c) (regs_replied u.regs w reply.value) (written reply.writes u.memory) reg (home_of c.homes reg) v ≡ Some x
    other_in reg q other has leads_on live v x is =
        let known = replied_known s.regs w reply.value reg v x other is in
        content_same c reg (home_of c.homes reg) v u.regs (regs_replied u.regs w reply.value) u.memory (written reply.writes u.memory)
        (λ hard is_r. replied_kept u.regs w reply.value hard v (home_kept reg hard q leads_on live known.0 is_r))
        (λ slot. unseen_load c.start.visible reply.writes u.memory v (base c + slot_offset c.layout reg) lawful.visible
        (λ p least most. let few = eight_bytes v in let end : p < base c + slot_offset c.layout reg + 8 = omega (arith, most, few) in
        hidden c p (slot_below c reg p slot least end) (slot_no_local c reg p slot least end)))
        ∙ stands.values reg has (Passing place q i at (not_defined reg other known.0) leads_on live) v x known.1

    -- the states behind the reply stand beside each other
    pub reply_stands : (q next next' : ℕ) → leads c.f.insns place q ≡ true → StandsIn c q (replied s next) (replied u next')
    reply_stands q next next' leads_on = record {
      values = λ reg has live v x is. ⊎_elim
          (λ (same : 10 ≡ reg). subst (λ r. reg_value (regs_replied s.regs w reply.value) r v ≡ Some x →
          content_in c.layout (base c) (regs_replied u.regs w reply.value) (written reply.writes u.memory) r (home_of c.homes r) v ≡ Some x) same (result_in v x) is)
          (λ (other : 10 ≢ reg). other_in reg q other has leads_on live v x is)
          (same_or_not 10 reg);
      vars = replied_kept s.regs w reply.value 32 W64 refl ∙ stands.vars;
      within = within_written reply.writes s.memory u.memory stands.within;
      outside = λ address there inside. stands.outside address (sym (has-written reply.writes s.memory address) ∙ there) inside;
      room = λ address inside. has-written reply.writes u.memory address ∙ stands.room address inside;
      seen = visible_written c.start.visible reply.writes s.memory u.memory stands.seen;
      ranges = stands.ranges;
      ranges_too = stands.ranges_too;
      calls = ap (λ events. events ++ event ∷ []) stands.calls;
      kept = record {
        pointer = replied_kept u.regs w reply.value 2 W64 refl ∙ stands.kept.pointer;
        registers = λ reg unsaved v x is. replied_kept u.regs w reply.value reg v (unsaved_kept reg unsaved) ∙ stands.kept.registers reg unsaved v x is;
        room = λ address inside other free. unseen_byte c.start.visible reply.writes u.memory address lawful.visible (hidden c address inside other)
            ∙ stands.kept.room address inside other free;
      };
    }
