-- An instruction between the moves of a plan does what it did, where its moves lead to what they
-- should.
use Rattle.std.proofs.Common.{◌≡◌, ℕ, ◌+◌, ◌&&◌, not, length, true, false, List, [], ◌∷◌, ◌++◌, Some, refl, sym, ap, subst, ◌∙◌}
use Rattle.std.specs.Prelude.{slice_get}
use Rattle.std.proofs.lemmas.Bool.{false≢true}
use Rattle.rtx_tree.specs.Patterns.{with_pattern}
use Rattle.rtx_tree.specs.Tree.{head_of}
use Rattle.rtx_tree.specs.declared.function.Function.{Function}
use Rattle.rtx_tree.specs.declared.function.Insn.{Insn}
use Rattle.rtx_tree.specs.declared.function.Kind.{Kind}
use Rattle.rtx_tree.specs.declared.function.Kind.TheVariants as kind
use Rattle.rtx_tree.specs.declared.tree.Rtx.{Rtx}
use Rattle.rtl_step.specs.Call.{event_of, result_width}
use Rattle.rtl_step.specs.Effect.{effects_of}
use Rattle.rtl_step.specs.Jump.{jump_of}
use Rattle.rtl_step.specs.Step.{is_mark}
use Rattle.rtl_step.specs.declared.call.CallEvent.{CallEvent}
use Rattle.rtl_step.specs.declared.effect.Effect.{Effect}
use Rattle.rtl_step.specs.declared.jump.Way.{Way}
use Rattle.rtl_step.specs.declared.step.State.{State}
use Rattle.same_behaviour.specs.Lawful.{IsMemory}
use Rattle.reload.specs.form_needs.Needs.{is_kind, is_note, needs_form}
use Rattle.law_reload_moves.specs.law_frame.Frame.{plain_insns}
use Rattle.law_reload_moves.proofs.law_window_replaced.Stands.{Stands}
use Rattle.law_homes.proofs.Plain.{plain_keeps}
use Rattle.law_homes.proofs.Setting.{Setting, StandsIn}
use Rattle.law_reload_moves.specs.law_operands_fetched.Onwards.{ArePlain}
use Rattle.law_reload_moves.proofs.law_operands_fetched.PlainWindow.{ComesTo}
use Rattle.reload.specs.Reload.{window_by}
use Rattle.law_reload.specs.Steps.{Kept}
use Rattle.law_reload.proofs.Law.{pair_of}
use Rattle.law_reload.proofs.Kept.{kept_too}
use Rattle.law_reload.proofs.Labels.{unmarked_both}
use Rattle.law_reload.proofs.Moves.{ComesBefore, comes_of, before_comes, plain_unmarked, are_plain, plain_both}
use Rattle.law_reload.proofs.Windows.{DoesPlain, DoesJump, DoesCall, Does}
use Rattle.law_reload.proofs.Windows as windows

module _ (c : Setting) (g : Function) (place : ℕ) (i : Insn)
    (at : slice_get c.f.insns place ≡ Some i) (before : List Rtx) (y : Rtx)
    (after : List Rtx) where
  -- the moves before a jump lead on, and it goes this way
  pub record JumpLeads (u : State) (way : Way) (insns rest : List Insn) : Type 0 where
    pub comes : ComesBefore c g u insns rest
    pub goes : jump_of c.world.symbols comes.regs u.memory y ≡ Some way

  -- the moves before a call lead on, and it tells this
  pub record CallLeads (u : State) (event : CallEvent) (insns rest : List Insn) : Type 0 where
    pub comes : ComesBefore c g u insns rest
    pub tells : event_of c.world.symbols comes.regs u.memory u.visible y i.uses ≡ Some event
    pub width : result_width y ≡ result_width i.pattern

  -- What is asked of an instruction with moves before it and behind it. Of a jump and a call none
  -- stand behind it.
  pub record MovesLead : Type 0 where
    pub plain_leads : (plain : i.kind ≡ kind.Plain) (s u : State) (stands : StandsIn c place s u) →
        IsMemory u.memory → (es : List Effect)
        (is : effects_of c.world.symbols s.regs s.memory i.pattern ≡ Some es)
        (insns rest : List Insn) (q : ℕ) →
        ArePlain insns (before ++ y ∷ after) → Stands g.insns u.next (insns ++ rest) q →
        ComesTo c.world g c.f.locals c.layout c.start u (plain_keeps c place i at plain s u stands
        es is).these insns rest
    pub jump_leads : i.kind ≡ kind.Jump → (s u : State) → StandsIn c place s u →
        IsMemory u.memory → (way : Way) →
        jump_of c.world.symbols s.regs s.memory i.pattern ≡ Some way →
        (insns rest : List Insn) (q : ℕ) → ArePlain insns before →
        Stands g.insns u.next (insns ++ rest) q → JumpLeads u way insns rest
    pub call_leads : i.kind ≡ kind.Call → (s u : State) → StandsIn c place s u →
        IsMemory u.memory → (event : CallEvent) →
        event_of c.world.symbols s.regs s.memory s.visible i.pattern i.uses ≡ Some event →
        (insns rest : List Insn) (q : ℕ) →
        ArePlain insns before → Stands g.insns u.next (insns ++ rest) q →
        CallLeads u event insns rest
    pub none_after : (i.kind ≡ kind.Plain → ⊥) → after ≡ []

  module _ (leads : MovesLead) (uid : ℕ) where
    abbrev own : Insn
    own = with_pattern i y

    kept_at : (s u : State) → StandsIn c place s u → Kept (pair_of c g) u
    kept_at s u stands = kept_too c.layout c.f.locals c.start u c.lawful.words stands.kept

    -- ---- a plain one

    all_plain : i.kind ≡ kind.Plain → ArePlain (window_by uid i before y after)
        (before ++ y ∷ after)
    all_plain is = plain_both (plain_insns uid before) (own ∷ plain_insns (uid + length before)
        after) before (y ∷ after) (are_plain uid before)
        (is, refl, are_plain (uid + length before) after)

    does_plain : (is : i.kind ≡ kind.Plain) → DoesPlain c g place i at is
        (window_by uid i before y after)
    does_plain is s u stands memory es does rest q other =
        comes_of c g u (plain_keeps c place i at is s u stands es does).these
        (window_by uid i before y after) rest (kept_at s u stands)
        (leads.plain_leads is s u stands memory es does (window_by uid i before y after) rest q
        (all_plain is) other)

    -- ---- a jump, and a call

    does_jump : i.kind ≡ kind.Jump → DoesJump c g place i at (plain_insns uid before)
        (with_pattern i y)
    does_jump is s u stands memory way goes rest q other =
        let m = leads.jump_leads is s u stands memory way goes (plain_insns uid before) (own ∷ rest)
        q
        (are_plain uid before) other in
        record {
          comes = before_comes c g u (plain_insns uid before) (own ∷ rest)
              (kept_at s u stands) m.comes;
          goes = m.goes;
        }

    does_call : i.kind ≡ kind.Call → DoesCall c g place i at (plain_insns uid before)
        (with_pattern i y)
    does_call is s u stands memory event tells rest q other =
        let m = leads.call_leads is s u stands memory event tells (plain_insns uid before)
        (own ∷ rest) q
        (are_plain uid before) other in
        record {
          comes = before_comes c g u (plain_insns uid before) (own ∷ rest) (kept_at s u stands)
              m.comes;
          tells = m.tells;
          width = m.width;
        }

    -- ---- whatever it is

    abbrev Window : List Rtx → Type 0
    Window others = Does c g place i at (window_by uid i before y others)

    no_form : (k : Kind) → i.kind ≡ k → is_kind k ≡ false → needs_form i ≡ true → ⊥
    no_form k is none needs = false≢true (sym (ap (λ b. b && not (is_note (head_of i.pattern).code))
        (ap is_kind is ∙ none)) ∙ needs)

    by_kind : (k : Kind) → i.kind ≡ k → needs_form i ≡ true → Window after
    by_kind kind.Plain is needs = windows.plain (window_by uid i before y after) is
        (unmarked_both (plain_insns uid before) (own ∷ plain_insns (uid + length before) after)
        (plain_unmarked uid before)
        (ap is_mark is, plain_unmarked (uid + length before) after)) (does_plain is)
    by_kind kind.Jump is needs = subst Window
        (sym (leads.none_after (λ plain. let no : kind.Jump ≡ kind.Plain = sym is ∙ plain in
        let never : ⊥ = cc in never)))
        (windows.jump (plain_insns uid before) own is is (plain_unmarked uid before) (does_jump is))
    by_kind kind.Call is needs = subst Window
        (sym (leads.none_after (λ plain. let no : kind.Call ≡ kind.Plain = sym is ∙ plain in
        let never : ⊥ = cc in never)))
        (windows.call (plain_insns uid before) own is is (plain_unmarked uid before) (does_call is))
    by_kind kind.Label is needs = absurd (no_form kind.Label is refl needs)
    by_kind kind.Barrier is needs = absurd (no_form kind.Barrier is refl needs)

    pub moved_does : needs_form i ≡ true → Does c g place i at (window_by uid i before y after)
    moved_does needs = by_kind i.kind refl needs
