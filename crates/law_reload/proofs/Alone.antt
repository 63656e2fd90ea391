-- What stands alone in the place of an instruction: a label and a barrier, and a use or a clobber
-- with its homes put in.
use Rattle.std.proofs.Common.{◌≡◌, ℕ, ◌+◌, ◌&&◌, ◌⊎◌, inl, inr, not, if◌then◌else◌, Bool, true, false, [], ◌∷◌, Option, Some, None, refl, sym, ap, ◌∙◌}
use Rattle.std.specs.Prelude.{slice_get, option_and_then}
use Rattle.std.proofs.lemmas.Bool.{false≢true}
use Rattle.bits64.specs.declared.Width.{Width}
use Rattle.bits64.specs.declared.Width.TheVariants.{W64}
use Rattle.rtx_tree.specs.Patterns.{with_pattern}
use Rattle.rtx_tree.specs.Tree.{head_of, kids_of}
use Rattle.rtx_tree.specs.declared.code.Code.{Code}
use Rattle.rtx_tree.specs.declared.code.Code.TheVariants as rtl
use Rattle.rtx_tree.specs.declared.function.Function.{Function}
use Rattle.rtx_tree.specs.declared.function.Insn.{Insn}
use Rattle.rtx_tree.specs.declared.function.Kind.{Kind}
use Rattle.rtx_tree.specs.declared.function.Kind.TheVariants as kind
use Rattle.run_memory.specs.RunMemory.{visible}
use Rattle.rtl_step.specs.Call.{call_by, call_part, target_by, target_of, args_of, aligned_target}
use Rattle.rtl_step.specs.Effect.{effects_of, regs_after, memory_after}
use Rattle.rtl_step.specs.Jump.{jump_by}
use Rattle.rtl_step.specs.Step.{step, act, after_effects, after_event, after_jump, width_after, is_mark}
use Rattle.rtl_step.specs.Value.{of_two, value_of}
use Rattle.rtl_step.specs.declared.step.State.{State}
use Rattle.rtl_step.specs.declared.step.StepEnd.TheVariants as ends
use Rattle.reload.specs.form_needs.Needs.{is_note, is_kind, needs_form}
use Rattle.law_reload_moves.proofs.law_window_replaced.Stands.{stands_behind, step_is}
use Rattle.law_homes.proofs.Plain.{plain_keeps}
use Rattle.law_homes.proofs.Setting.{Setting}
use Rattle.reload.specs.Reload.{alone, with_homes}
use Rattle.law_reload.specs.Steps as parts
use Rattle.law_reload.proofs.Kept.{kept_too}
use Rattle.law_reload.proofs.Windows.{DoesPlain, Does}
use Rattle.law_reload.proofs.Windows as windows

-- ---- an instruction that needs no form

note_code : (code : Code) → is_note code ≡ true → (code ≡ rtl.Use) ⊎ (code ≡ rtl.Clobber)
note_code rtl.Use is = inl refl
note_code rtl.Clobber is = inr refl
note_code _ is = absurd (false≢true is)

pub turned : (b : Bool) → not b ≡ false → b ≡ true
turned true is = refl
turned false is = sym is

-- it is a use or a clobber
note_of : (i : Insn) (k : Kind) → needs_form i ≡ false → i.kind ≡ k → is_kind k ≡ true →
    is_note (head_of i.pattern).code ≡ true
note_of i k free is some =
    turned (is_note (head_of i.pattern).code)
    (sym (ap (λ b. b && not (is_note (head_of i.pattern).code)) (ap is_kind is ∙ some)) ∙ free)

module _ (c : Setting) (place : ℕ) (i : Insn) (s : State) where
  -- a use or a clobber has no value as a jump
  jump_never : (code : Code) → (head_of i.pattern).code ≡ code → is_note code ≡ true →
      act kind.Jump c.world c.f i place s ≡ (ends.Undefined, s)
  jump_never rtl.Use is note = ap (λ code. after_jump c.f s place
      (jump_by code (kids_of i.pattern) c.world.symbols s.regs s.memory)) is
  jump_never rtl.Clobber is note = ap (λ code. after_jump c.f s place
      (jump_by code (kids_of i.pattern) c.world.symbols s.regs s.memory)) is
  jump_never _ is note = absurd (false≢true note)

  -- and none as a call
  untold : (w : Option Width) → after_event c.world s place w None ≡ (ends.Undefined, s)
  untold None = refl
  untold (Some w) = refl

  no_target : (code : Code) → (head_of i.pattern).code ≡ code → is_note code ≡ true →
      target_of (call_part i.pattern) ≡ None
  no_target rtl.Use is note =
      ap target_of (ap (λ code. call_by code (kids_of i.pattern) i.pattern) is) ∙
      ap (λ code. target_by code (kids_of i.pattern)) is
  no_target rtl.Clobber is note =
      ap target_of (ap (λ code. call_by code (kids_of i.pattern) i.pattern) is) ∙
      ap (λ code. target_by code (kids_of i.pattern)) is
  no_target _ is note = absurd (false≢true note)

  call_never : is_note (head_of i.pattern).code ≡ true →
      act kind.Call c.world c.f i place s ≡ (ends.Undefined, s)
  call_never note =
      ap (λ target. after_event c.world s place (width_after i)
      (of_two (λ target args. Some (record {
        target = target;
        args = args;
        memory =
            visible s.visible s.memory;
      }))
      (option_and_then (λ target. option_and_then aligned_target
      (value_of c.world.symbols s.regs s.memory target W64)) target)
      (args_of s.regs i.uses))) (no_target (head_of i.pattern).code refl note)
      ∙ untold (width_after i)

-- ---- it stands alone

module _ (c : Setting) (g : Function) (place : ℕ) (i : Insn)
    (at : slice_get c.f.insns place ≡ Some i) where
  abbrev own : Insn
  own = with_pattern i (alone c.homes c.layout i)

  -- with its homes put in
  homes_in : is_mark i.kind ≡ false → alone c.homes c.layout i ≡ with_homes c.homes c.layout i
  homes_in none = ap (λ b. if b then i.pattern else with_homes c.homes c.layout i) none

  -- a plain one makes one step
  own_plain : (plain : i.kind ≡ kind.Plain) → DoesPlain c g place i at plain
      (with_pattern i (alone c.homes c.layout i) ∷ [])
  own_plain plain s u stands memory es is rest q other =
      let d = plain_keeps c place i at plain s u stands es is in
      let u' : State = record u {
        next = q + 1;
        regs = regs_after d.these u.regs;
        memory =
            memory_after d.these u.memory;
      } in
      let stepped : step c.world g u ≡ (ends.Next, u') =
      step_is c.world g u own rest q kind.Plain other refl plain
      ∙ ap (λ x. after_effects u q (effects_of c.world.symbols u.regs u.memory x))
      (homes_in (ap is_mark plain))
      ∙ ap (after_effects u q) d.is in
      record {
        count = 1;
        next_place = q + 1;
        place = q + 1;
        regs = regs_after d.these u.regs;
        leads = parts.more 0 u u' u' ends.Next (kept_too c.layout c.f.locals c.start u
            c.lawful.words stands.kept) stepped refl (parts.none u');
        stands = stands_behind g.insns u.next own rest q other;
        knows = λ reg other w v known. known;
      }

  abbrev Alone : Type 0
  Alone = Does c g place i at (with_pattern i (alone c.homes c.layout i) ∷ [])

  by_kind : (k : Kind) → i.kind ≡ k → needs_form i ≡ false → Alone
  by_kind kind.Label is free = windows.mark own (ap is_mark is) refl refl
  by_kind kind.Barrier is free = windows.mark own (ap is_mark is) refl refl
  by_kind kind.Plain is free = windows.plain (own ∷ []) is (ap is_mark is, tt) (own_plain is)
  by_kind kind.Jump is free = windows.never (own ∷ []) (ap is_mark is) (ap is_mark is, tt)
      (λ s. ap (λ k. act k c.world c.f i place s) is ∙ jump_never c place i s
      (head_of i.pattern).code refl (note_of i kind.Jump free is refl))
  by_kind kind.Call is free = windows.never (own ∷ []) (ap is_mark is) (ap is_mark is, tt)
      (λ s. ap (λ k. act k c.world c.f i place s) is ∙ call_never c place i s
      (note_of i kind.Call free is refl))

  pub alone_does : needs_form i ≡ false → Does c g place i at
      (with_pattern i (alone c.homes c.layout i) ∷ [])
  alone_does free = by_kind i.kind refl free
