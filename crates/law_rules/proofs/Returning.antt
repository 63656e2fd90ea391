-- A return at the end of a chain changes no run.
use Rattle.std.proofs.Common.{◌≡◌, ℕ, zero, suc, ◌+◌, ◌≤◌, false, drop, List, [], ◌∷◌, ◌++◌, length, Option, Some, None, refl, sym, ap, ◌∙◌, inl, inr, arith}
use Rattle.std.proofs.Math.Seq.{drop-nil}
use Rattle.std.specs.Prelude.{slice_get, if◌then◌else◌}
use Rattle.std.proofs.lemmas.Bool.{cases_eq}
use Rattle.std.proofs.lemmas.Option.{slice_get_cases, slice_get_past}
use Rattle.rtx_tree.specs.declared.function.Insn.{Insn}
use Rattle.rtx_tree.specs.declared.function.Function.{Function}
use Rattle.rtx_tree.specs.declared.function.Kind.{Kind}
use Rattle.rtx_tree.specs.declared.function.Kind.TheVariants as kind
use Rattle.rtx_tree.specs.declared.machine.World.{World}
use Rattle.rtx_tree.specs.declared.tree.Rtx.{Rtx, out-roll-Rtx}
use Rattle.rtx_tree.specs.declared.tree.Rtx.TheOpen.{Rtx-F}
use Rattle.rtx_tree.specs.Patterns.{is_label_kind, return_rtx}
use Rattle.rtl_step.specs.Jump.{jump_of, jump_by}
use Rattle.rtl_step.specs.declared.jump.Way.{Way}
use Rattle.rtl_step.specs.declared.jump.Way.TheVariants.{Falls, Goes, Leaves}
use Rattle.rtl_step.specs.Step.{Stepped, step, act, act_at, after_jump, after_goes, after_return, is_mark, passed, place_from}
use Rattle.rtl_step.specs.declared.step.State.{State}
use Rattle.rtl_step.specs.declared.step.StepEnd.{StepEnd}
use Rattle.rtl_step.specs.declared.step.StepEnd.TheVariants.{Next, Jumped, Called, Returned, Asked, Undefined}
use Rattle.func_run.specs.Run.{go_on, ended, goes_on, run, taken_from, taken_on}
use Rattle.law_rules.proofs.Chain.{same_labels, before_end, the_end, length_end}

-- ---- one step

-- the place of the first instruction is the same
passed_end : (rest : List Insn) (last : Insn) (place : ℕ) → is_mark last.kind ≡ false → passed (rest ++ last ∷ []) place ≡ passed rest place
passed_end [] last place no_mark = ap (λ b. if b then place + 1 else place) no_mark
passed_end (i ∷ rest) last place no_mark =
    ap (λ (more : ℕ). if is_mark i.kind then more else place) (passed_end rest last (place + 1) no_mark)

pub dropped_end : (insns : List Insn) (last : Insn) (next place : ℕ) → is_mark last.kind ≡ false →
    passed (drop next (insns ++ last ∷ [])) place ≡ passed (drop next insns) place
dropped_end [] last zero place no_mark = passed_end [] last place no_mark
dropped_end [] last (suc next) place no_mark = ap (λ l. passed l place) (drop-nil next ∙ sym (drop-nil (suc next)))
dropped_end (i ∷ insns) last zero place no_mark = passed_end (i ∷ insns) last place no_mark
dropped_end (i ∷ insns) last (suc next) place no_mark = dropped_end insns last next place no_mark

module _ (f : Function) (last : Insn) (jump : last.kind ≡ kind.Jump) (returns : last.pattern ≡ return_rtx) where
  -- the function with one more return at its end
  abbrev pub longer : Function
  longer = record f { insns = f.insns ++ last ∷ [] }

  module _ (world : World) where
    leaves : (s : State) → jump_of world.symbols s.regs s.memory last.pattern ≡ Some Leaves
    leaves s =
        ap (jump_of world.symbols s.regs s.memory) returns
        ∙ ap (λ (o : Rtx-F Rtx). jump_by o.code o.kids world.symbols s.regs s.memory) (out-roll-Rtx _)

    same_jump : (s : State) (place : ℕ) (way : Option Way) → after_jump longer s place way ≡ after_jump f s place way
    same_jump s place None = refl
    same_jump s place (Some Falls) = refl
    same_jump s place (Some (Goes uid)) = ap (after_goes s) (same_labels f.insns last (ap is_label_kind jump) uid)
    same_jump s place (Some Leaves) = refl

    same_act : (k : Kind) (i : Insn) (place : ℕ) (s : State) → act k world longer i place s ≡ act k world f i place s
    same_act kind.Plain i place s = refl
    same_act kind.Jump i place s = same_jump s place (jump_of world.symbols s.regs s.memory i.pattern)
    same_act kind.Call i place s = refl
    same_act kind.Label i place s = refl
    same_act kind.Barrier i place s = refl

    -- the added return does what the end of the chain does
    returned : (place : ℕ) (s : State) → act_at (Some last) world longer place s ≡ after_return f.result s
    returned place s = ap (λ k. act k world longer last place s) jump ∙ ap (after_jump longer s place) (leaves s)

    same_at : (place : ℕ) (s : State) →
        act_at (slice_get longer.insns place) world longer place s ≡ act_at (slice_get f.insns place) world f place s
    same_at place s = elim (slice_get_cases f.insns place).1 [
      | inl w ↦
          ap (λ o. act_at o world longer place s) (before_end f.insns last place w.0 w.2)
          ∙ same_act w.0.kind w.0 place s
          ∙ sym (ap (λ o. act_at o world f place s) w.2)
      | inr past ↦ elim (cases_eq place (length f.insns)) [
        | inl end ↦
            ap (λ o. act_at o world longer place s) (ap (slice_get longer.insns) end ∙ the_end f.insns last)
            ∙ returned place s
            ∙ sym (ap (λ o. act_at o world f place s) past.1)
        | inr apart ↦
            let long = length_end f.insns last in
            let above : length longer.insns ≤ place = not_before place (length f.insns) (length longer.insns) past.0 apart long in
            ap (λ o. act_at o world longer place s) (slice_get_past longer.insns place above)
            ∙ sym (ap (λ o. act_at o world f place s) past.1)
      ]
    ]
      where
        not_before : (place short long : ℕ) → short ≤ place → (place ≡ short → ⊥) → long ≡ suc short → long ≤ place
        not_before place short long le apart is = grind arith

    pub same_step : (s : State) → step world longer s ≡ step world f s
    same_step s =
        ap (λ place. act_at (slice_get longer.insns place) world longer place s) (dropped_end f.insns last s.next s.next (ap is_mark jump))
        ∙ same_at (place_from f.insns s.next) s

    -- ---- runs

    same_ended : (e : StepEnd) (s : State) → ended longer e s ≡ ended f e s
    same_ended Next s = refl
    same_ended Jumped s = refl
    same_ended Called s = refl
    same_ended Returned s = refl
    same_ended Asked s = refl
    same_ended Undefined s = refl

    same_on : (n : ℕ) (e : StepEnd) (t : State) → run world longer n t ≡ run world f n t →
        go_on longer e t (run world longer n) ≡ go_on f e t (run world f n)
    same_on n e t rest =
        ap (λ r. if goes_on e then r else ended longer e t) rest
        ∙ ap (λ r. if goes_on e then run world f n t else r) (same_ended e t)

    pub same_run : (n : ℕ) (s : State) → run world longer n s ≡ run world f n s
    same_run zero s = refl
    same_run (suc n) s =
        ap (λ (e : Stepped). go_on longer e.0 e.1 (run world longer n)) (same_step s)
        ∙ same_on n (step world f s).0 (step world f s).1 (same_run n (step world f s).1)

    taken_same : (n : ℕ) (e : StepEnd) (t : State) → taken_from world longer n t ≡ taken_from world f n t →
        taken_on e t (taken_from world longer n) ≡ taken_on e t (taken_from world f n)
    taken_same n Next t rest = rest
    taken_same n Jumped t rest = ap suc rest
    taken_same n Called t rest = ap suc rest
    taken_same n Returned t rest = refl
    taken_same n Asked t rest = refl
    taken_same n Undefined t rest = refl

    pub same_taken : (n : ℕ) (s : State) → taken_from world longer n s ≡ taken_from world f n s
    same_taken zero s = refl
    same_taken (suc n) s =
        ap (λ (e : Stepped). taken_on e.0 e.1 (taken_from world longer n)) (same_step s)
        ∙ taken_same n (step world f s).0 (step world f s).1 (same_taken n (step world f s).1)
