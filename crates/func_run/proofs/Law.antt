-- A run that goes on takes jumps or makes calls.
use Rattle.std.proofs.Common.{◌≡◌, ℕ, zero, suc, ◌+◌, ◌-◌, ◌*◌, ◌≤◌, arith, Bool, true, false, if◌then◌else◌, List, [], ◌∷◌, drop, refl, sym, ap, subst, ◌∙◌}
use Rattle.std.proofs.Math.Seq.{drop-nil}
use Rattle.std.specs.Prelude.{Option, Some, None, slice_get}
use Rattle.rtx_tree.specs.declared.function.Kind.{Kind}
use Rattle.rtx_tree.specs.declared.function.Kind.TheVariants.{Plain, Jump, Call, Label, Barrier}
use Rattle.rtx_tree.specs.declared.function.Insn.{Insn}
use Rattle.rtx_tree.specs.declared.function.Function.{Function}
use Rattle.rtx_tree.specs.declared.machine.Reply.{Reply}
use Rattle.rtx_tree.specs.declared.machine.World.{World}
use Rattle.rtx_tree.specs.declared.machine.Start.{Start}
use Rattle.bits64.specs.declared.Width.{Width}
use Rattle.rtl_step.specs.declared.effect.Effect.{Effect}
use Rattle.rtl_step.specs.declared.jump.Way.{Way}
use Rattle.rtl_step.specs.declared.jump.Way.TheVariants.{Falls, Goes, Leaves}
use Rattle.rtl_step.specs.declared.call.CallEvent.{CallEvent}
use Rattle.rtl_step.specs.declared.step.State.{State}
use Rattle.rtl_step.specs.declared.step.StepEnd.{StepEnd}
use Rattle.rtl_step.specs.declared.step.StepEnd.TheVariants.{Next, Jumped, Called, Returned, Asked, Undefined}
use Rattle.rtl_step.specs.Step.{Stepped, step, act, act_at, after_effects, after_jump, after_goes, after_event, after_reply, has_result, is_mark, passed, place_from}
use Rattle.rtx_tree.specs.Patterns.{place_of}
use Rattle.func_run.specs.Run.{IsRunning, insn_count, go_on, run, run_of, entry_of, taken, taken_on, taken_from, TakesEnough}

-- ---- a step that goes on to the next instruction

-- such a step goes on behind the place
abbrev GoesBehind : ℕ → Stepped → Type 0
GoesBehind place r = r.0 ≡ Next → r.1.next ≡ place + 1

effects_behind : (s : State) (place : ℕ) (o : Option (List Effect)) → GoesBehind place (after_effects s place o)
effects_behind s place None is = absurd (let no : ⊥ = cc in no)
effects_behind s place (Some effects) is = refl

goes_behind : (s : State) (place : ℕ) (o : Option ℕ) → GoesBehind place (after_goes s o)
goes_behind s place None is = absurd (let no : ⊥ = cc in no)
goes_behind s place (Some label) is = absurd (let no : ⊥ = cc in no)

-- a return does not go on
return_stops : (b : Bool) (s : State) → (let r : Stepped = (if b then (Returned, s) else (Undefined, s)) in r.0 ≡ Next) → ⊥
return_stops true s is = cc
return_stops false s is = cc

jump_behind : (f : Function) (s : State) (place : ℕ) (o : Option Way) → GoesBehind place (after_jump f s place o)
jump_behind f s place None is = absurd (let no : ⊥ = cc in no)
jump_behind f s place (Some Falls) is = refl
jump_behind f s place (Some (Goes uid)) is = goes_behind s place (place_of uid f.insns) is
jump_behind f s place (Some Leaves) is = absurd (return_stops (has_result f.result s.regs) s is)

reply_behind : (s : State) (place : ℕ) (w : Width) (event : CallEvent) (o : Option Reply) → GoesBehind place (after_reply s place w event o)
reply_behind s place w event None is = absurd (let no : ⊥ = cc in no)
reply_behind s place w event (Some reply) is = absurd (let no : ⊥ = cc in no)

event_behind : (world : World) (s : State) (place : ℕ) (w : Option Width) (o : Option CallEvent) → GoesBehind place (after_event world s place w o)
event_behind world s place None o is = absurd (let no : ⊥ = cc in no)
event_behind world s place (Some w) None is = absurd (let no : ⊥ = cc in no)
event_behind world s place (Some w) (Some event) is = reply_behind s place w event _ is

act_behind : (kind : Kind) (world : World) (f : Function) (i : Insn) (place : ℕ) (s : State) → GoesBehind place (act kind world f i place s)
act_behind Plain world f i place s is = effects_behind s place _ is
act_behind Jump world f i place s is = jump_behind f s place _ is
act_behind Call world f i place s is = event_behind world s place _ _ is
act_behind Label world f i place s is = absurd (let no : ⊥ = cc in no)
act_behind Barrier world f i place s is = absurd (let no : ⊥ = cc in no)

-- ---- how many instructions are left

-- no more are left later
count_drop : (n : ℕ) (insns : List Insn) → insn_count (drop n insns) ≤ insn_count insns
count_drop zero insns = omega arith
count_drop (suc n) [] = omega arith
count_drop (suc n) (i ∷ insns) = let rest = count_drop n insns in by (is_mark i.kind) rest
  where
    by : (b : Bool) → insn_count (drop n insns) ≤ insn_count insns → insn_count (drop n insns) ≤ (if b then insn_count insns else suc (insn_count insns))
    by true rest = rest
    by false rest = omega arith

-- behind the first instruction of a list that begins at a place one less is left
abbrev PassedLess : List Insn → ℕ → Insn → Type 0
PassedLess xs base i = (base ≤ passed xs base) × (slice_get xs (passed xs base - base) ≡ Some i → insn_count (drop (passed xs base - base + 1) xs) + 1 ≤ insn_count xs)

passed_less : (xs : List Insn) (base : ℕ) (i : Insn) → PassedLess xs base i
passed_less [] base i = (omega arith, λ has. absurd (let no : ⊥ = cc in no))
passed_less (x ∷ xs) base i = by (passed_less xs (base + 1) i) (is_mark x.kind)
  where
    by : PassedLess xs (base + 1) i → (b : Bool) → (base ≤ (if b then passed xs (base + 1) else base)) × (slice_get (x ∷ xs) ((if b then passed xs (base + 1) else base) - base) ≡ Some i → insn_count (drop ((if b then passed xs (base + 1) else base) - base + 1) (x ∷ xs)) + 1 ≤ (if b then insn_count xs else suc (insn_count xs)))
    by rest true =
        let place : ℕ = passed xs (base + 1) in
        let behind : base + 1 ≤ place = rest.0 in
        let back : place - base ≡ suc (place - (base + 1)) = omega arith in
        let back_one : suc (place - (base + 1) + 1) ≡ place - base + 1 = omega arith in
        (omega arith, λ has. subst (λ n. insn_count (drop n (x ∷ xs)) + 1 ≤ insn_count xs) back_one (rest.1 (subst (λ n. slice_get (x ∷ xs) n ≡ Some i) back has)))
    by rest false =
        let one : suc 0 ≡ base - base + 1 = omega arith in
        (omega arith, λ has. subst (λ n. insn_count (drop n (x ∷ xs)) + 1 ≤ suc (insn_count xs)) one (let same : insn_count xs + 1 ≤ suc (insn_count xs) = omega arith in same))

get_drop : (n k : ℕ) (xs : List Insn) → slice_get (drop n xs) k ≡ slice_get xs (n + k)
get_drop zero k xs = let e : k ≡ zero + k = omega arith in ap (slice_get xs) e
get_drop (suc n) k [] = refl
get_drop (suc n) k (x ∷ xs) = let e : suc (n + k) ≡ suc n + k = omega arith in get_drop n k xs ∙ ap (slice_get (x ∷ xs)) e

drop_drop : (n k : ℕ) (xs : List Insn) → drop k (drop n xs) ≡ drop (n + k) xs
drop_drop zero k xs = let e : k ≡ zero + k = omega arith in ap (λ m. drop m xs) e
drop_drop (suc n) k [] = drop-nil k ∙ sym (drop-nil (suc n + k))
drop_drop (suc n) k (x ∷ xs) = let e : suc (n + k) ≡ suc n + k = omega arith in drop_drop n k xs ∙ ap (λ m. drop m (x ∷ xs)) e

-- behind the instruction that a step takes one less is left
left_behind : (insns : List Insn) (next : ℕ) (i : Insn) → slice_get insns (place_from insns next) ≡ Some i → insn_count (drop (place_from insns next + 1) insns) + 1 ≤ insn_count (drop next insns)
left_behind insns next i has =
    let all = passed_less (drop next insns) next i in
    let place : ℕ = place_from insns next in
    let behind : next ≤ place = all.0 in
    let at : next + (place - next) ≡ place = omega arith in
    let after : next + (place - next + 1) ≡ place + 1 = omega arith in
    let there = get_drop next (place - next) insns ∙ (ap (slice_get insns) at ∙ has) in
    let same = drop_drop next (place - next + 1) insns ∙ ap (λ m. drop m insns) after in
    subst (λ (xs : List Insn). insn_count xs + 1 ≤ insn_count (drop next insns)) same (all.1 there)

module _ (world : World) (f : Function) where
  left : State → ℕ
  left s = insn_count (drop s.next f.insns)

  -- a step that goes on to the next instruction leaves one less
  step_less : (s : State) → (step world f s).0 ≡ Next → left (step world f s).1 + 1 ≤ left s
  unfolding left
  step_less s = by (slice_get f.insns (place_from f.insns s.next)) refl
    where
      by : (o : Option Insn) → slice_get f.insns (place_from f.insns s.next) ≡ o → (act_at o world f (place_from f.insns s.next) s).0 ≡ Next → insn_count (drop (act_at o world f (place_from f.insns s.next) s).1.next f.insns) + 1 ≤ insn_count (drop s.next f.insns)
      by None has is = absurd (return_stops (has_result f.result s.regs) s is)
      by (Some i) has is = subst (λ n. insn_count (drop n f.insns) + 1 ≤ insn_count (drop s.next f.insns)) (sym (act_behind i.kind world f i (place_from f.insns s.next) s is)) (left_behind f.insns s.next i has)

  -- the bound after so many steps more
  Bound : ℕ → State → Type 0
  Bound n s = IsRunning (run world f n s) → n ≤ taken_from world f n s * (insn_count f.insns + 1) + left s

  bound_step : (n : ℕ) (s s' : State) (e : StepEnd) → (e ≡ Next → left s' + 1 ≤ left s) → left s' ≤ insn_count f.insns → Bound n s' → IsRunning (go_on f e s' (run world f n)) → suc n ≤ taken_on e s' (taken_from world f n) * (insn_count f.insns + 1) + left s
  unfolding Bound
  bound_step n s s' Next less all before is = let a = less refl in let b = before is in omega arith
  bound_step n s s' Jumped less all before is = let b = before is in omega arith
  bound_step n s s' Called less all before is = let b = before is in omega arith
  bound_step n s s' Returned less all before is = absurd is
  bound_step n s s' Asked less all before is = absurd is
  bound_step n s s' Undefined less all before is = absurd is

  bound : (n : ℕ) (s : State) → Bound n s
  unfolding Bound left
  bound zero s is = omega arith
  bound (suc n) s is =
      let r : Stepped = step world f s in
      bound_step n s r.1 r.0 (step_less s) (count_drop r.1.next f.insns) (bound n r.1) is

  taken_enough : (start : Start) (n : ℕ) → IsRunning (run_of f start world n) → n ≤ (taken f start world n + 1) * (insn_count f.insns + 1)
  unfolding Bound left
  taken_enough start n is = let b = bound n (entry_of start) is in omega arith

pub takes_enough : TakesEnough
takes_enough f start world n is = taken_enough world f start n is
