-- Registers and memory behind a reply, on both sides: a0 has its value in the result's width, what a call preserves is as it was, and
-- nothing else is known.
use Rattle.std.proofs.Common.{◌≡◌, ◌≢◌, ℕ, zero, suc, ◌+◌, ◌<◌, ◌^◌, ◌==◌, ⊎_elim, arith, if◌then◌else◌, not, Bool, true, false, cond, length, List, [], ◌∷◌, Option, Some, None, refl, sym, ap, subst, ◌∙◌}
use Rattle.std.proofs.lemmas.Bool.Decides.{nat_tests}
use Rattle.std.specs.Prelude.{slice_get, option_and_then, option_map, nat_le}
use Rattle.std.specs.List.{All}
use Rattle.std.specs.Cmp.{nat_cmp_total}
use Rattle.std.specs.FinMap.{get, get-insert}
use Rattle.std.specs.Ordering.{nat_cmp, eq_by_cmp}
use Rattle.bits64.specs.Words.{low, bits_of}
use Rattle.bits64.specs.declared.Width.{Width}
use Rattle.bits64.specs.declared.Width.TheVariants.{W8, W16, W32, W64}
use Rattle.rtx_tree.specs.Registers.{is_call_used}
use Rattle.rtx_tree.specs.declared.machine.RangeAt.{RangeAt}
use Rattle.rtx_tree.specs.declared.machine.Reply.{Reply}
use Rattle.rtx_tree.specs.declared.memories.MemByte.{MemByte}
use Rattle.rtl_step.specs.Regs.{Regs, known_of, known_in, preserved}
use Rattle.rtl_step.specs.Call.{regs_replied}
use Rattle.rtl_step.specs.declared.regs.Known.{Known}
use Rattle.rtl_step.proofs.Registers.{get_kept}
use Rattle.run_memory.specs.RunMemory.{written}
use Rattle.rv_line.specs.Run.{left_from, after_call}
use Rattle.rv_line.specs.Step.{register}
use Rattle.rv_line.specs.declared.state.RvState.{RvState}
use Rattle.law_window_runs.specs.same_behaviour.Lawful.{IsWord, IsByte}
use Rattle.law_window_runs.proofs.same_behaviour.Entry.{same_or_not}
use Rattle.law_window_runs.proofs.same_behaviour.Registers.{register_set, register_kept, length_written}
use Rattle.law_window_runs.specs.Beside.{Agrees, Beside, IsMachine}
use Rattle.law_window_lines.proofs.Memories.{memory_written, within_written, visible_written}
use Rattle.law_window_lines.proofs.Small.{is_here, is_other}

-- ---- the code's registers

abbrev pub held : Option (Option ℕ) → Option ℕ
held o = option_and_then (λ value. value) o

none_anyway : (b : Bool) → ◌≡◌ {A = Option ℕ} None (if b then None else None)
none_anyway true = refl
none_anyway false = refl

held_if : (b : Bool) (x : Option ℕ) → held (Some (if b then None else x)) ≡ (if b then None else x)
held_if true x = refl
held_if false x = refl

left_at : (regs : List (Option ℕ)) (base reg : ℕ) → held (slice_get (left_from base regs) reg) ≡ (if is_call_used
    (base + reg) then None else held (slice_get regs reg))
left_at [] base reg = none_anyway (is_call_used (base + reg))
left_at (x ∷ regs) base zero =
    let here : base ≡ base + 0 = omega arith in
    ap (λ n. held (Some (if is_call_used n then None else x))) here ∙ held_if (is_call_used (base + 0)) x
left_at (x ∷ regs) base (suc reg) =
    let further : base + 1 + reg ≡ base + suc reg = omega arith in
    left_at regs (base + 1) reg ∙ ap (λ n. if is_call_used n then None else held (slice_get regs reg)) further

left_long : (regs : List (Option ℕ)) (base : ℕ) → length (left_from base regs) ≡ length regs
left_long [] base = refl
left_long (x ∷ regs) base = ap suc (left_long regs (base + 1))

not_zero : (reg : ℕ) → 0 < reg → (reg == 0) ≡ false
not_zero reg some = grind (arith, nat_tests, some)

pub register_at : (regs : List (Option ℕ)) (reg : ℕ) → 0 < reg → register regs reg ≡ held (slice_get regs reg)
register_at regs reg some = ap (λ b. if b then Some 0 else held (slice_get regs reg)) (not_zero reg some)

-- another register than a0 is unset, or as it was
pub other_after : (reply : Reply) (m : RvState) (reg : ℕ) → 0 < reg → 10 ≢ reg →
    register (after_call reply m).regs reg ≡ (if is_call_used reg then None else register m.regs reg)
other_after reply m reg some other =
    register_kept (left_from 0 m.regs) 10 reg reply.value (omega arith) some other ∙
    register_at (left_from 0 m.regs) reg some ∙ left_at m.regs 0 reg ∙
    ap (λ n. if is_call_used n then None else held (slice_get m.regs reg)) (let same : 0 + reg ≡ reg = omega arith in same) ∙
    ap (λ o. if is_call_used reg then None else o) (sym (register_at m.regs reg some))

pub result_after : (reply : Reply) (m : RvState) → length m.regs ≡ 32 → register (after_call reply m).regs 10 ≡ Some reply.value
result_after reply m long =
    let left = left_long m.regs 0 in register_set (left_from 0 m.regs) 10 reply.value (omega arith) (omega (arith, left, long))

-- what a call preserves is as it was
pub kept_after : (reply : Reply) (m : RvState) (reg : ℕ) → is_call_used reg ≡ false →
    register (after_call reply m).regs reg ≡ register m.regs reg
kept_after reply m zero kept = refl
kept_after reply m (suc reg) kept =
    other_after reply m (suc reg) (omega arith) (λ is. let no : true ≡ false = ap is_call_used is ∙ kept in let none : ⊥ = cc in none) ∙
    ap (λ b. if b then None else register m.regs (suc reg)) kept

-- ---- the machines stand beside each other

word_if : (b : Bool) (o : Option ℕ) (number : ℕ) → (if b then None else o) ≡ Some number → o ≡ Some number
word_if true o number is = absurd (let no : ⊥ = cc in no)
word_if false o number is = is

word_after : (reply : Reply) (m : RvState) → IsWord reply.value → IsMachine m → (reg number : ℕ) →
    register (after_call reply m).regs reg ≡ Some number → number < 2 ^ 64
word_after reply m fits is zero number has = is.words 0 number has
word_after reply m fits is (suc reg) number has = ⊎_elim
    (λ (same : 10 ≡ suc reg). let there : Some reply.value ≡ Some number =
    sym (result_after reply m is.long) ∙ subst (λ r. register (after_call reply m).regs r ≡ Some number) (sym same) has in
    let equal : reply.value ≡ number = cc in subst (λ n. n < 2 ^ 64) equal fits)
    (λ other. is.words (suc reg) number (word_if (is_call_used (suc reg)) (register m.regs (suc reg)) number
    (sym (other_after reply m (suc reg) (omega arith) other) ∙ has)))
    (same_or_not 10 (suc reg))

machine_after : (reply : Reply) (m : RvState) → IsWord reply.value → All IsByte reply.writes → IsMachine m → IsMachine (after_call reply m)
machine_after reply m fits small is = record {
  long = length_written (left_from 0 m.regs) 10 reply.value (omega arith) ∙ left_long m.regs 0 ∙ is.long;
  words = word_after reply m fits is;
  memory = memory_written reply.writes m.memory small is.memory;
}

pub beside_after : (ranges : List RangeAt) (memory : List MemByte) (reply : Reply) (m : RvState) → IsWord reply.value →
    All IsByte reply.writes → Beside ranges memory m → Beside ranges (written reply.writes memory) (after_call reply m)
beside_after ranges memory reply m fits small is = record {
  first = memory_written reply.writes memory small is.first;
  second = machine_after reply m fits small is.second;
  within = within_written reply.writes memory m.memory is.within;
  visible_is = visible_written ranges reply.writes memory m.memory is.visible_is;
}

-- ---- what is known in the function is so in the code

pub low_in : (v w : Width) (a : ℕ) → nat_le (bits_of v) (bits_of w) ≡ true → low v (low w a) ≡ low v a
low_in W8 W8 a fits = omega arith
low_in W8 W16 a fits = omega arith
low_in W8 W32 a fits = omega arith
low_in W8 W64 a fits = omega arith
low_in W16 W8 a fits = absurd (let no : ⊥ = cc in no)
low_in W16 W16 a fits = omega arith
low_in W16 W32 a fits = omega arith
low_in W16 W64 a fits = omega arith
low_in W32 W8 a fits = absurd (let no : ⊥ = cc in no)
low_in W32 W16 a fits = absurd (let no : ⊥ = cc in no)
low_in W32 W32 a fits = omega arith
low_in W32 W64 a fits = omega arith
low_in W64 W8 a fits = absurd (let no : ⊥ = cc in no)
low_in W64 W16 a fits = absurd (let no : ⊥ = cc in no)
low_in W64 W32 a fits = absurd (let no : ⊥ = cc in no)
low_in W64 W64 a fits = omega arith

low_nothing : (w : Width) → low w 0 ≡ 0
low_nothing W8 = refl
low_nothing W16 = refl
low_nothing W32 = refl
low_nothing W64 = refl

-- register 0 is 0 in both
pub agrees_zero : (regs : Regs) (code : List (Option ℕ)) → Agrees regs code 0
agrees_zero regs code w value known = ap Some (low_nothing w) ∙ known

known_by : (v w : Width) (a value : ℕ) (b : Bool) → nat_le (bits_of v) (bits_of w) ≡ b →
    (if b then Some (low v (low w a)) else None) ≡ Some value →
    low v a ≡ value
known_by v w a value true fits is = let same : low v (low w a) ≡ value = cc in sym (low_in v w a fits) ∙ same
known_by v w a value false fits is = absurd (let no : ⊥ = cc in no)

kept_by : (b : Bool) (o : Option Known) (v : Width) (value : ℕ) → option_and_then (known_in v) (cond (not b) o None) ≡ Some value →
    (b ≡ false) × (option_and_then (known_in v) o ≡ Some value)
kept_by true o v value is = absurd (let no : ⊥ = cc in no)
kept_by false o v value is = (refl, is)

got_after : (regs : Regs) (w : Width) (a reg : ℕ) → get (regs_replied regs w a) reg ≡ (if eq_by_cmp nat_cmp reg 10 then Some
    (known_of w a) else get (preserved regs) reg)
got_after regs w a reg = get-insert nat_cmp_total (preserved regs) 10 (known_of w a) reg

pub agrees_after : (regs : Regs) (w : Width) (reply : Reply) (m : RvState) (reg : ℕ) → length m.regs ≡ 32 →
    (is_call_used reg ≡ false → Agrees regs m.regs reg) → Agrees (regs_replied regs w reply.value) (after_call reply m).regs reg
agrees_after regs w reply m zero long agrees = agrees_zero (regs_replied regs w reply.value) (after_call reply m).regs
agrees_after regs w reply m (suc reg) long agrees = λ v value known. ⊎_elim
    (λ (same : 10 ≡ suc reg).
    let here : get (regs_replied regs w reply.value) (suc reg) ≡ Some (known_of w reply.value) =
    got_after regs w reply.value (suc reg) ∙ ap (λ b. if b then Some (known_of w reply.value) else get (preserved regs) (suc reg))
    (subst (λ r. eq_by_cmp nat_cmp r 10 ≡ true) same (is_here 10)) in
    ap (option_map (low v)) (subst (λ r. register (after_call reply m).regs r ≡ Some reply.value) same (result_after reply m long)) ∙
    ap Some (known_by v w reply.value value (nat_le (bits_of v) (bits_of w)) refl (sym (ap (option_and_then (known_in v)) here) ∙ known)))
    (λ other.
    let there : get (regs_replied regs w reply.value) (suc reg) ≡ cond (not (is_call_used (suc reg))) (get regs (suc reg)) None =
    got_after regs w reply.value (suc reg) ∙ ap (λ b. if b then Some (known_of w reply.value) else get (preserved regs) (suc reg))
    (is_other (suc reg) 10 other) ∙ get_kept regs (λ r. not (is_call_used r)) (suc reg) in
    let kept = kept_by (is_call_used (suc reg)) (get regs (suc reg)) v value (sym (ap (option_and_then (known_in v)) there) ∙ known) in
    ap (option_map (low v)) (kept_after reply m (suc reg) kept.0) ∙ agrees kept.0 v value kept.1)
    (same_or_not 10 (suc reg))
