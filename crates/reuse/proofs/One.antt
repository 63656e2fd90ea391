-- What comes of reuse is one.
use Rattle.std.proofs.Common.{◌≡◌, ⊎_elim, ℕ, suc, ◌+◌, ◌<◌, ◌≤◌, List, Option, Some, refl, sym, ap, subst, ◌∙◌, arith}
use Rattle.std.specs.Prelude.{slice_get}
use Rattle.rtx_tree.specs.declared.function.Insn.{Insn}
use Rattle.rtx_tree.specs.declared.function.Function.{Function}
use Rattle.new_insns.specs.Replaced.{window}
use Rattle.insn_fuse.specs.Fused.{set_of}
use Rattle.md_forms.specs.declared.form.Entry.{Entry}
use Rattle.reuse.specs.Reuse.{set_mode, reusing, Repeats, RepeatsAt, NoneRepeats, IsNextRepeat, IsFirstDead, NoneDead, with_insn, without, IsStep, Steps, Reused}

pub some_one : {A : Type 0} (o : Option A) (x y : A) → o ≡ Some x → o ≡ Some y → x ≡ y
some_one o x y is too = cc

-- ---- the instruction at the second place

repeats_one : (forms : List Entry) (one : Insn) (between others : List Insn) (other new new_too : Insn) → Repeats forms one between other new → Repeats forms one others other new_too → new ≡ new_too
repeats_one forms one between others other new new_too a b =
    let register = some_one (set_of one) a.register b.register a.again.sets b.again.sets in
    let mode = some_one (set_mode other) a.mode b.mode a.again.again_in b.again.again_in in
    a.makes ∙ (ap (λ m. reusing m a.register other) mode ∙ (ap (λ r. reusing b.mode r other) register ∙ sym b.makes))

pub new_one : (forms : List Entry) (f : Function) (i j : ℕ) (new new_too : Insn) → RepeatsAt forms f i j new → RepeatsAt forms f i j new_too → new ≡ new_too
new_one forms f i j new new_too a b =
    let one = some_one (slice_get f.insns i) a.one b.one a.at_first b.at_first in
    let other = some_one (slice_get f.insns j) a.other b.other a.at_second b.at_second in
    repeats_one forms b.one (window f (i + 1) j) (window f (i + 1) j) b.other new new_too
    (subst (λ o. Repeats forms b.one (window f (i + 1) j) o new) other (subst (λ o. Repeats forms o (window f (i + 1) j) a.other new) one a.repeats)) b.repeats

-- ---- which is next

module _ (forms : List Entry) (f : Function) (i j k l : ℕ) (new new_too : Insn) (a : IsNextRepeat forms f i j new) (b : IsNextRepeat forms f k l new_too) where
  same_second : j ≡ l
  same_second = ⊎_elim
      (λ (before : j < l). ⊎_elim
      (λ (behind : l < j). absurd (omega (arith, before, behind)))
      (λ (same : (l ≡ j) × (i ≤ k)). sym same.0)
      (b.chosen i j new a.repeats))
      (λ (same : (j ≡ l) × (k ≤ i)). same.0)
      (a.chosen k l new_too b.repeats)

  upto : k ≤ i
  upto = ⊎_elim
      (λ (before : j < l). let same = same_second in absurd (omega (arith, before, same)))
      (λ (same : (j ≡ l) × (k ≤ i)). same.1)
      (a.chosen k l new_too b.repeats)

  upto_too : i ≤ k
  upto_too = ⊎_elim
      (λ (before : l < j). let same = same_second in absurd (omega (arith, before, same)))
      (λ (same : (l ≡ j) × (i ≤ k)). same.1)
      (b.chosen i j new a.repeats)

  next_one : with_insn f j new ≡ with_insn f l new_too
  next_one =
      let low = upto in
      let high = upto_too in
      let first : i ≡ k = omega (arith, low, high) in
      let moved = subst (λ s. RepeatsAt forms f k s new) same_second (subst (λ p. RepeatsAt forms f p j new) first a.repeats) in
      ap (λ s. with_insn f s new) same_second ∙ ap (with_insn f l) (new_one forms f k l new new_too moved b.repeats)

first_one : (f : Function) (p q : ℕ) → IsFirstDead f p → IsFirstDead f q → p ≡ q
first_one f p q a b = let low = a.first q b.dead in let high = b.first p a.dead in omega (arith, low, high)

step_one : (forms : List Entry) (f g h : Function) → IsStep forms f g → IsStep forms f h → g ≡ h
step_one forms f _ _ (IsStep.reuses i j new a) (IsStep.reuses k l new_too b) = next_one forms f i j k l new new_too a b
step_one forms f _ _ (IsStep.reuses i j new a) (IsStep.drops q none b) = absurd (none i j new a.repeats)
step_one forms f _ _ (IsStep.drops p none a) (IsStep.reuses k l new_too b) = absurd (none k l new_too b.repeats)
step_one forms f _ _ (IsStep.drops p none a) (IsStep.drops q none_too b) = ap (without f) (first_one f p q a b)

-- ---- all of them

none_steps : (forms : List Entry) (f g : Function) → NoneRepeats forms f → NoneDead f → IsStep forms f g → ⊥
none_steps forms f _ repeats dead (IsStep.reuses i j new a) = repeats i j new a.repeats
none_steps forms f _ repeats dead (IsStep.drops p none a) = dead p a.dead

-- where there is neither no step is made
none_follow : (forms : List Entry) (m : ℕ) (f h : Function) → NoneRepeats forms f → NoneDead f → Steps forms m f h → (0 ≡ m) × (f ≡ h)
none_follow forms _ _ _ repeats dead (Steps.none f) = (refl, refl)
none_follow forms _ _ _ repeats dead (Steps.step m f g h one more) = absurd (none_steps forms f g repeats dead one)

-- what follows a step
step_follows : (forms : List Entry) (m : ℕ) (f g h : Function) → IsStep forms f g → NoneRepeats forms h → NoneDead h → Steps forms m f h → (n : ℕ) × (m ≡ suc n) × Steps forms n g h
step_follows forms _ _ g _ one repeats dead (Steps.none f) = absurd (none_steps forms f g repeats dead one)
step_follows forms _ _ g _ one repeats dead (Steps.step m f k h two more) = (m, refl, subst (λ s. Steps forms m s h) (step_one forms f k g two one) more)

steps_one : (forms : List Entry) (n m : ℕ) (f g h : Function) → Steps forms n f g → NoneRepeats forms g → NoneDead g → Steps forms m f h → NoneRepeats forms h → NoneDead h → (n ≡ m) × (g ≡ h)
steps_one forms _ m _ _ h (Steps.none f) repeats dead others left alive = none_follow forms m f h repeats dead others
steps_one forms _ m _ _ h (Steps.step n f k g one more) repeats dead others left alive =
    let rest = step_follows forms m f k h one left alive others in
    let both = steps_one forms n rest.0 k g h more repeats dead rest.2 left alive in
    (ap suc both.0 ∙ sym rest.1, both.1)

-- so many steps, and one function
pub reused_one : (forms : List Entry) (n m : ℕ) (f g h : Function) → Reused forms n f g → Reused forms m f h → (n ≡ m) × (g ≡ h)
reused_one forms n m f g h a b = steps_one forms n m f g h a.steps a.none_repeats a.none_dead b.steps b.none_repeats b.none_dead
