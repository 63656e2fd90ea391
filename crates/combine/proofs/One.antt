-- What comes of combination is one.
use Rattle.std.proofs.Common.{◌≡◌, ⊎_elim, ℕ, suc, ◌<◌, ◌≤◌, List, [], ◌∷◌, Option, Some, refl, sym, ap, subst, ◌∙◌, arith}
use Rattle.std.specs.Prelude.{slice_get}
use Rattle.rtx_tree.specs.declared.tree.Rtx.{Rtx}
use Rattle.rtx_tree.specs.declared.function.Insn.{Insn}
use Rattle.rtx_tree.specs.declared.function.Function.{Function}
use Rattle.rtx_tree.specs.Tree.{kids_of}
use Rattle.insn_fuse.specs.Fused.{set_of, reads_at, fused}
use Rattle.md_forms.specs.declared.form.Entry.{Entry}
use Rattle.combine.specs.Combine.{Links, Makes, Combines, NoneLeft, combined_at, IsStep, Steps, Combined}

pub some_one : {A : Type 0} (o : Option A) (x y : A) → o ≡ Some x → o ≡ Some y → x ≡ y
some_one o x y is too = cc

only_one : {A : Type 0} (xs : List A) (x y : A) → xs ≡ x ∷ [] → xs ≡ y ∷ [] → x ≡ y
only_one xs x y is too = cc

-- the register and the path of a pair are one
pub register_one : (f : Function) (i j : ℕ) (r s : ℕ) (p q : List ℕ) → Links f i j r p → Links f i j s q → r ≡ s
register_one f i j r s p q a b =
    let one = some_one (slice_get f.insns i) a.one b.one a.at_first b.at_first in
    some_one (set_of b.one) r s (ap set_of (sym one) ∙ a.sets) b.sets

pub path_one : (f : Function) (i j : ℕ) (r s : ℕ) (p q : List ℕ) → Links f i j r p → Links f i j s q → p ≡ q
path_one f i j r s p q a b =
    let other = some_one (slice_get f.insns j) a.other b.other a.at_second b.at_second in
    let register = register_one f i j r s p q a b in
    only_one (reads_at s b.other.pattern) p q
    (ap (λ n. reads_at n b.other.pattern) (sym register) ∙ (ap (λ (n : Insn). reads_at r n.pattern) (sym other) ∙ a.once)) b.once

-- and so is what they make
pub made_one : (forms : List Entry) (f : Function) (i j : ℕ) (p : List ℕ) (x y : Rtx) → Makes forms f i j p x → Makes forms f i j p y → x ≡ y
made_one forms f i j p x y a b =
    let one = some_one (slice_get f.insns i) a.one b.one a.at_first b.at_first in
    let other = some_one (slice_get f.insns j) a.other b.other a.at_second b.at_second in
    let source = some_one (slice_get (kids_of b.one.pattern) 1) a.source b.source (ap (λ (n : Insn). slice_get (kids_of n.pattern) 1) (sym one) ∙ a.source_is) b.source_is in
    a.made ∙ (ap (λ (n : Insn). fused n.pattern p a.source) other ∙ (ap (fused b.other.pattern p) source ∙ sym b.made))

pattern_one : (forms : List Entry) (f : Function) (i j : ℕ) (x y : Rtx) → Combines forms f i j x → Combines forms f i j y → x ≡ y
pattern_one forms f i j x y a b =
    let path = path_one f i j a.register b.register a.path b.path a.links b.links in
    made_one forms f i j b.path x y (subst (λ p. Makes forms f i j p x) path a.makes) b.makes

module _ (forms : List Entry) (f g h : Function) (a : IsStep forms f g) (b : IsStep forms f h) where
  same_second : a.second ≡ b.second
  same_second = ⊎_elim
      (λ (before : a.second < b.second). ⊎_elim
      (λ (behind : b.second < a.second). absurd (omega (arith, before, behind)))
      (λ (same : (b.second ≡ a.second) × (a.first ≤ b.first)). sym same.0)
      (b.chosen a.first a.second a.pattern a.combines))
      (λ (same : (a.second ≡ b.second) × (b.first ≤ a.first)). same.0)
      (a.chosen b.first b.second b.pattern b.combines)

  upto : b.first ≤ a.first
  upto = ⊎_elim
      (λ (before : a.second < b.second). let same = same_second in absurd (omega (arith, before, same)))
      (λ (same : (a.second ≡ b.second) × (b.first ≤ a.first)). same.1)
      (a.chosen b.first b.second b.pattern b.combines)

  upto_too : a.first ≤ b.first
  upto_too = ⊎_elim
      (λ (before : b.second < a.second). let same = same_second in absurd (omega (arith, before, same)))
      (λ (same : (b.second ≡ a.second) × (a.first ≤ b.first)). same.1)
      (b.chosen a.first a.second a.pattern a.combines)

  step_one : g ≡ h
  step_one =
      let low = upto in
      let high = upto_too in
      let first : a.first ≡ b.first = omega (arith, low, high) in
      let moved = subst (λ j. Combines forms f b.first j a.pattern) same_second (subst (λ i. Combines forms f i a.second a.pattern) first a.combines) in
      let pattern = pattern_one forms f b.first b.second a.pattern b.pattern moved b.combines in
      a.makes
      ∙ (ap (λ i. combined_at f i a.second a.pattern) first
      ∙ (ap (λ j. combined_at f b.first j a.pattern) same_second
      ∙ (ap (combined_at f b.first b.second) pattern ∙ sym b.makes)))

-- where none is left no step is made
none_follow : (forms : List Entry) (m : ℕ) (f h : Function) → NoneLeft forms f → Steps forms m f h → (0 ≡ m) × (f ≡ h)
none_follow forms _ _ _ none (Steps.none f) = (refl, refl)
none_follow forms _ _ _ none (Steps.step m f g h one more) = absurd (none one.first one.second one.pattern one.combines)

-- what follows a step
step_follows : (forms : List Entry) (m : ℕ) (f g h : Function) → IsStep forms f g → NoneLeft forms h → Steps forms m f h → (n : ℕ) × (m ≡ suc n) × Steps forms n g h
step_follows forms _ _ g _ one none (Steps.none f) = absurd (none one.first one.second one.pattern one.combines)
step_follows forms _ _ g _ one none (Steps.step m f k h two more) = (m, refl, subst (λ s. Steps forms m s h) (step_one forms f k g two one) more)

steps_one : (forms : List Entry) (n m : ℕ) (f g h : Function) → Steps forms n f g → NoneLeft forms g → Steps forms m f h → NoneLeft forms h → (n ≡ m) × (g ≡ h)
steps_one forms _ m _ _ h (Steps.none f) none others left = none_follow forms m f h none others
steps_one forms _ m _ _ h (Steps.step n f k g one more) none others left =
    let rest = step_follows forms m f k h one left others in
    let both = steps_one forms n rest.0 k g h more none rest.2 left in
    (ap suc both.0 ∙ sym rest.1, both.1)

-- so many steps, and one function
pub combined_one : (forms : List Entry) (n m : ℕ) (f g h : Function) → Combined forms n f g → Combined forms m f h → (n ≡ m) × (g ≡ h)
combined_one forms n m f g h a b = steps_one forms n m f g h a.0 a.1 b.0 b.1
