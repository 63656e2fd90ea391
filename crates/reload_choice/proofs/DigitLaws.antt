-- What the fittings of operands say of them: each stands at its operand's place, and its digits
-- name operands, and say truly of which of
-- them it is the same.
use Rattle.std.proofs.Common.{◌≡◌, ℕ, zero, suc, ◌+◌, ◌<◌, ◌==◌, Bool, true, false, not, List, [], ◌∷◌, length, Option, Some, None, slice_get, refl, sym, ap, subst, ◌∙◌, arith}
use Rattle.std.specs.Prelude.{option_and_then}
use Rattle.std.specs.List.{cons_option}
use Rattle.std.specs.Option.{option_map, option_map_or}
use Rattle.std.proofs.lemmas.Bool.{and_parts}
use Rattle.c_eval.specs.Value.{same_tree}
use Rattle.c_eval.proofs.Same.{tree_is}
use Rattle.md_text.specs.declared.constraint.Member.{Member}
use Rattle.md_text.specs.declared.constraint.Alternative.{Alternative}
use Rattle.rtx_tree.specs.declared.tree.Rtx.{Rtx}
use Rattle.reload_operands.specs.declared.operand.Operand.{Operand}
use Rattle.reload_moves.specs.declared.fitting.Digit.{Digit}
use Rattle.reload_moves.specs.declared.fitting.Fitting.{Fitting}
use Rattle.reload_fit.specs.Fitting.{Asks, number_in, place_of, is_lone, is_same_at, digit_at, digit_of, digit_in, digits_among, digits_by, digits_of, fitting_at, fittings_from, fittings_of}
use Rattle.reload_moves.proofs.Bounds.{position_within}
use Rattle.reload_choice.proofs.RoundLaws.{InOrder}
use Rattle.reload_choice.proofs.HolderLaws.{EachDigit, IsWithin, AreWithin}

-- ---- trees that are the same

one_answer : (a b : Bool) → ((a ≡ b → ⊥) → ⊥) → a ≡ b
one_answer true true h = refl
one_answer false false h = refl
one_answer true false h = absurd (h (λ e. let never : ⊥ = cc in never))
one_answer false true h = absurd (h (λ e. let never : ⊥ = cc in never))

pub same_itself : (x : Rtx) → same_tree x x ≡ true
same_itself x = sym (tree_is x x true (λ t. refl, λ e. refl))

-- trees that are the same are the same as the same trees
same_alike : (x y z : Rtx) → same_tree x y ≡ true → same_tree y z ≡ same_tree x z
same_alike x y z same = one_answer (same_tree y z) (same_tree x z) (λ apart.
    let different : x ≡ y → ⊥ = λ e. apart (ap (λ (t : Rtx). same_tree t z) (sym e)) in
    let refused : false ≡ same_tree x y = tree_is x y false
    (λ t. absurd (let never : ⊥ = cc in never), λ e. absurd (different e)) in
    let never : ⊥ = cc in never)

-- ---- digits

each_weaker : (P Q : Digit → Type 0) → ((d : Digit) → P d → Q d) → (ds : List Digit) →
    EachDigit P ds → EachDigit Q ds
each_weaker P Q weaker [] each = tt
each_weaker P Q weaker (d ∷ ds) each = (weaker d each.0, each_weaker P Q weaker ds each.1)

each_with : (P : Digit → Type 0) (o : Option Digit) (ds : List Digit) →
    ((d : Digit) → o ≡ Some d → P d) → EachDigit P ds → EachDigit P (cons_option o ds)
each_with P None ds first rest = rest
each_with P (Some d) ds first rest = (first d refl, rest)

module _ (operands : List Operand) where
  -- a digit names an operand, and says truly whether it is the same, by whether its own is the same
  -- as none
  pub record IsTrueOf (lone : Bool) (x : Operand) (d : Digit) : Type 0 where
    pub within : d.place < length operands
    pub same : d.same ≡ is_same_at lone operands d.place x

  true_at : (lone : Bool) (x : Operand) (number k : ℕ) → place_of operands number ≡ Some k →
      IsTrueOf lone x (digit_at lone operands x k)
  true_at lone x number k at = record {
    within = omega (arith, position_within (λ y. y.number == number) operands 0 k at);
    same = refl;
  }

  true_of : (lone : Bool) (x : Operand) (number : ℕ) (d : Digit) →
      digit_of lone operands x number ≡ Some d → IsTrueOf lone x d
  true_of lone x number d is = split (place_of operands number) refl is
    where
      split : (o : Option ℕ) → place_of operands number ≡ o →
          option_map (digit_at lone operands x) o ≡ Some d → IsTrueOf lone x d
      split None none is = absurd (let never : ⊥ = cc in never)
      split (Some k) at is = let same : digit_at lone operands x k ≡ d = cc in
          subst (IsTrueOf lone x) same (true_at lone x number k at)

  true_in : (lone : Bool) (x : Operand) (m : Member) (d : Digit) →
      digit_in lone operands x m ≡ Some d → IsTrueOf lone x d
  true_in lone x m d is = split (number_in m) is
    where
      split : (o : Option ℕ) → option_and_then (digit_of lone operands x) o ≡ Some d →
          IsTrueOf lone x d
      split None is = absurd (let never : ⊥ = cc in never)
      split (Some n) is = true_of lone x n d is

  true_among : (lone : Bool) (x : Operand) (members : List Member) →
      EachDigit (IsTrueOf lone x) (digits_among lone operands x members)
  true_among lone x [] = tt
  true_among lone x (m ∷ ms) = each_with (IsTrueOf lone x) (digit_in lone operands x m)
      (digits_among lone operands x ms) (true_in lone x m) (true_among lone x ms)

  true_by : (asked : Option Alternative) (lone : Bool) (x : Operand) →
      EachDigit (IsTrueOf lone x) (digits_by asked lone operands x)
  true_by None lone x = tt
  true_by (Some a) lone x = true_among lone x a.members

  digits_true : (asked : Option Alternative) (x : Operand) →
      EachDigit (IsTrueOf (is_lone asked x) x) (digits_of asked operands x)
  digits_true asked x = true_by asked (is_lone asked x) x

-- ---- fittings

module _ (asks : Asks) (operands : List Operand) where
  abbrev lone_in : Operand → Bool
  lone_in x = is_lone (asks.asked x.number) x

  fitting_of : (xs : List Operand) (k i : ℕ) (f : Fitting) →
      slice_get (fittings_from asks operands k xs) i ≡ Some f →
      (x : Operand) × (slice_get xs i ≡ Some x) × (f ≡ fitting_at asks operands (k + i) x)
  fitting_of [] k i f at = absurd (let never : ⊥ = cc in never)
  fitting_of (x ∷ xs) k zero f at =
      let same : f ≡ fitting_at asks operands k x = cc in
      let here : k ≡ k + 0 = omega arith in
      (x, refl, same ∙ ap (λ (n : ℕ). fitting_at asks operands n x) here)
  fitting_of (x ∷ xs) k (suc i) f at =
      let rest = fitting_of xs (k + 1) i f at in
      let here : k + 1 + i ≡ k + suc i = omega arith in
      (rest.0, rest.1, rest.2 ∙ ap (λ (n : ℕ). fitting_at asks operands n rest.0) here)

  -- the fitting at a place is that of the operand there
  pub fitting_here : (i : ℕ) (f : Fitting) → slice_get (fittings_of asks operands) i ≡ Some f →
      (x : Operand) × (slice_get operands i ≡ Some x) × (f ≡ fitting_at asks operands i x)
  fitting_here i f at =
      let found = fitting_of operands 0 i f at in
      let here : 0 + i ≡ i = omega arith in
      (found.0, found.1, found.2 ∙ ap (λ (n : ℕ). fitting_at asks operands n found.0) here)

  fittings_long : (xs : List Operand) (k : ℕ) →
      length (fittings_from asks operands k xs) ≡ length xs
  fittings_long [] k = refl
  fittings_long (x ∷ xs) k = omega (arith, fittings_long xs (k + 1))

  pub as_many : length (fittings_of asks operands) ≡ length operands
  as_many = fittings_long operands 0

  pub in_order : InOrder (fittings_of asks operands)
  in_order i f at = ap (λ (g : Fitting). g.place) (fitting_here i f at).2

  -- what the digits of a fitting say of its operand
  each_true : (i : ℕ) (f : Fitting) → slice_get (fittings_of asks operands) i ≡ Some f →
      (x : Operand) → slice_get operands i ≡ Some x →
      EachDigit (IsTrueOf operands (lone_in x) x) f.digits
  each_true i f at x of =
      let found = fitting_here i f at in
      let same : found.0 ≡ x = let both : Some found.0 ≡ Some x = sym found.1 ∙ of in cc in
      subst (λ (g : Fitting). EachDigit (IsTrueOf operands (lone_in x) x) g.digits)
      (sym (found.2 ∙ ap (fitting_at asks operands i) same))
      (digits_true operands (asks.asked x.number) x)

  pub are_within : AreWithin (fittings_of asks operands)
  are_within i f at =
      let found = fitting_here i f at in
      each_weaker (IsTrueOf operands (lone_in found.0) found.0)
      (IsWithin (length (fittings_of asks operands)))
      (λ d is. omega (arith, is.within, as_many)) f.digits (each_true i f at found.0 found.1)

  -- whether the operand at a place is the same as a tree
  abbrev pub is_alike : Rtx → ℕ → Bool
  is_alike tree i = option_map_or (λ x. same_tree x.tree tree) (slice_get operands i) false

  alike_at : (tree : Rtx) (x : Operand) (o : Option Operand) →
      option_map_or (λ y. same_tree x.tree y.tree) o false ≡ true →
      option_map_or (λ y. same_tree y.tree tree) o false ≡ same_tree x.tree tree
  alike_at tree x None same = absurd (let never : ⊥ = cc in never)
  alike_at tree x (Some y) same = same_alike x.tree y.tree tree same

  alike_by : (tree : Rtx) (i : ℕ) (x : Operand) → slice_get operands i ≡ Some x → (d : Digit) →
      IsTrueOf operands (lone_in x) x d → d.same ≡ true →
      is_alike tree d.place ≡ is_alike tree i
  alike_by tree i x of d is same =
      let tests = and_parts (not (lone_in x)) (option_map_or (λ y. same_tree x.tree y.tree)
      (slice_get operands d.place) false) (sym is.same ∙ same) in
      alike_at tree x (slice_get operands d.place) tests.1 ∙
      sym (ap (λ (o : Option Operand). option_map_or (λ y. same_tree y.tree tree) o false) of)

  -- an operand and one that a digit of it names as the same are the same as the same trees
  pub are_alike : (tree : Rtx) (i : ℕ) (f : Fitting) →
      slice_get (fittings_of asks operands) i ≡ Some f →
      EachDigit (λ d. d.same ≡ true → is_alike tree d.place ≡ is_alike tree i) f.digits
  are_alike tree i f at =
      let found = fitting_here i f at in
      each_weaker (IsTrueOf operands (lone_in found.0) found.0)
      (λ d. d.same ≡ true → is_alike tree d.place ≡ is_alike tree i)
      (alike_by tree i found.0 found.1) f.digits (each_true i f at found.0 found.1)
