-- What reload knows of the operands of an instruction is so, once homes are put in.
use Rattle.std.proofs.Common.{◌≡◌, ◌⊎◌, inl, inr, ℕ, zero, suc, ◌<◌, ◌^◌, ◌||◌, Bool, true, List, [], ◌∷◌, ◌++◌, slice_get, Option, Some, None, refl, sym, ap, subst, ◌∙◌}
use Rattle.std.proofs.lemmas.Bool.{and_parts}
use Rattle.std.specs.List.{AllByRecursion, flat_map, list_all, list_any}
use Rattle.law_operands_replaced.specs.rtx_tree.Operands.{operand_at}
use Rattle.law_operands_replaced.specs.rtx_tree.Tree.{head_of, kids_of, mentions_reg}
use Rattle.law_operands_replaced.specs.rtx_tree.declared.code.Mode.{Mode}
use Rattle.law_operands_replaced.specs.rtx_tree.declared.code.Mode.TheVariants.{Void, QI, HI, SI, DI}
use Rattle.law_operands_replaced.specs.rtx_tree.declared.tree.Rtx.{Rtx}
use Rattle.law_operands_replaced.specs.rtl_func.Shapes.{mode_at, is_shaped}
use Rattle.law_operands_replaced.proofs.rtl_func.AllPass.{all_pass, within}
use Rattle.law_operands_replaced.specs.rtl_step.Value.{width_of}
use Rattle.law_operands_replaced.specs.sym_insns.Shape.{all_natural}
use Rattle.assign.specs.declared.home.Home.TheVariants.{Slot}
use Rattle.assign.specs.declared.home.HomeOf.{HomeOf}
use Rattle.assign.specs.declared.places.Layout.{Layout}
use Rattle.law_operands_replaced.specs.md_match.Pattern.{Ops}
use Rattle.law_operands_replaced.specs.md_match.Match.{MatchesOne}
use Rattle.reload_homes.specs.Homes.{home_of, slot_offset, homed}
use Rattle.law_operands_replaced.specs.reload_operands.Bases.{base_of}
use Rattle.law_operands_replaced.specs.reload_operands.Operands.{numbers_of, giver, operand_for, at_both, operand_with, operands_of}
use Rattle.law_operands_replaced.specs.reload_operands.declared.operand.Base.{Base}
use Rattle.law_operands_replaced.specs.reload_operands.declared.operand.Operand.{Operand}
use Rattle.law_operands_fetched.proofs.FoundParts.{operand_has}
use Rattle.law_operands_fetched.proofs.GivenBases.{based_there, mode_there}
use Rattle.law_operands_fetched.proofs.HomedQuiet.{HasQuietHomes, homed_quiet}
use Rattle.law_operands_fetched.proofs.OnRegister.{IsOperand}
use Rattle.law_operands_fetched.proofs.SmallTrees.{natural_out, or_second, stands_part}
use Rattle.law_operands_replaced.specs.rtx_tree.Code.{mode_or}

-- ---- an item of lists that are put together

in_both : {A : Type 0} (xs ys : List A) (i : ℕ) (y : A) → slice_get (xs ++ ys) i ≡ Some y →
    ((j : ℕ) × (slice_get xs j ≡ Some y)) ⊎ ((j : ℕ) × (slice_get ys j ≡ Some y))
in_both [] ys i y at = inr (i, at)
in_both (x ∷ xs) ys zero y at = inl (zero, at)
in_both (x ∷ xs) ys (suc i) y at = by (in_both xs ys i y at)
  where
    by : ((j : ℕ) × (slice_get xs j ≡ Some y)) ⊎ ((j : ℕ) × (slice_get ys j ≡ Some y)) →
        ((j : ℕ) × (slice_get (x ∷ xs) j ≡ Some y)) ⊎ ((j : ℕ) × (slice_get ys j ≡ Some y))
    by (inl k) = inl (suc k.0, k.1)
    by (inr k) = inr k

in_one : {A B : Type 0} (f : A → List B) (xs : List A) (i : ℕ) (y : B) → slice_get (flat_map f xs) i ≡ Some y →
    (x : A) × ((j : ℕ) × (slice_get (f x) j ≡ Some y))
in_one f [] i y at = absurd (let no : ⊥ = cc in no)
in_one f (x ∷ xs) i y at = by (in_both (f x) (flat_map f xs) i y at) (λ j at. in_one f xs j y at)
  where
    by : ((j : ℕ) × (slice_get (f x) j ≡ Some y)) ⊎ ((j : ℕ) × (slice_get (flat_map f xs) j ≡ Some y)) →
        ((j : ℕ) → slice_get (flat_map f xs) j ≡ Some y → (x : _) × ((j : ℕ) × (slice_get (f x) j ≡ Some y))) →
        (x : _) × ((j : ℕ) × (slice_get (f x) j ≡ Some y))
    by (inl k) later = (x, k)
    by (inr k) later = later k.0 k.1

one_alone : {A : Type 0} (x y : A) (j : ℕ) → slice_get (x ∷ []) j ≡ Some y → x ≡ y
one_alone x y zero at = let same : x ≡ y = cc in same
one_alone x y (suc j) at = absurd (let no : ⊥ = cc in no)

-- an operand of a match
record IsOf (pattern : Rtx) (found : Ops) (f : ℕ → Rtx → Rtx → Operand) (x : Operand) : Type 0 where
  number : ℕ
  form : Rtx
  was : Rtx
  given_by : giver pattern number ≡ Some form
  found_is : operand_at found number ≡ Some was
  operand_is : f number form was ≡ x

both_by : (pattern : Rtx) (found : Ops) (f : ℕ → Rtx → Rtx → Operand) (k : ℕ) (o o' : Option Rtx) (j : ℕ)
    (x : Operand) → giver pattern k ≡ o → operand_at found k ≡ o' →
    slice_get (at_both (f k) o o') j ≡ Some x → IsOf pattern found f x
both_by pattern found f k None o' j x is is' at = absurd (let no : ⊥ = cc in no)
both_by pattern found f k (Some p) None j x is is' at = absurd (let no : ⊥ = cc in no)
both_by pattern found f k (Some p) (Some was) j x is is' at =
    record { number = k; form = p; was = was; given_by = is; found_is = is'; operand_is = one_alone (f k p was) x j at }

each_all : {A : Type 0} (test : A → Bool) (xs : List A) → list_all test xs ≡ true → AllByRecursion (λ x. test x ≡ true) xs
each_all test [] all = tt
each_all test (x ∷ xs) all = let both = and_parts (test x) _ all in (both.0, each_all test xs both.1)

module _ (homes : List HomeOf) (layout : Layout) (few : (reg : ℕ) → home_of homes reg ≡ Slot → slot_offset layout reg < 2 ^ 64)
    (shapes : (x : Rtx) → all_pass is_shaped x ≡ true → all_natural x ≡ true → all_pass is_shaped (homed homes layout x) ≡ true)
    (naturals : (x : Rtx) → all_pass is_shaped x ≡ true → all_natural x ≡ true → all_natural (homed homes layout x) ≡ true)
    (pattern w : Rtx) (found : Ops) (matches : MatchesOne pattern w found) (shaped : all_pass is_shaped w ≡ true)
    (natural : all_natural w ≡ true)
    (quiet : HasQuietHomes homes layout w) where
  -- a part of the instruction
  record IsPartOf (x : Rtx) : Type 0 where
    shape : all_pass is_shaped x ≡ true
    numbers : all_natural x ≡ true
    names : (reg : ℕ) → mentions_reg reg x ≡ true → mentions_reg reg w ≡ true

  parts_by : (xs : List Rtx) → AllByRecursion (λ x. all_pass is_shaped x ≡ true) xs → AllByRecursion (λ x. all_natural x ≡ true) xs →
      ((reg : ℕ) → list_any (mentions_reg reg) xs ≡ true → mentions_reg reg w ≡ true) → AllByRecursion IsPartOf xs
  parts_by [] shapes numbers names = tt
  parts_by (x ∷ xs) shapes numbers names = (
    record { shape = shapes.0; numbers = numbers.0; names = λ reg is. names reg (ap (λ b. b || list_any (mentions_reg reg) xs) is) },
    parts_by xs shapes.1 numbers.1 (λ reg is. names reg (or_second (mentions_reg reg x) _ is)),
  )

  down : (x : Rtx) → IsPartOf x → AllByRecursion IsPartOf (kids_of x)
  down x is = parts_by (kids_of x) (each_all (all_pass is_shaped) (kids_of x) (within is_shaped x is.shape))
      (each_all all_natural (kids_of x) (and_parts _ (list_all all_natural (kids_of x)) (sym (natural_out x) ∙ is.numbers)).1)
      (λ reg has. is.names reg (stands_part x reg has))

  part_is : (k : ℕ) (p was : Rtx) → giver pattern k ≡ Some p → operand_at found k ≡ Some was → IsPartOf was
  part_is k p was giver_is at = operand_has found IsPartOf down pattern w p was k matches
      (record { shape = shaped; numbers = natural; names = λ reg is. is }) giver_is at

  mode_by : (m other : Mode) → (width_of m ≡ width_of (mode_or m other)) ⊎ (width_of m ≡ None)
  mode_by Void other = inr refl
  mode_by QI other = inl refl
  mode_by HI other = inl refl
  mode_by SI other = inl refl
  mode_by DI other = inl refl

  one_is : (with_homes : Rtx) (k : ℕ) (p was : Rtx) → giver pattern k ≡ Some p → operand_at found k ≡ Some was →
      IsOperand (operand_for pattern w with_homes homes layout k p was)
  one_is with_homes k p was giver_is at =
      let part = part_is k p was giver_is at in
      let mode : mode_at (homed homes layout was) ≡ (head_of was).mode = mode_there homes layout few was in record {
        shaped = shapes was part.shape part.numbers;
        natural = naturals was part.shape part.numbers;
        quiet = homed_quiet homes layout was (λ reg hard has home. quiet reg hard (part.names reg has) home);
        mode = subst (λ m. (width_of m ≡ width_of (mode_or (head_of was).mode (head_of p).mode)) ⊎
            (width_of m ≡ None)) (sym mode) (mode_by (head_of was).mode (head_of p).mode);
        based = λ base is. based_there homes layout few was base is;
      }

  known : (with_homes : Rtx) (i : ℕ) (x : Operand) → slice_get (operands_of pattern found w with_homes homes layout) i ≡ Some x →
      IsOf pattern found (operand_for pattern w with_homes homes layout) x
  known with_homes i x at =
      let k = in_one (operand_with pattern found w with_homes homes layout) (numbers_of pattern) i x at in
      both_by pattern found (operand_for pattern w with_homes homes layout) k.0 (giver pattern k.0)
      (operand_at found k.0) k.1.0 x refl refl k.1.1

  -- each operand of the match
  pub operand_is : (with_homes : Rtx) (i : ℕ) (x : Operand) → slice_get
      (operands_of pattern found w with_homes homes layout) i ≡ Some x → IsOperand x
  operand_is with_homes i x at = let k = known with_homes i x at in
      subst IsOperand k.operand_is (one_is with_homes k.number k.form k.was k.given_by k.found_is)

  -- and its base, if it has one, is that of a tree
  pub base_is : (with_homes : Rtx) (i : ℕ) (x : Operand) (base : Base) →
      slice_get (operands_of pattern found w with_homes homes layout) i ≡ Some x → x.base ≡ Some base →
      (was : Rtx) × (base_of homes layout was ≡ Some base)
  base_is with_homes i x base at is = let k = known with_homes i x at in
      (k.was, ap (λ (x : Operand). x.base) k.operand_is ∙ is)
