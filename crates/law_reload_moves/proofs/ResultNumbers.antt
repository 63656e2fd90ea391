-- What is moved for the number of an operand is its part: no two operands have one number.
use Rattle.std.proofs.Common.{◌≡◌, ◌≢◌, ◌⊎◌, inl, inr, ℕ, zero, suc, ◌+◌, ◌<◌, eqb, if◌then◌else◌, get_or, length, Bool, true, false, List, [], ◌∷◌, map, Option, Some, None, refl, sym, ap, subst, ◌∙◌, arith}
use Rattle.std.proofs.lemmas.Bool.Decides.{nat_tests}
use Rattle.std.specs.List.Sorted.{IsStrictlyIncreasing}
use Rattle.std.specs.Option.{option_map_or}
use Rattle.std.specs.Prelude.{slice_get}
use Rattle.law_operands_fetched.specs.rtx_tree.Tree.{reg_of}
use Rattle.law_operands_fetched.specs.rtx_tree.declared.tree.Rtx.{Rtx}
use Rattle.law_operands_fetched.specs.md_match.Pattern.{Ops}
use Rattle.law_operands_fetched.specs.assign.declared.home.HomeOf.{HomeOf}
use Rattle.law_operands_fetched.specs.assign.declared.places.Layout.{Layout}
use Rattle.law_operands_fetched.proofs.reload_operands.RisingLaws.{operands_increase}
use Rattle.law_operands_fetched.specs.reload_operands.Operands.{operands_of}
use Rattle.law_operands_fetched.specs.reload_operands.declared.operand.Operand.{Operand}
use Rattle.law_operands_fetched.specs.reload_moves.Moves.{own_of, base_of, far_of}
use Rattle.law_operands_fetched.specs.reload_moves.declared.ask.Ask.{Ask}
use Rattle.law_operands_fetched.specs.reload_moves.declared.part.Part.{Part}
use Rattle.law_operands_fetched.specs.reload_choice.Insns.{new_tree}
use Rattle.law_operands_fetched.specs.reload_choice.reload_fit.Addressed.{on_register}
use Rattle.std.specs.Prelude.{is_some}
use Rattle.law_reload_moves.proofs.NewsLaws.{new_result, result_of, result_with, result_in}

-- ---- increasing numbers

rises_tail : (n : ℕ) (ns : List ℕ) → IsStrictlyIncreasing (n ∷ ns) → IsStrictlyIncreasing ns
rises_tail n ns rises k less =
    let next : suc (k + 1) ≡ suc k + 1 = omega arith in
    subst (λ j. get_or ns k 0 < get_or (n ∷ ns) j 0) (sym next) (rises (suc k) (omega (arith, less)))

below_all : (n : ℕ) (ns : List ℕ) → IsStrictlyIncreasing (n ∷ ns) → (j b : ℕ) → slice_get ns j ≡ Some b → n < b
below_all n [] rises j b is = absurd (let no : ⊥ = cc in no)
below_all n (m ∷ ns) rises zero b is =
    let same : m ≡ b = cc in subst (λ b. n < b) same (rises 0 (omega arith))
below_all n (m ∷ ns) rises (suc j) b is =
    let first : n < m = rises 0 (omega arith) in
    let rest : m < b = below_all m ns (rises_tail n (m ∷ ns) rises) j b is in omega (arith, first, rest)

one_place : (ns : List ℕ) → IsStrictlyIncreasing ns → (i j a : ℕ) → slice_get ns i ≡ Some a → slice_get ns j ≡ Some a → i ≡ j
one_place [] rises i j a is is' = absurd (let no : ⊥ = cc in no)
one_place (n ∷ ns) rises zero zero a is is' = refl
one_place (n ∷ ns) rises zero (suc j) a is is' =
    let same : n ≡ a = cc in let less : n < a = below_all n ns rises j a is' in absurd (omega (arith, same, less))
one_place (n ∷ ns) rises (suc i) zero a is is' =
    let same : n ≡ a = cc in let less : n < a = below_all n ns rises i a is in absurd (omega (arith, same, less))
one_place (n ∷ ns) rises (suc i) (suc j) a is is' = ap suc (one_place ns (rises_tail n ns rises) i j a is is')

mapped : (xs : List Operand) (i : ℕ) (x : Operand) → slice_get xs i ≡ Some x → slice_get (map (λ (o : Operand). o.number) xs) i ≡ Some x.number
mapped [] i x is = absurd (let no : ⊥ = cc in no)
mapped (y ∷ xs) zero x is = let same : y ≡ x = cc in ap (λ (o : Operand). Some o.number) same
mapped (y ∷ xs) (suc i) x is = mapped xs i x is

-- operands with one number are at one place
pub one_number : (pattern : Rtx) (found : Ops) (placed with_homes : Rtx) (homes : List HomeOf) (layout : Layout) (i j : ℕ) (x y : Operand) →
    slice_get (operands_of pattern found placed with_homes homes layout) i ≡ Some x → slice_get (operands_of pattern found placed with_homes homes layout) j ≡ Some y →
    x.number ≡ y.number → i ≡ j
one_number pattern found placed with_homes homes layout i j x y is is' same =
    let xs = operands_of pattern found placed with_homes homes layout in
    one_place (map (λ (o : Operand). o.number) xs) (operands_increase pattern found placed with_homes homes layout) i j x.number (mapped xs i x is)
    (mapped xs j y is' ∙ ap Some (sym same))

-- ---- what is moved for a number

module _ (asks : List Ask) (operands : List Operand) (n : ℕ) where
  other_with : (was : Option ℕ) (p : Part) → ((y : Operand) → slice_get operands p.place ≡ Some y → y.number ≢ n) → result_with asks operands n was p ≡ was
  other_with was p differ = by (slice_get operands p.place) refl
    where
      by : (o : Option Operand) → slice_get operands p.place ≡ o → option_map_or (result_of asks operands p n was) o was ≡ was
      by None is = refl
      by (Some y) is =
          let differs = differ y is in
          let e : eqb y.number n ≡ false = grind (arith, nat_tests, differs) in
          ap (λ b. if b then new_result p (new_tree asks p y) was else was) e

  others_in : (parts : List Part) (was : Option ℕ) → ((j : ℕ) (q : Part) (y : Operand) → slice_get parts j ≡ Some q → slice_get operands q.place ≡ Some y → y.number ≢ n) →
      result_in asks operands n was parts ≡ was
  others_in [] was differ = refl
  others_in (p ∷ ps) was differ = others_in ps (result_with asks operands n was p) (λ j q y at of. differ (suc j) q y at of) ∙
      other_with was p (λ y of. differ 0 p y refl of)

  here_with : (was : Option ℕ) (p : Part) (x : Operand) → slice_get operands p.place ≡ Some x → x.number ≡ n → p.is_moved ≡ true → result_with asks operands n was p ≡ Some p.place
  here_with was p x of number moved =
      let e : eqb x.number n ≡ true = grind (arith, nat_tests, number) in
      ap (λ o. option_map_or (result_of asks operands p n was) o was) of ∙ ap (λ b. if b then new_result p (new_tree asks p x) was else was) e ∙
      ap (λ b. new_result p (if b then Some (reg_of x.mode (own_of asks p)) else if p.needs.has_base then Some (on_register (base_of asks p) x)
      else if is_some p.needs.far then Some (on_register (far_of asks p) x) else None) was) moved ∙ ap (λ b. if b then Some p.place else None) moved

  pub found_in : (parts : List Part) (was : Option ℕ) (i : ℕ) (p : Part) (x : Operand) → slice_get parts i ≡ Some p → slice_get operands p.place ≡ Some x → x.number ≡ n →
      p.is_moved ≡ true → ((j : ℕ) (q : Part) (y : Operand) → slice_get parts j ≡ Some q → slice_get operands q.place ≡ Some y → y.number ≡ n → j ≡ i) →
      result_in asks operands n was parts ≡ Some p.place
  found_in [] was i p x at of number moved alone = absurd (let no : ⊥ = cc in no)
  found_in (q ∷ ps) was zero p x at of number moved alone =
      let same : q ≡ p = cc in
      others_in ps (result_with asks operands n was q) (λ j r y at' of' number'. let e = alone (suc j) r y at' of' number' in omega (arith, e)) ∙
      ap (result_with asks operands n was) same ∙ here_with was p x of number moved
  found_in (q ∷ ps) was (suc i) p x at of number moved alone =
      found_in ps (result_with asks operands n was q) i p x at of number moved
      (λ j r y at' of' number'. let e = alone (suc j) r y at' of' number' in omega (arith, e))
