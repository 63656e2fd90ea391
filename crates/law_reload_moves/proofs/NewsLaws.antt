-- Which operand a new tree is for.
use Rattle.std.proofs.Common.{◌≡◌, ◌≢◌, ◌⊎◌, ⊎_elim, inl, inr, ℕ, zero, suc, eqb, if◌then◌else◌, Bool, true, false, List, [], ◌∷◌, ◌++◌, Option, Some, None, refl, sym, ap, subst, ◌∙◌, arith}
use Rattle.std.proofs.lemmas.Bool.Decides.{nat_tests}
use Rattle.std.specs.List.{flat_map}
use Rattle.std.specs.Option.{option_map_or}
use Rattle.std.specs.Prelude.{ℤ, pos, negsuc, slice_get}
use Rattle.law_operands_fetched.specs.rtx_tree.Operands.{operand_at, put_at}
use Rattle.law_operands_fetched.specs.rtx_tree.declared.tree.Rtx.{Rtx}
use Rattle.law_operands_fetched.specs.md_match.Pattern.{Ops, operand_numbered}
use Rattle.law_operands_fetched.specs.assign.declared.home.HomeOf.{HomeOf}
use Rattle.law_operands_fetched.specs.assign.declared.places.Layout.{Layout}
use Rattle.law_operands_fetched.specs.reload_operands.Operands.{giver, at_both, operand_for, operand_with, numbers_of, operands_of}
use Rattle.law_operands_fetched.specs.reload_operands.declared.operand.Operand.{Operand}
use Rattle.law_operands_fetched.specs.reload_moves.declared.ask.Ask.{Ask}
use Rattle.law_operands_fetched.specs.reload_moves.declared.part.Part.{Part}
use Rattle.law_operands_fetched.specs.reload_choice.Insns.{new_tree, with_new, with_part, with_parts, news_of}

-- ---- what is put in among operands

pub put_cases : (o : Ops) (n : ℕ) (t : Rtx) (k : ℕ) (r : Rtx) → operand_at (put_at o n t) k ≡ Some r →
    ((k ≡ n) × (t ≡ r)) ⊎ ((k ≢ n) × (operand_at o k ≡ Some r))
put_cases [] zero t zero r is = inl (refl, let same : t ≡ r = cc in same)
put_cases [] zero t (suc k) r is = absurd (let none : ⊥ = cc in none)
put_cases [] (suc n) t zero r is = absurd (let none : ⊥ = cc in none)
put_cases [] (suc n) t (suc k) r is = ⊎_elim (λ (here : (k ≡ n) × (t ≡ r)). inl (ap suc here.0, here.1))
    (λ (was : (k ≢ n) × (operand_at [] k ≡ Some r)). absurd (let none : ⊥ = let e = was.1 in cc in none)) (put_cases [] n t k r is)
put_cases (o ∷ os) zero t zero r is = inl (refl, let same : t ≡ r = cc in same)
put_cases (o ∷ os) zero t (suc k) r is = inr ((λ e. omega (arith, e)), is)
put_cases (o ∷ os) (suc n) t zero r is = inr ((λ e. omega (arith, e)), is)
put_cases (o ∷ os) (suc n) t (suc k) r is = ⊎_elim (λ (here : (k ≡ n) × (t ≡ r)). inl (ap suc here.0, here.1))
    (λ (was : (k ≢ n) × (operand_at os k ≡ Some r)). inr ((λ e. was.0 (omega (arith, e))), was.1)) (put_cases os n t k r is)

pub put_none : (o : Ops) (n : ℕ) (t : Rtx) (k : ℕ) → operand_at (put_at o n t) k ≡ None → (k ≢ n) × (operand_at o k ≡ None)
put_none [] zero t zero is = absurd (let no : ⊥ = cc in no)
put_none [] zero t (suc k) is = ((λ e. omega (arith, e)), refl)
put_none [] (suc n) t zero is = ((λ e. omega (arith, e)), refl)
put_none [] (suc n) t (suc k) is = let rest = put_none [] n t k is in ((λ e. rest.0 (omega (arith, e))), refl)
put_none (o ∷ os) zero t zero is = absurd (let no : ⊥ = cc in no)
put_none (o ∷ os) zero t (suc k) is = ((λ e. omega (arith, e)), is)
put_none (o ∷ os) (suc n) t zero is = ((λ e. omega (arith, e)), is)
put_none (o ∷ os) (suc n) t (suc k) is = let rest = put_none os n t k is in ((λ e. rest.0 (omega (arith, e))), rest.1)

-- ---- what is new for the operands of some parts

-- the place of a part, where it is moved
abbrev pub moved_place : Part → Option ℕ
moved_place p = if p.is_moved then Some p.place else None

abbrev pub new_result : Part → Option Rtx → Option ℕ → Option ℕ
new_result p None was = was
new_result p (Some r) was = moved_place p

module _ (asks : List Ask) (operands : List Operand) where
  abbrev pub result_of : Part → ℕ → Option ℕ → Operand → Option ℕ
  result_of p k was x = if eqb x.number k then new_result p (new_tree asks p x) was else was

  abbrev pub result_with : ℕ → Option ℕ → Part → Option ℕ
  result_with k was p = option_map_or (result_of p k was) (slice_get operands p.place) was

  -- the place of the part that is moved for the operand with a number
  abbrev pub result_in : ℕ → Option ℕ → List Part → Option ℕ
  result_in k was [] = was
  result_in k was (p ∷ ps) = result_in k (result_with k was p) ps

  abbrev pub result_numbered : List Part → ℤ → Option ℕ
  result_numbered parts (pos k) = result_in k None parts
  result_numbered parts (negsuc k) = None

  -- a part whose operand has a number and a new tree
  pub record IsNewFor (parts : List Part) (number : ℕ) (r : Rtx) (result : Option ℕ) : Type 0 where
    pub at : ℕ
    pub p : Part
    pub x : Operand
    pub stands : slice_get parts at ≡ Some p
    pub of : slice_get operands p.place ≡ Some x
    pub number_is : x.number ≡ number
    pub new_is : new_tree asks p x ≡ Some r
    pub result_is : result ≡ moved_place p

  -- it is new now, or was before
  abbrev Cases : Ops → Part → Operand → ℕ → Rtx → Option ℕ → Option ℕ → Type 0
  Cases news p x k r was result = ((x.number ≡ k) × ((new_tree asks p x ≡ Some r) × (result ≡ moved_place p))) ⊎ ((operand_at news k ≡ Some r) × (result ≡ was))

  if_same : (b : Bool) (was : Option ℕ) → (if b then was else was) ≡ was
  if_same true was = refl
  if_same false was = refl

  with_cases : (news : Ops) (p : Part) (x : Operand) (tree : Option Rtx) (k : ℕ) (r : Rtx) (was : Option ℕ) → new_tree asks p x ≡ tree →
      operand_at (with_new news x tree) k ≡ Some r → Cases news p x k r was (if eqb x.number k then new_result p tree was else was)
  with_cases news p x None k r was made is = inr (is, if_same (eqb x.number k) was)
  with_cases news p x (Some t) k r was made is = ⊎_elim
      (λ (here : (k ≡ x.number) × (t ≡ r)).
      let same : x.number ≡ k = sym here.0 in
      let yes' : eqb x.number k ≡ true = grind (arith, nat_tests, same) in
      inl (same, (made ∙ ap Some here.1, ap (λ b. if b then moved_place p else was) yes')))
      (λ (before : (k ≢ x.number) × (operand_at news k ≡ Some r)).
      let differ : k ≢ x.number = before.0 in
      let no' : eqb x.number k ≡ false = grind (arith, nat_tests, differ) in
      inr (before.1, ap (λ b. if b then moved_place p else was) no'))
      (put_cases news x.number t k r is)

  part_cases : (news : Ops) (p : Part) (o : Option Operand) (k : ℕ) (r : Rtx) (was : Option ℕ) → slice_get operands p.place ≡ o →
      operand_at (option_map_or (λ x. with_new news x (new_tree asks p x)) o news) k ≡ Some r →
      ((x : Operand) × ((slice_get operands p.place ≡ Some x) × ((x.number ≡ k) × ((new_tree asks p x ≡ Some r) × (option_map_or (result_of p k was) o was ≡ moved_place p)))))
      ⊎ ((operand_at news k ≡ Some r) × (option_map_or (result_of p k was) o was ≡ was))
  part_cases news p None k r was of is = inr (is, refl)
  part_cases news p (Some x) k r was of is = elim (with_cases news p x (new_tree asks p x) k r was refl is) [
    | inl here ↦ inl (x, (of, here))
    | inr before ↦ inr before
  ]

  one_later : (q : Part) (parts : List Part) (k : ℕ) (r : Rtx) (result : Option ℕ) → IsNewFor parts k r result → IsNewFor (q ∷ parts) k r result
  one_later q parts k r result is = record {
    at = suc is.at;
    p = is.p;
    x = is.x;
    stands = is.stands;
    of = is.of;
    number_is = is.number_is;
    new_is = is.new_is;
    result_is = is.result_is;
  }

  kept_result : (parts : List Part) (news : Ops) (k : ℕ) (r : Rtx) (was : Option ℕ) → operand_at (with_parts asks operands news parts) k ≡ Some r →
      IsNewFor parts k r (result_in k was parts) ⊎ ((operand_at news k ≡ Some r) × (result_in k was parts ≡ was))
  kept_result [] news k r was is = inr (is, refl)
  kept_result (p ∷ parts) news k r was is = elim (kept_result parts (with_part asks operands news p) k r (result_with k was p) is) [
    | inl more ↦ inl (one_later p parts k r (result_in k was (p ∷ parts)) more)
    | inr before ↦ elim (part_cases news p (slice_get operands p.place) k r was refl before.0) [
      | inl here ↦ inl (record {
        at = 0;
        p = p;
        x = here.0;
        stands = refl;
        of = here.1.0;
        number_is = here.1.1.0;
        new_is = here.1.1.1.0;
        result_is = before.1 ∙ here.1.1.1.1;
      })
      | inr earlier ↦ inr (earlier.0, before.1 ∙ earlier.1)
    ]
  ]

  none_yet : (k : ℕ) (r : Rtx) → operand_at [] k ≡ Some r → ⊥
  none_yet k r is = let none : ⊥ = cc in none

  -- a new tree is one of a part, for its operand
  pub new_for : (parts : List Part) (k : ℕ) (r : Rtx) → operand_at (news_of asks operands parts) k ≡ Some r → IsNewFor parts k r (result_in k None parts)
  new_for parts k r is = elim (kept_result parts [] k r None is) [
    | inl new ↦ new
    | inr was ↦ absurd (none_yet k r was.0)
  ]

  none_with : (news : Ops) (p : Part) (x : Operand) (tree : Option Rtx) (k : ℕ) (was : Option ℕ) → (operand_at news k ≡ None → was ≡ None) →
      operand_at (with_new news x tree) k ≡ None → (if eqb x.number k then new_result p tree was else was) ≡ None
  none_with news p x None k was before is = if_same (eqb x.number k) was ∙ before is
  none_with news p x (Some t) k was before is =
      let both = put_none news x.number t k is in
      let differ : k ≢ x.number = both.0 in
      let no' : eqb x.number k ≡ false = grind (arith, nat_tests, differ) in
      ap (λ b. if b then moved_place p else was) no' ∙ before both.1

  none_part : (news : Ops) (p : Part) (o : Option Operand) (k : ℕ) (was : Option ℕ) → (operand_at news k ≡ None → was ≡ None) →
      operand_at (option_map_or (λ x. with_new news x (new_tree asks p x)) o news) k ≡ None → option_map_or (result_of p k was) o was ≡ None
  none_part news p None k was before is = before is
  none_part news p (Some x) k was before is = none_with news p x (new_tree asks p x) k was before is

  none_parts : (parts : List Part) (news : Ops) (k : ℕ) (was : Option ℕ) → (operand_at news k ≡ None → was ≡ None) →
      operand_at (with_parts asks operands news parts) k ≡ None → result_in k was parts ≡ None
  none_parts [] news k was before is = before is
  none_parts (p ∷ parts) news k was before is =
      none_parts parts (with_part asks operands news p) k (result_with k was p) (λ none. none_part news p (slice_get operands p.place) k was before none) is

  -- a part that is moved, whose operand has a number
  pub record IsMovedAt (parts : List Part) (number j : ℕ) : Type 0 where
    pub at : ℕ
    pub p : Part
    pub x : Operand
    pub stands : slice_get parts at ≡ Some p
    pub of : slice_get operands p.place ≡ Some x
    pub number_is : x.number ≡ number
    pub moved : p.is_moved ≡ true
    pub place_is : p.place ≡ j

  moved_is : (p : Part) (j : ℕ) → moved_place p ≡ Some j → (p.is_moved ≡ true) × (p.place ≡ j)
  moved_is p j is = by p.is_moved refl
    where
      by : (b : Bool) → p.is_moved ≡ b → (p.is_moved ≡ true) × (p.place ≡ j)
      by true moved =
          let e : Some p.place ≡ Some j = sym (ap (λ b. if b then Some p.place else None) moved) ∙ is in (moved, let same : p.place ≡ j = cc in same)
      by false stays = absurd (let e : ◌≡◌ {A = Option ℕ} None (Some j) = sym (ap (λ b. if b then Some p.place else None) stays) ∙ is in let no : ⊥ = cc in no)

  moved_with : (p : Part) (x : Operand) (k j : ℕ) (was : Option ℕ) (tree : Option Rtx) (b : Bool) → eqb x.number k ≡ b → (if b then new_result p tree was else was) ≡ Some j →
      ((x.number ≡ k) × ((p.is_moved ≡ true) × (p.place ≡ j))) ⊎ (was ≡ Some j)
  moved_with p x k j was None true same is = inr is
  moved_with p x k j was (Some r) true same is = inl ((let e : x.number ≡ k = grind (arith, nat_tests, same) in e), moved_is p j is)
  moved_with p x k j was tree false same is = inr is

  later_moved : (q : Part) (parts : List Part) (k j : ℕ) → IsMovedAt parts k j → IsMovedAt (q ∷ parts) k j
  later_moved q parts k j is = record {
    at = suc is.at;
    p = is.p;
    x = is.x;
    stands = is.stands;
    of = is.of;
    number_is = is.number_is;
    moved = is.moved;
    place_is = is.place_is;
  }

  moved_part : (p : Part) (o : Option Operand) (k j : ℕ) (was : Option ℕ) → slice_get operands p.place ≡ o → option_map_or (result_of p k was) o was ≡ Some j →
      ((x : Operand) × ((slice_get operands p.place ≡ Some x) × ((x.number ≡ k) × ((p.is_moved ≡ true) × (p.place ≡ j))))) ⊎ (was ≡ Some j)
  moved_part p None k j was of is = inr is
  moved_part p (Some x) k j was of is = elim (moved_with p x k j was (new_tree asks p x) (eqb x.number k) refl is) [
    | inl here ↦ inl (x, (of, here))
    | inr before ↦ inr before
  ]

  moved_parts : (parts : List Part) (k j : ℕ) (was : Option ℕ) → result_in k was parts ≡ Some j → IsMovedAt parts k j ⊎ (was ≡ Some j)
  moved_parts [] k j was is = inr is
  moved_parts (p ∷ parts) k j was is = elim (moved_parts parts k j (result_with k was p) is) [
    | inl more ↦ inl (later_moved p parts k j more)
    | inr before ↦ elim (moved_part p (slice_get operands p.place) k j was refl before) [
      | inl here ↦ inl (record {
        at = 0;
        p = p;
        x = here.0;
        stands = refl;
        of = here.1.0;
        number_is = here.1.1.0;
        moved = here.1.1.1.0;
        place_is = here.1.1.1.1;
      })
      | inr earlier ↦ inr earlier
    ]
  ]

  -- what is moved for a number
  pub moved_for : (parts : List Part) (k j : ℕ) → result_in k None parts ≡ Some j → IsMovedAt parts k j
  moved_for parts k j is = elim (moved_parts parts k j None is) [
    | inl found ↦ found
    | inr none ↦ absurd (let no : ⊥ = cc in no)
  ]

  -- where nothing is new nothing is moved
  pub none_moved : (parts : List Part) (number : ℤ) → operand_numbered (news_of asks operands parts) number ≡ None → result_numbered parts number ≡ None
  none_moved parts (pos k) is = none_parts parts [] k None (λ none. refl) is
  none_moved parts (negsuc k) is = refl

-- ---- the operands of a match

module _ (pattern : Rtx) (found : Ops) (placed with_homes : Rtx) (homes : List HomeOf) (layout : Layout) where
  -- by the placeholder that gives it, and the tree that stands for it
  pub record IsOperandOf (x : Operand) : Type 0 where
    pub form : Rtx
    pub was : Rtx
    pub given_by : giver pattern x.number ≡ Some form
    pub found_is : operand_at found x.number ≡ Some was
    pub operand_is : x ≡ operand_for pattern placed with_homes homes layout x.number form was

  numbered : (k : ℕ) (form was : Rtx) (x : Operand) → giver pattern k ≡ Some form → operand_at found k ≡ Some was →
      operand_for pattern placed with_homes homes layout k form was ≡ x → IsOperandOf x
  numbered k form was x given is same = subst IsOperandOf same (record {
    form = form;
    was = was;
    given_by = given;
    found_is = is;
    operand_is = refl;
  })

  some_of : (ks : List ℕ) (i : ℕ) (x : Operand) →
      slice_get (flat_map (operand_with pattern found placed with_homes homes layout) ks) i ≡ Some x → IsOperandOf x
  some_of [] i x is = absurd (let none : ⊥ = cc in none)
  some_of (k ∷ ks) i x is = by (giver pattern k) (operand_at found k) i refl refl is (λ i is. some_of ks i x is)
    where
      by : (form was : Option Rtx) (i : ℕ) → giver pattern k ≡ form → operand_at found k ≡ was →
          slice_get (at_both (operand_for pattern placed with_homes homes layout k) form was ++ flat_map (operand_with pattern found placed with_homes homes layout) ks) i ≡ Some x →
          ((i : ℕ) → slice_get (flat_map (operand_with pattern found placed with_homes homes layout) ks) i ≡ Some x → IsOperandOf x) → IsOperandOf x
      by None was i given at is rest = rest i is
      by (Some form) None i given at is rest = rest i is
      by (Some form) (Some was) zero given at is rest =
          numbered k form was x given at (let same : operand_for pattern placed with_homes homes layout k form was ≡ x = cc in same)
      by (Some form) (Some was) (suc i) given at is rest = rest i is

  pub operand_of_match : (i : ℕ) (x : Operand) → slice_get (operands_of pattern found placed with_homes homes layout) i ≡ Some x → IsOperandOf x
  operand_of_match i x is = some_of (numbers_of pattern) i x is
