-- What a pattern takes stands in the tree that it matches, with homes put in, or in a low part.
use Rattle.std.proofs.Common.{◌≡◌, ◌≢◌, ◌⊎◌, inl, inr, ℕ, ◌==◌, ◌&&◌, ◌||◌, not, Bool, true, false, List, [], ◌∷◌, ◌++◌, length, map, Option, Some, None, refl, sym, ap, subst, ◌∙◌, arith}
use Rattle.std.proofs.lemmas.Bool.{and_parts, or_cases, or_left, or_right}
use Rattle.std.proofs.lemmas.Bool.Decides.{Decides-int_eq, nat_tests}
use Rattle.std.specs.Int.{cast_unsigned, w64}
use Rattle.std.specs.List.{AllByRecursion, flat_map, list_all, list_any}
use Rattle.std.specs.Ordering.{int_eq}
use Rattle.std.specs.Prelude.{ℤ, pos, negsuc}
use Rattle.law_operands_fetched.specs.rtx_tree.Operands.{operand_at}
use Rattle.law_operands_fetched.specs.rtx_tree.Tree.{head_of, kids_of}
use Rattle.law_operands_fetched.specs.rtx_tree.declared.code.Code.{Code}
use Rattle.law_operands_fetched.specs.rtx_tree.declared.code.Code.TheVariants as code
use Rattle.law_operands_fetched.specs.rtx_tree.declared.tree.Rtx.{Rtx}
use Rattle.law_operands_fetched.proofs.rtl_func.AllPass as nodes
use Rattle.law_operands_fetched.proofs.rtl_func.AllPass.{all_pass}
use Rattle.law_operands_fetched.specs.md_constr.Inputs.{operand_here, taken_in}
use Rattle.law_operands_fetched.proofs.md_match.Instantiated.{made_operand}
use Rattle.law_operands_fetched.proofs.md_match.Placeholders.{placeholders_out}
use Rattle.law_operands_fetched.specs.md_match.Match.{IsAsked, IsAskedAs}
use Rattle.law_operands_fetched.specs.md_match.Pattern.{Ops, role_of, placeholders, placeholders_as, operand_of, operand_numbered, instantiated}
use Rattle.law_operands_fetched.specs.md_match.declared.role.Role.{Role}
use Rattle.law_operands_fetched.specs.md_match.declared.role.Role.TheVariants.{Operand, Operator, Itself}
use Rattle.law_operands_fetched.specs.assign.declared.home.HomeOf.{HomeOf}
use Rattle.law_operands_fetched.specs.assign.declared.places.Layout.{Layout}
use Rattle.law_operands_fetched.specs.reload_homes.Homes.{homed}
use Rattle.law_operands_fetched.specs.reload_operands.Directions.{has_number}
use Rattle.law_operands_fetched.specs.reload_operands.Put.{is_inside, inside_low}
use Rattle.law_operands_fetched.proofs.reload_operands.InsideLaws.{inside_operand, inside_operator}
use Rattle.law_operands_fetched.proofs.reload_operands.NumberLaws.{takes_out}
use Rattle.law_operands_fetched.specs.law_operands_replaced.Places.{AtOnePlace, first, later, At, here, inside, is_leaf, is_leaf_as, is_empty}
use Rattle.law_reload_moves.proofs.Matched.{IsPlace, made_by, made_length, alone}

-- ---- lists

all_split : {A : Type 0} (P : A → Type 0) (xs ys : List A) → AllByRecursion P (xs ++ ys) → AllByRecursion P xs × AllByRecursion P ys
all_split P [] ys a = (tt, a)
all_split P (x ∷ xs) ys a = let rest = all_split P xs ys a.1 in ((a.0, rest.0), rest.1)

-- one of some trees that passes a test, and the one at its place in another list
pub record Found (test : Rtx → Bool) (ps xs : List Rtx) : Type 0 where
  pub p : Rtx
  pub x : Rtx
  pub at : AtOnePlace ps xs p x
  pub is : test p ≡ true

pub found_at : (test : Rtx → Bool) (ps xs : List Rtx) → length ps ≡ length xs → list_any test ps ≡ true → Found test ps xs
found_at test [] xs long is = absurd (let no : ⊥ = cc in no)
found_at test (p ∷ ps) [] long is = absurd (omega (arith, long))
found_at test (p ∷ ps) (x ∷ xs) long is = elim (or_cases (test p) (list_any test ps) is) [
  | inl yes' ↦ record { p = p; x = x; at = first p x ps xs; is = yes' }
  | inr more ↦
      let rest = found_at test ps xs (let fewer : length ps ≡ length xs = omega (arith, long) in fewer) more in
      record { p = rest.p; x = rest.x; at = later rest.p rest.x p x ps xs rest.at; is = rest.is }
]

pub each_asked : (P : Rtx → Type 0) (ps xs : List Rtx) (q y : Rtx) → AtOnePlace ps xs q y → AllByRecursion P (flat_map placeholders ps) → AllByRecursion P (placeholders q)
each_asked P _ _ _ _ (first p x ps xs) all = (all_split P (placeholders p) (flat_map placeholders ps) all).0
each_asked P _ _ _ _ (later p x q y ps xs more) all = each_asked P ps xs p x more (all_split P (placeholders q) (flat_map placeholders ps) all).1

pub each_leaf : (ps xs : List Rtx) (q y : Rtx) → AtOnePlace ps xs q y → list_all (all_pass is_leaf) ps ≡ true → all_pass is_leaf q ≡ true
each_leaf _ _ _ _ (first p x ps xs) all = (and_parts (all_pass is_leaf p) _ all).0
each_leaf _ _ _ _ (later p x q y ps xs more) all = each_leaf ps xs p x more (and_parts (all_pass is_leaf q) _ all).1

abbrev pub is_operator_as : Code → Bool
is_operator_as code.MatchOperator = true
is_operator_as _ = false

-- ---- numbers

pub same_numbers : (k n : ℕ) → (n == k) || false ≡ true → n ≡ k
same_numbers k n is = grind (arith, nat_tests, is)

-- the placeholder of an operand with a number; an operator with it
abbrev pub is_operator_of : ℕ → Rtx → Bool
is_operator_of k q = is_operator_as (head_of q).code && int_eq (head_of q).number (pos k)

-- it is no operator with a number
abbrev pub no_operator_of : ℕ → Rtx → Bool
no_operator_of k q = not (is_operator_of k q)

abbrev pub IsPlaceOf : ℕ → Rtx → Type 0
IsPlaceOf k q = ((role_of (head_of q).code ≡ Operand) × ((head_of q).number ≡ pos k)) ⊎ (is_operator_of k q ≡ true)

pub place_of_taken : (c : Code) (k : ℕ) (q : Rtx) → (head_of q).code ≡ c → has_number k (operand_here c (head_of q).number) ≡ true → (head_of q).number ≡ pos k → IsPlaceOf k q
place_of_taken code.MatchOperand k q is has same = inl (ap role_of is, same)
place_of_taken code.MatchDup k q is has same = inl (ap role_of is, same)
place_of_taken code.MatchScratch k q is has same = inl (ap role_of is, same)
place_of_taken code.MatchOperator k q is has same = inr (ap (λ c. is_operator_as c && int_eq (head_of q).number (pos k)) is ∙ (Decides-int_eq (head_of q).number (pos k)).1 same)
place_of_taken _ k q is has same = absurd (let no : ⊥ = cc in no)

-- what passes within a pattern passes at each part that stands somewhere
pub at_pass : (test : Rtx → Bool) (p x q y : Rtx) → At p x q y → all_pass test p ≡ true → test q ≡ true
at_pass test _ _ _ _ (here p x) all = nodes.itself test p all
at_pass test _ _ _ _ (inside p x q y r z other long at more) all = at_pass test q y r z more (one (kids_of p) (kids_of x) q y at (nodes.within test p all))
  where
    one : (ps xs : List Rtx) (q y : Rtx) → AtOnePlace ps xs q y → list_all (all_pass test) ps ≡ true → all_pass test q ≡ true
    one _ _ _ _ (first p x ps xs) all = (and_parts (all_pass test p) _ all).0
    one _ _ _ _ (later p x q y ps xs more) all = one ps xs p x more (and_parts (all_pass test q) _ all).1

module _ (homes : List HomeOf) (layout : Layout) (found : Ops) where
  abbrev hm : Rtx → Rtx
  hm = homed homes layout

  -- the tree of the operand with a number stands somewhere
  pub record StandsThere (p x : Rtx) (k : ℕ) : Type 0 where
    pub q : Rtx
    pub y : Rtx
    pub at : At p x q y
    pub was : Rtx
    pub found_is : operand_at found k ≡ Some was
    pub tree_is : y ≡ hm was
    pub place : IsPlaceOf k q

  -- the number of an operand that is there
  there_number : (n : ℤ) (k : ℕ) (w : Rtx) → operand_numbered found n ≡ Some w → has_number k (cast_unsigned w64 n ∷ []) ≡ true → n ≡ pos k
  there_number (pos j) k w is has = ap pos (same_numbers k j has)
  there_number (negsuc j) k w is has = absurd (let no : ⊥ = cc in no)

  -- what a pattern takes itself
  pub taken_itself : (c : Code) (p w : Rtx) (k : ℕ) → (head_of p).code ≡ c → instantiated p found ≡ Some w → AllByRecursion (IsAsked found) (placeholders p) →
      has_number k (operand_here c (head_of p).number) ≡ true → (operand_numbered found (head_of p).number ≡ Some w) × ((head_of p).number ≡ pos k)
  taken_itself code.MatchOperand p w k is made asked has =
      let o = sym (made_operand p found (ap role_of is)) ∙ made in (o, there_number (head_of p).number k w o has)
  taken_itself code.MatchDup p w k is made asked has =
      let o = sym (made_operand p found (ap role_of is)) ∙ made in (o, there_number (head_of p).number k w o has)
  taken_itself code.MatchScratch p w k is made asked has =
      let o = sym (made_operand p found (ap role_of is)) ∙ made in (o, there_number (head_of p).number k w o has)
  taken_itself code.MatchOperator p w k is made asked has =
      let list : placeholders p ≡ p ∷ flat_map placeholders (kids_of p) =
      placeholders_out p ∙ ap (λ r. placeholders_as r p (flat_map placeholders (kids_of p))) (ap role_of is) in
      let mine : IsAsked found p = (subst (AllByRecursion (IsAsked found)) list asked).0 in
      let same : operand_of p found ≡ instantiated p found = subst (λ c. IsAskedAs c found p) is mine in
      let o = same ∙ made in (o, there_number (head_of p).number k w o has)
  taken_itself _ p w k is made asked has = absurd (let no : ⊥ = cc in no)

  pub asked_kids : (p : Rtx) → role_of (head_of p).code ≢ Operand → AllByRecursion (IsAsked found) (placeholders p) → AllByRecursion (IsAsked found) (flat_map placeholders (kids_of p))
  asked_kids p other asked = by (role_of (head_of p).code) refl
    where
      list_by : (r : Role) → role_of (head_of p).code ≡ r → placeholders p ≡ placeholders_as r p (flat_map placeholders (kids_of p))
      list_by r is = placeholders_out p ∙ ap (λ r. placeholders_as r p (flat_map placeholders (kids_of p))) is

      by : (r : Role) → role_of (head_of p).code ≡ r → AllByRecursion (IsAsked found) (flat_map placeholders (kids_of p))
      by Operand is = absurd (other is)
      by Operator is = (subst (AllByRecursion (IsAsked found)) (list_by Operator is) asked).1
      by Itself is = subst (AllByRecursion (IsAsked found)) (list_by Itself is) asked

  is_at : (k : ℕ) (number : ℤ) → number ≡ pos k → is_inside k number true ≡ true
  is_at k number is = (Decides-int_eq number (pos k)).1 is

  pub empty : (ps : List Rtx) → is_empty ps ≡ true → ps ≡ []
  empty [] is = refl
  empty (p ∷ ps) is = absurd (let no : ⊥ = cc in no)

  short : (ps : List Rtx) → length ps ≡ 0 → ps ≡ []
  short [] is = refl
  short (p ∷ ps) is = absurd (omega (arith, is))

  -- what stands for a tree without parts has none
  pub no_parts : (q inner : Rtx) → instantiated q found ≡ Some inner → kids_of inner ≡ [] → all_pass is_leaf q ≡ true → kids_of q ≡ []
  no_parts q inner made none leaf = by (role_of (head_of q).code) refl
    where
      others_none : role_of (head_of q).code ≢ Operand → kids_of q ≡ []
      others_none other =
          let m = made_by homes layout found (role_of (head_of q).code) (operand_of q found) q inner refl other refl made in
          short (kids_of q) (made_length homes layout found (kids_of q) m.parts m.made ∙ ap length (sym m.kids_are ∙ none))

      by : (r : Role) → role_of (head_of q).code ≡ r → kids_of q ≡ []
      by Operand is = empty (kids_of q) (ap (λ r. is_leaf_as r (kids_of q)) (sym is) ∙ nodes.itself is_leaf q leaf)
      by Operator is = others_none (λ o. let no : Operator ≡ Operand = sym is ∙ o in let never : ⊥ = cc in never)
      by Itself is = others_none (λ o. let no : Itself ≡ Operand = sym is ∙ o in let never : ⊥ = cc in never)

  -- what is taken by what stands for a register alone
  pub low_taken : (q inner : Rtx) (k : ℕ) → instantiated q found ≡ Some inner → kids_of inner ≡ [] → AllByRecursion (IsAsked found) (placeholders q) →
      all_pass is_leaf q ≡ true → has_number k (taken_in q) ≡ true → inside_low k q true inner ≡ true
  low_taken q inner k made none asked leaf has = elim (or_cases (has_number k (operand_here (head_of q).code (head_of q).number)) _ (sym (takes_out k q) ∙ has)) [
    | inl mine ↦
        let t = taken_itself (head_of q).code q inner k refl made asked mine in by (role_of (head_of q).code) refl mine t.1
    | inr others ↦ absurd (let no : false ≡ true = sym (ap (list_any (λ part. has_number k (taken_in part))) (no_parts q inner made none leaf)) ∙ others in let never : ⊥ = cc in never)
  ]
    where
      itself_none : (c : Code) (n : ℤ) → role_of c ≡ Itself → has_number k (operand_here c n) ≡ true → ⊥
      itself_none code.MatchOperand n is has = let no : ⊥ = cc in no
      itself_none code.MatchDup n is has = let no : ⊥ = cc in no
      itself_none code.MatchScratch n is has = let no : ⊥ = cc in no
      itself_none code.MatchOperator n is has = let no : ⊥ = cc in no
      itself_none _ n is has = let no : ⊥ = cc in no

      by : (r : Role) → role_of (head_of q).code ≡ r → has_number k (operand_here (head_of q).code (head_of q).number) ≡ true → (head_of q).number ≡ pos k → inside_low k q true inner ≡ true
      by Operand is mine same = inside_operand k q true inner is ∙ is_at k (head_of q).number same
      by Operator is mine same = inside_operator k q true inner is ∙ or_left (is_inside k (head_of q).number true) _ (is_at k (head_of q).number same)
      by Itself is mine same = absurd (itself_none (head_of q).code (head_of q).number is mine)
