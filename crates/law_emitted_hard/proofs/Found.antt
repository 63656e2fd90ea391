-- The operands with which patterns match instructions are parts of these: where the instructions name registers of the machine alone, so do they.
use Rattle.std.proofs.Common.{◌≡◌, ℕ, inl, inr, true, false, List, [], ◌∷◌, ◌++◌, Option, Some, None, refl, sym, ap, subst, ◌∙◌}
use Rattle.std.proofs.lemmas.Bool.{false≢true, and_parts, or_cases}
use Rattle.std.proofs.lemmas.Bool.Decides.{Decides-int_eq}
use Rattle.std.specs.List.{AllByRecursion, flat_map, list_any}
use Rattle.std.specs.Ordering.{int_eq}
use Rattle.std.specs.Prelude.{pos, option_map, option_and_then, is_some}
use Rattle.rtx_tree.specs.Operands.{operand_at}
use Rattle.rtx_tree.specs.Tree.{RtxHead, head_of, kids_of, tree_of}
use Rattle.rtx_tree.specs.declared.code.Code.{Code}
use Rattle.rtx_tree.specs.declared.code.Code.TheVariants as code
use Rattle.rtx_tree.specs.declared.tree.Rtx.{Rtx}
use Rattle.rtx_tree.proofs.Trees.{kids_of-tree}
use Rattle.md_match.specs.declared.role.Role.{Role}
use Rattle.md_match.specs.declared.role.Role.TheVariants.{Operand, Operator, Itself}
use Rattle.md_match.specs.Pattern.{Ops, role_of, placeholders, placeholders_as, gives, gives_number, operand_numbered, operand_of, instantiated}
use Rattle.md_match.specs.Match.{IsAskedAs, IsAsked, Matches}
use Rattle.md_match.proofs.Instantiated.{each_made, made_operand, made_itself, made_operator, made_no_operator}
use Rattle.md_match.proofs.Placeholders.{placeholders_out}
use Rattle.law_emitted_hard.specs.Hard.{IsHard, AreHard, OperandsHard}
use Rattle.law_emitted_hard.proofs.Trees.{induction, hard_kids}
use Rattle.law_emitted_hard.proofs.Operands.{each_number}

all_both : {A : Type 0} (R : A → Type 0) (xs ys : List A) → AllByRecursion R xs → AllByRecursion R ys → AllByRecursion R (xs ++ ys)
all_both R [] ys first second = second
all_both R (x ∷ xs) ys first second = (first.0, all_both R xs ys first.1 second)

module _ (found : Ops) where
  -- ---- the parts of a tree that is made over them

  record Over (p w : Rtx) : Type 0 where
    parts : List Rtx
    made : each_made (kids_of p) found ≡ Some parts
    kids_are : kids_of w ≡ parts

  over_by : (p w : Rtx) (h : RtxHead) (o : Option (List Rtx)) → each_made (kids_of p) found ≡ o → option_map (tree_of h) o ≡ Some w → Over p w
  over_by p w h None is at = absurd (let no : ⊥ = cc in no)
  over_by p w h (Some parts) is at = let same : tree_of h parts ≡ w = cc in
      record { parts = parts; made = is; kids_are = ap kids_of (sym same) ∙ kids_of-tree h parts }

  operator_by : (p w : Rtx) (o : Option Rtx) → role_of (head_of p).code ≡ Operator → operand_of p found ≡ o → instantiated p found ≡ Some w → Over p w
  operator_by p w None role is at =
      absurd (let e : ◌≡◌ {A = Option Rtx} None (Some w) = sym (made_no_operator p found role is) ∙ at in let no : ⊥ = cc in no)
  operator_by p w (Some x) role is at = over_by p w (head_of x) (each_made (kids_of p) found) refl (sym (made_operator p found x role is) ∙ at)

  -- ---- what placeholders make

  abbrev MadeHard : Rtx → Type 0
  MadeHard q = (v : Rtx) → instantiated q found ≡ Some v → IsHard v

  abbrev P : Rtx → Type 0
  P p = (w : Rtx) → instantiated p found ≡ Some w → IsHard w → AllByRecursion MadeHard (placeholders p)

  one_is : (p w : Rtx) → instantiated p found ≡ Some w → IsHard w → MadeHard p
  one_is p w made hard v made' = let e : Some w ≡ Some v = sym made ∙ made' in let same : w ≡ v = cc in subst IsHard same hard

  each_by : (a : Option Rtx) (more : Option (List Rtx)) (xs : List Rtx) → option_and_then (λ x. option_map (λ xs. x ∷ xs) more) a ≡ Some xs →
      (x : Rtx) × ((rest : List Rtx) × ((a ≡ Some x) × ((more ≡ Some rest) × (x ∷ rest ≡ xs))))
  each_by None more xs at = absurd (let no : ⊥ = cc in no)
  each_by (Some x) None xs at = absurd (let no : ⊥ = cc in no)
  each_by (Some x) (Some rest) xs at = (x, (rest, (refl, (refl, (let e : x ∷ rest ≡ xs = cc in e)))))

  kids_have : (ps xs : List Rtx) → each_made ps found ≡ Some xs → AllByRecursion P ps → AreHard xs → AllByRecursion MadeHard (flat_map placeholders ps)
  kids_have [] xs made each hard = tt
  kids_have (p ∷ ps) xs made each hard =
      let k = each_by (instantiated p found) (each_made ps found) xs made in
      let all : AreHard (k.0 ∷ k.1.0) = subst AreHard (sym k.1.1.1.1) hard in
      all_both MadeHard (placeholders p) (flat_map placeholders ps) (each.0 k.0 k.1.1.0 all.0) (kids_have ps k.1.0 k.1.1.1.0 each.1 all.1)

  over_have : (p w : Rtx) → AllByRecursion P (kids_of p) → Over p w → IsHard w → AllByRecursion MadeHard (flat_map placeholders (kids_of p))
  over_have p w each over hard = kids_have (kids_of p) over.parts over.made each (subst AreHard over.kids_are (hard_kids w hard))

  role_by : (r : Role) (p : Rtx) → role_of (head_of p).code ≡ r → AllByRecursion P (kids_of p) → (w : Rtx) → instantiated p found ≡ Some w → IsHard w →
      AllByRecursion MadeHard (placeholders_as r p (flat_map placeholders (kids_of p)))
  role_by Operand p role each w made hard = (one_is p w made hard, tt)
  role_by Operator p role each w made hard = (
    one_is p w made hard,
    over_have p w each (operator_by p w (operand_of p found) role refl made) hard,
  )
  role_by Itself p role each w made hard =
      over_have p w each (over_by p w (head_of p) (each_made (kids_of p) found) refl (sym (made_itself p found role) ∙ made)) hard

  all_have : (p : Rtx) → P p
  all_have = induction P (λ p each w made hard. subst (AllByRecursion MadeHard) (sym (placeholders_out p))
      (role_by (role_of (head_of p).code) p refl each w made hard))

  each_have : (ps : List Rtx) → AllByRecursion P ps
  each_have [] = tt
  each_have (p ∷ ps) = (all_have p, each_have ps)

  -- ---- the operand that a placeholder gives

  number_is : (p : Rtx) (k : ℕ) → int_eq (head_of p).number (pos k) ≡ true → operand_of p found ≡ operand_at found k
  number_is p k is = ap (operand_numbered found) ((Decides-int_eq (head_of p).number (pos k)).0 is)

  giver_by : (c : Code) (p was : Rtx) → (head_of p).code ≡ c → gives c ≡ true → IsAskedAs c found p → operand_of p found ≡ Some was → instantiated p found ≡ Some was
  giver_by code.MatchOperand p was is gives_it asked at = made_operand p found (ap role_of is) ∙ at
  giver_by code.MatchScratch p was is gives_it asked at = made_operand p found (ap role_of is) ∙ at
  giver_by code.MatchOperator p was is gives_it asked at = sym asked ∙ at
  giver_by _ p was is gives_it asked at = absurd (let no : ⊥ = cc in no)

  one_given : (k : ℕ) (y p : Rtx) → gives_number k p ≡ true → MadeHard p → IsAsked found p → operand_at found k ≡ Some y → IsHard y
  one_given k y p is made asked at =
      let both = and_parts (gives (head_of p).code) (int_eq (head_of p).number (pos k)) is in
      made y (giver_by (head_of p).code p y refl both.0 asked (number_is p k both.1 ∙ at))

  given_by : (k : ℕ) (y : Rtx) (ps : List Rtx) → list_any (gives_number k) ps ≡ true → AllByRecursion MadeHard ps → AllByRecursion (IsAsked found) ps →
      operand_at found k ≡ Some y → IsHard y
  given_by k y [] any made asked at = absurd (false≢true any)
  given_by k y (p ∷ ps) any made asked at = elim (or_cases (gives_number k p) (list_any (gives_number k) ps) any) [
    | inl here ↦ one_given k y p here made.0 asked.0 at
    | inr more ↦ given_by k y ps more made.1 asked.1 at
  ]

  pub found_hard : (patterns insns : List Rtx) → Matches patterns insns found → AreHard insns → OperandsHard found
  found_hard patterns insns matches hard =
      let made = kids_have patterns insns matches.made (each_have patterns) hard in
      each_number found (λ k y at. given_by k y (flat_map placeholders patterns) (matches.suits.given k (ap is_some at)) made matches.suits.asked at)
