-- The operands that a pattern has found are parts of what it matches: what holds of that, and of the parts of what it holds of, holds of each.
use Rattle.std.proofs.Common.{◌≡◌, ℕ, Bool, true, false, List, [], ◌∷◌, ◌++◌, Option, Some, None, refl, sym, ap, subst, ◌∙◌}
use Rattle.std.proofs.lemmas.Bool.{and_parts}
use Rattle.std.proofs.lemmas.Bool.Decides.{Decides-int_eq}
use Rattle.std.proofs.lemmas.List.{append-nil}
use Rattle.std.specs.List.{AllByRecursion, find, flat_map}
use Rattle.std.specs.Ordering.{int_eq}
use Rattle.std.specs.Prelude.{pos, cond, option_map, option_and_then}
use Rattle.law_operands_replaced.specs.rtx_tree.Operands.{operand_at}
use Rattle.law_operands_replaced.specs.rtx_tree.Tree.{RtxHead, head_of, kids_of, tree_of}
use Rattle.law_operands_replaced.specs.rtx_tree.declared.code.Code.{Code}
use Rattle.law_operands_replaced.specs.rtx_tree.declared.code.Code.TheVariants as code
use Rattle.law_operands_replaced.specs.rtx_tree.declared.tree.Rtx.{Rtx}
use Rattle.law_operands_replaced.proofs.rtx_tree.Trees.{kids_of-tree}
use Rattle.law_operands_replaced.specs.md_match.declared.role.Role.{Role}
use Rattle.law_operands_replaced.specs.md_match.declared.role.Role.TheVariants.{Operand, Operator, Itself}
use Rattle.law_operands_replaced.specs.md_match.Pattern.{Ops, role_of, placeholders, placeholders_as, gives, gives_number, operand_numbered, operand_of, instantiated}
use Rattle.law_operands_replaced.specs.md_match.Match.{IsAskedAs, IsAsked, MatchesOne}
use Rattle.law_operands_replaced.proofs.md_match.Instantiated.{each_made, made_operand, made_itself, made_operator, made_no_operator}
use Rattle.law_operands_replaced.proofs.md_match.Placeholders.{placeholders_out}
use Rattle.law_operands_fetched.proofs.SmallTrees.{tree_induction}

all_both : {A : Type 0} (R : A → Type 0) (xs ys : List A) → AllByRecursion R xs → AllByRecursion R ys → AllByRecursion R (xs ++ ys)
all_both R [] ys first second = second
all_both R (x ∷ xs) ys first second = (first.0, all_both R xs ys first.1 second)

-- what is found passes the test, and has what all have
found_one : {A : Type 0} (R : A → Type 0) (test : A → Bool) (xs : List A) (x : A) → find test xs ≡ Some x →
    AllByRecursion R xs → (test x ≡ true) × R x
found_one R test [] x at all = absurd (let no : ⊥ = cc in no)
found_one R test (y ∷ xs) x at all = by (test y) refl at all.0 (λ later. found_one R test xs x later all.1)
  where
    by : (b : Bool) → test y ≡ b → cond b (Some y) (find test xs) ≡ Some x → R y →
        (find test xs ≡ Some x → (test x ≡ true) × R x) → (test x ≡ true) × R x
    by true is at here later = let same : y ≡ x = cc in subst (λ x. (test x ≡ true) × R x) same (is, here)
    by false is at here later = later at

-- the parts of a tree that is made over them
record Over (p w : Rtx) (found : Ops) : Type 0 where
  parts : List Rtx
  made : each_made (kids_of p) found ≡ Some parts
  kids_are : kids_of w ≡ parts

over_by : (p w : Rtx) (found : Ops) (h : RtxHead) (o : Option (List Rtx)) → each_made (kids_of p) found ≡ o →
    option_map (tree_of h) o ≡ Some w → Over p w found
over_by p w found h None is at = absurd (let no : ⊥ = cc in no)
over_by p w found h (Some parts) is at = let same : tree_of h parts ≡ w = cc in
    record { parts = parts; made = is; kids_are = ap kids_of (sym same) ∙ kids_of-tree h parts }

operator_by : (p w : Rtx) (found : Ops) (o : Option Rtx) → role_of (head_of p).code ≡ Operator →
    operand_of p found ≡ o → instantiated p found ≡ Some w → Over p w found
operator_by p w found None role is at =
    absurd (let e : ◌≡◌ {A = Option Rtx} None (Some w) = sym (made_no_operator p found role is) ∙ at in let no : ⊥ = cc in no)
operator_by p w found (Some x) role is at = over_by p w found (head_of x) (each_made (kids_of p) found) refl
    (sym (made_operator p found x role is) ∙ at)

module _ (found : Ops) (H : Rtx → Type 0) (down : (x : Rtx) → H x → AllByRecursion H (kids_of x)) where
  -- what a placeholder makes has it
  abbrev MadeHas : Rtx → Type 0
  MadeHas q = (v : Rtx) → instantiated q found ≡ Some v → H v

  abbrev P : Rtx → Type 0
  P p = (w : Rtx) → instantiated p found ≡ Some w → H w → AllByRecursion MadeHas (placeholders p)

  one_is : (p w : Rtx) → instantiated p found ≡ Some w → H w → MadeHas p
  one_is p w made has v made' = let e : Some w ≡ Some v = sym made ∙ made' in let same : w ≡ v = cc in subst H same has

  each_by : (a : Option Rtx) (more : Option (List Rtx)) (xs : List Rtx) →
      option_and_then (λ x. option_map (λ xs. x ∷ xs) more) a ≡ Some xs →
      (x : Rtx) × ((rest : List Rtx) × ((a ≡ Some x) × ((more ≡ Some rest) × (x ∷ rest ≡ xs))))
  each_by None more xs at = absurd (let no : ⊥ = cc in no)
  each_by (Some x) None xs at = absurd (let no : ⊥ = cc in no)
  each_by (Some x) (Some rest) xs at = (x, (rest, (refl, (refl, (let e : x ∷ rest ≡ xs = cc in e)))))

  kids_have : (ps xs : List Rtx) → each_made ps found ≡ Some xs → AllByRecursion P ps → AllByRecursion H xs →
      AllByRecursion MadeHas (flat_map placeholders ps)
  kids_have [] xs made each has = tt
  kids_have (p ∷ ps) xs made each has =
      let k = each_by (instantiated p found) (each_made ps found) xs made in
      let all : AllByRecursion H (k.0 ∷ k.1.0) = subst (AllByRecursion H) (sym k.1.1.1.1) has in
      all_both MadeHas (placeholders p) (flat_map placeholders ps) (each.0 k.0 k.1.1.0 all.0) (kids_have ps k.1.0 k.1.1.1.0 each.1 all.1)

  over_have : (p w : Rtx) → AllByRecursion P (kids_of p) → Over p w found → H w → AllByRecursion MadeHas (flat_map placeholders (kids_of p))
  over_have p w each over has = kids_have (kids_of p) over.parts over.made each (subst (AllByRecursion H) over.kids_are (down w has))

  role_by : (r : Role) (p : Rtx) → role_of (head_of p).code ≡ r → AllByRecursion P (kids_of p) → (w : Rtx) →
      instantiated p found ≡ Some w → H w →
      AllByRecursion MadeHas (placeholders_as r p (flat_map placeholders (kids_of p)))
  role_by Operand p role each w made has = (one_is p w made has, tt)
  role_by Operator p role each w made has = (
    one_is p w made has,
    over_have p w each
        (operator_by p w found (operand_of p found) role refl made) has,
  )
  role_by Itself p role each w made has =
      over_have p w each (over_by p w found (head_of p) (each_made (kids_of p) found) refl (sym (made_itself p found role) ∙ made)) has

  all_have : (p : Rtx) → P p
  all_have = tree_induction P (λ p each w made has. subst (AllByRecursion MadeHas) (sym (placeholders_out p))
      (role_by (role_of (head_of p).code) p refl each w made has))

  -- ---- the operands

  number_is : (p : Rtx) (k : ℕ) → int_eq (head_of p).number (pos k) ≡ true → operand_of p found ≡ operand_at found k
  number_is p k is = ap (operand_numbered found) ((Decides-int_eq (head_of p).number (pos k)).0 is)

  giver_by : (c : Code) (p : Rtx) (was : Rtx) → (head_of p).code ≡ c → gives c ≡ true → IsAskedAs c found p →
      operand_of p found ≡ Some was → instantiated p found ≡ Some was
  giver_by code.MatchOperand p was is gives_it asked at = made_operand p found (ap role_of is) ∙ at
  giver_by code.MatchScratch p was is gives_it asked at = made_operand p found (ap role_of is) ∙ at
  giver_by code.MatchOperator p was is gives_it asked at = sym asked ∙ at
  giver_by _ p was is gives_it asked at = absurd (let no : ⊥ = cc in no)

  first_of : (o : Option Rtx) (more : List Rtx) (w : Rtx) → option_and_then (λ x. option_map (λ xs. x ∷ xs) (Some []))
      o ≡ Some (w ∷ []) → o ≡ Some w
  first_of None more w at = absurd (let no : ⊥ = cc in no)
  first_of (Some x) more w at = let same : x ≡ w = cc in ap Some same

  -- where the whole has it, each operand has it
  pub operand_has : (pattern w p was : Rtx) (k : ℕ) → MatchesOne pattern w found → H w →
      find (gives_number k) (placeholders pattern) ≡ Some p →
      operand_at found k ≡ Some was → H was
  operand_has pattern w p was k matches has giver at =
      let whole : instantiated pattern found ≡ Some w = first_of (instantiated pattern found) [] w matches.made in
      let asked : AllByRecursion (IsAsked found) (placeholders pattern) =
      subst (AllByRecursion (IsAsked found)) (append-nil (placeholders pattern)) matches.suits.asked in
      let first = found_one MadeHas (gives_number k) (placeholders pattern) p giver (all_have pattern w whole has) in
      let second = found_one (IsAsked found) (gives_number k) (placeholders pattern) p giver asked in
      let both = and_parts (gives (head_of p).code) (int_eq (head_of p).number (pos k)) first.0 in
      first.1 was (giver_by (head_of p).code p was refl both.0 second.1 (number_is p k both.1 ∙ at))
