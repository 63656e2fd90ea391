-- The parts of a tree that is no operand, with new trees put in.
use Rattle.std.proofs.Common.{◌≡◌, ◌≢◌, ℕ, suc, eqb, ◌==◌, if◌then◌else◌, Bool, true, false, List, [], ◌∷◌, length, map, Some, refl, sym, ap, subst, ◌∙◌, arith}
use Rattle.std.specs.List.{list_all}
use Rattle.std.specs.Prelude.{ℤ}
use Rattle.std.proofs.lemmas.Bool.{and_parts}
use Rattle.std.proofs.lemmas.Bool.Decides.{nat_tests}
use Rattle.std.proofs.lemmas.List.{length-map}
use Rattle.rtx_tree.proofs.Trees.{head_of-tree, kids_of-tree}
use Rattle.rtx_tree.specs.Tree.{head_of, kids_of, tree_of}
use Rattle.rtx_tree.specs.declared.tree.Rtx.{Rtx}
use Rattle.rtl_func.proofs.AllPass as nodes
use Rattle.rtl_func.proofs.AllPass.{all_pass}
use Rattle.md_match.specs.Pattern.{Ops, role_of}
use Rattle.md_match.specs.declared.role.Role.{Role}
use Rattle.md_match.specs.declared.role.Role.TheVariants.{Operand, Operator, Itself}
use Rattle.reload_operands.specs.Put.{each_by, parts_by, put}
use Rattle.reload_operands.proofs.PutLaws.{put_operator, put_itself}
use Rattle.law_operands_replaced.specs.Places.{AtOnePlace, first, later, part}
use Rattle.law_operands_replaced.proofs.Addresses.{all_same}
use Rattle.law_operands_replaced.proofs.NewTrees.{AllBecome, none, next, is_whole}
use Rattle.law_operands_replaced.proofs.Putting.{MayStand, put_becomes}

-- each part, with new trees put in
abbrev pub each_put : List Rtx → Ops → List (Rtx → Rtx)
each_put ps news = map (λ p. put p news) ps

-- it has kept its head, and its parts have become others
pub record IsOver (New : Rtx → Rtx → Type 0) (x y : Rtx) : Type 0 where
  pub head : head_of y ≡ head_of x
  pub parts : AllBecome New (kids_of x) (kids_of y)

-- what a tree with no operand of a pattern is with new trees put in
pub over_is : (p : Rtx) (news : Ops) (x : Rtx) → role_of (head_of p).code ≢ Operand →
    put p news x ≡ tree_of (head_of x) (parts_by (each_put (kids_of p) news) (kids_of x))
over_is p news x other = by (role_of (head_of p).code) refl other
  where
    by : (r : Role) → role_of (head_of p).code ≡ r → role_of (head_of p).code ≢ Operand →
        put p news x ≡ tree_of (head_of x) (parts_by (each_put (kids_of p) news) (kids_of x))
    by Operand is other = absurd (other is)
    by Operator is other = put_operator p news x is
    by Itself is other = put_itself p news x is

-- where it has as many parts as the pattern has there, each has the new trees put in
pub parts_are : (ps : List Rtx) (news : Ops) (xs : List Rtx) → length ps ≡ length xs → parts_by (each_put ps news) xs ≡ each_by (each_put ps news) xs
parts_are ps news xs long = ap (λ b. if b then each_by (each_put ps news) xs else xs)
    (let e : length (each_put ps news) ≡ length xs = length-map ps (λ p. put p news) ∙ long in
    let same : (length (each_put ps news) == length xs) ≡ true = grind (arith, nat_tests, e) in same)

pub parts_other : (ps : List Rtx) (news : Ops) (xs : List Rtx) → length ps ≢ length xs → parts_by (each_put ps news) xs ≡ xs
parts_other ps news xs differ = ap (λ b. if b then each_by (each_put ps news) xs else xs)
    (let e : length (each_put ps news) ≡ length ps = length-map ps (λ p. put p news) in
    let same : (length (each_put ps news) == length xs) ≡ false = grind (arith, nat_tests, e, differ) in same)

module _ (New : Rtx → Rtx → Type 0) (news : Ops) where
  abbrev May : Rtx → Rtx → Type 0
  May p x = MayStand New news p x

  each_over : (ps xs : List Rtx) → length ps ≡ length xs → ((q y : Rtx) → AtOnePlace ps xs q y → May q y) → list_all (all_pass is_whole) xs ≡ true →
      AllBecome New xs (each_by (each_put ps news) xs)
  each_over [] [] long may whole = none
  each_over [] (x ∷ xs) long may whole = absurd (omega (arith, long))
  each_over (p ∷ ps) [] long may whole = absurd (omega (arith, long))
  each_over (p ∷ ps) (x ∷ xs) long may whole =
      let both = and_parts (all_pass is_whole x) _ whole in
      next x (put p news x) xs (each_by (each_put ps news) xs)
      (put_becomes New news p x (may p x (first p x ps xs)) both.0)
      (each_over ps xs (let fewer : length ps ≡ length xs = omega (arith, long) in fewer)
      (λ q y at. may q y (later q y p x ps xs at)) both.1)

  -- what may stand in its places may stand in those of its parts
  pub may_part : (p x q y : Rtx) → role_of (head_of p).code ≢ Operand → length (kids_of p) ≡ length (kids_of x) → May p x →
      AtOnePlace (kids_of p) (kids_of x) q y → May q y
  may_part p x q y other long may at number z r stands has = may number z r (part p x q y z number other long at stands) has

  over_by : (as_many : Bool) (p x : Rtx) → eqb (length (kids_of p)) (length (kids_of x)) ≡ as_many → role_of (head_of p).code ≢ Operand → May p x →
      all_pass is_whole x ≡ true → AllBecome New (kids_of x) (parts_by (each_put (kids_of p) news) (kids_of x))
  over_by true p x is other may whole =
      let long : length (kids_of p) ≡ length (kids_of x) = grind (arith, nat_tests, is) in
      subst (AllBecome New (kids_of x)) (sym (parts_are (kids_of p) news (kids_of x) long))
      (each_over (kids_of p) (kids_of x) long (λ q y at. may_part p x q y other long may at) (nodes.within is_whole x whole))
  over_by false p x is other may whole =
      let differ : length (kids_of p) ≢ length (kids_of x) = λ e. (let same : eqb (length (kids_of p)) (length (kids_of x)) ≡ true = grind (arith, nat_tests, e) in
      let no : true ≡ false = sym same ∙ is in let never : ⊥ = cc in never) in
      subst (AllBecome New (kids_of x)) (sym (parts_other (kids_of p) news (kids_of x) differ)) (all_same New (kids_of x))

  -- a tree that is no operand keeps its head
  pub put_over : (p x : Rtx) → role_of (head_of p).code ≢ Operand → May p x → all_pass is_whole x ≡ true → IsOver New x (put p news x)
  put_over p x other may whole =
      let kids = parts_by (each_put (kids_of p) news) (kids_of x) in
      let is = over_is p news x other in record {
        head = ap head_of is ∙ head_of-tree (head_of x) kids;
        parts = subst (AllBecome New (kids_of x)) (sym (ap kids_of is ∙ kids_of-tree (head_of x) kids))
            (over_by (eqb (length (kids_of p)) (length (kids_of x))) p x refl other may whole);
      }
