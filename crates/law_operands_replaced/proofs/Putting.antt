-- What stands where new trees are put in the places of a pattern's operands.
use Rattle.std.proofs.Common.{◌≡◌, ◌≢◌, ℕ, suc, ◌==◌, if◌then◌else◌, Bool, true, false, List, [], ◌∷◌, length, map, Option, Some, None, refl, sym, ap, subst, ◌∙◌, arith}
use Rattle.std.specs.Prelude.{ℤ, unwrap_or}
use Rattle.std.specs.List.{list_all}
use Rattle.std.proofs.lemmas.Bool.{and_parts}
use Rattle.std.proofs.lemmas.Bool.Decides.{nat_tests}
use Rattle.rtx_tree.specs.Tree.{head_of, kids_of, tree_of}
use Rattle.rtx_tree.specs.declared.tree.Rtx.{Rtx, roll-Rtx, out-roll-Rtx}
use Rattle.rtx_tree.specs.declared.tree.Rtx.TheFolds.{fold-roll-Rtx, ind-Rtx, map-Rtx}
use Rattle.rtx_tree.specs.declared.tree.Rtx.TheOpen.{Rtx-F}
use Rattle.rtx_tree.proofs.Trees.{tree_of-parts, head_of-tree, kids_of-tree}
use Rattle.rtl_func.proofs.AllPass as nodes
use Rattle.rtl_func.proofs.AllPass.{all_pass}
use Rattle.md_match.specs.declared.role.Role.{Role}
use Rattle.md_match.specs.declared.role.Role.TheVariants.{Operand, Operator, Itself}
use Rattle.md_match.specs.Pattern.{Ops, role_of, operand_numbered}
use Rattle.reload_operands.specs.Put.{each_by, parts_by, put_as, put_step, put}
use Rattle.law_operands_replaced.specs.Places.{AtOnePlace, first, later, StandsFor, itself, part}
use Rattle.law_operands_replaced.proofs.NewTrees.{Becomes, AllBecome, same, new, over, none, next, is_lowpart, is_whole, whole_low}

module _ (New : Rtx → Rtx → Type 0) (news : Ops) where
  -- what is new for the operand that stands there may stand there
  abbrev pub MayStand : Rtx → Rtx → Type 0
  MayStand p x = (number : ℤ) (z r : Rtx) → StandsFor p x number z → operand_numbered news number ≡ Some r → New z r

  abbrev P : Rtx → Type 0
  P p = (x : Rtx) → MayStand p x → all_pass is_whole x ≡ true → Becomes New x (put p news x)

  abbrev Kid : Type 0
  Kid = (p : Rtx) × P p

  abbrev tree : Kid → Rtx
  tree k = k.0

  kids_long : (ks : List Kid) → length (map tree ks) ≡ length ks
  kids_long [] = refl
  kids_long (k ∷ ks) = ap suc (kids_long ks)

  puts_long : (ps : List Rtx) → length (map (λ p. put p news) ps) ≡ length ps
  puts_long [] = refl
  puts_long (p ∷ ps) = ap suc (puts_long ps)

  each_becomes : (ks : List Kid) (xs : List Rtx) → length ks ≡ length xs →
      ((q y : Rtx) → AtOnePlace (map tree ks) xs q y → MayStand q y) → list_all (all_pass is_whole) xs ≡ true →
      AllBecome New xs (each_by (map (λ p. put p news) (map tree ks)) xs)
  each_becomes [] [] as_many may whole = none
  each_becomes [] (x ∷ xs) as_many may whole = absurd (omega (arith, as_many))
  each_becomes (k ∷ ks) [] as_many may whole = absurd (omega (arith, as_many))
  each_becomes (k ∷ ks) (x ∷ xs) as_many may whole =
      let both = and_parts (all_pass is_whole x) _ whole in
      next x (put k.0 news x) xs (each_by (map (λ p. put p news) (map tree ks)) xs)
      (k.1 x (may k.0 x (first k.0 x (map tree ks) xs)) both.0)
      (each_becomes ks xs (let fewer : length ks ≡ length xs = omega (arith, as_many) in fewer)
      (λ q y at. may q y (later q y k.0 x (map tree ks) xs at)) both.1)

  operand_becomes : (x : Rtx) (o : Option Rtx) → ((r : Rtx) → o ≡ Some r → New x r) → Becomes New x (unwrap_or o x)
  operand_becomes x None may = same x
  operand_becomes x (Some r) may = new x r (may r refl)

  parts_become : (as_many : Bool) (ks : List Kid) (x : Rtx) → (length (map (λ p. put p news) (map tree ks)) == length (kids_of x)) ≡ as_many →
      ((length ks ≡ length (kids_of x)) → (q y : Rtx) → AtOnePlace (map tree ks) (kids_of x) q y → MayStand q y) →
      all_pass is_whole x ≡ true →
      Becomes New x (tree_of (head_of x) (if as_many then each_by (map (λ p. put p news) (map tree ks)) (kids_of x) else kids_of x))
  parts_become true ks x is may whole =
      let ys = each_by (map (λ p. put p news) (map tree ks)) (kids_of x) in
      let long : length ks ≡ length (kids_of x) = sym (kids_long ks) ∙ sym (puts_long (map tree ks)) ∙ same_long is in
      over x (tree_of (head_of x) ys) (head_of-tree (head_of x) ys) (whole_low (is_lowpart x) (nodes.itself is_whole x whole))
      (subst (AllBecome New (kids_of x)) (sym (kids_of-tree (head_of x) ys))
      (each_becomes ks (kids_of x) long (may long) (nodes.within is_whole x whole)))
    where
      same_long : {a b : ℕ} → (a == b) ≡ true → a ≡ b
      same_long {a} {b} truly = grind (arith, nat_tests, truly)
  parts_become false ks x is may whole = subst (Becomes New x) (sym (tree_of-parts x)) (same x)

  over_parts : (z : Rtx-F Rtx) (ks : List Kid) (x : Rtx) → z.kids ≡ map tree ks → role_of z.code ≢ Operand → MayStand (roll-Rtx z) x →
      all_pass is_whole x ≡ true → Becomes New x (tree_of (head_of x) (parts_by (map (λ p. put p news) z.kids) (kids_of x)))
  over_parts z ks x are other may whole =
      let kids : kids_of (roll-Rtx z) ≡ map tree ks = ap (λ (o : Rtx-F Rtx). o.kids) (out-roll-Rtx z) ∙ are in
      let no_operand : role_of (head_of (roll-Rtx z)).code ≢ Operand =
      λ e. other (sym (ap (λ (o : Rtx-F Rtx). role_of o.code) (out-roll-Rtx z)) ∙ e) in
      subst (λ ps. Becomes New x (tree_of (head_of x) (parts_by (map (λ p. put p news) ps) (kids_of x)))) (sym are)
      (parts_become (length (map (λ p. put p news) (map tree ks)) == length (kids_of x)) ks x refl
      (λ long q y at number t r stands has. may number t r (part (roll-Rtx z) x q y t number no_operand
      (ap length kids ∙ kids_long ks ∙ long) (subst (λ ps. AtOnePlace ps (kids_of x) q y) (sym kids) at) stands) has) whole)

  by_role : (r : Role) (z : Rtx-F Rtx) (ks : List Kid) (x : Rtx) → z.kids ≡ map tree ks → role_of z.code ≡ r → MayStand (roll-Rtx z) x →
      all_pass is_whole x ≡ true → Becomes New x (put_as r news z.number (map (λ p. put p news) z.kids) x)
  by_role Operand z ks x are is may whole = operand_becomes x (operand_numbered news z.number) (λ r at.
      may z.number x r (subst (λ (n : ℤ). StandsFor (roll-Rtx z) x n x) (ap (λ (o : Rtx-F Rtx). o.number) (out-roll-Rtx z))
      (itself (roll-Rtx z) x (ap (λ (o : Rtx-F Rtx). role_of o.code) (out-roll-Rtx z) ∙ is))) at)
  by_role Operator z ks x are is may whole = over_parts z ks x are (λ e. let no : Operator ≡ Operand = sym is ∙ e in let none : ⊥ = cc in none) may whole
  by_role Itself z ks x are is may whole = over_parts z ks x are (λ e. let no : Itself ≡ Operand = sym is ∙ e in let none : ⊥ = cc in none) may whole

  rolled : (z : Rtx-F Rtx) (x : Rtx) → put (roll-Rtx z) news x ≡ put_as (role_of z.code) news z.number (map (λ p. put p news) z.kids) x
  unfolding put
  rolled z x = ap (λ f. f x) (fold-roll-Rtx (Rtx → Rtx) (put_step news) z)

  layer : (y : Rtx-F Kid) → P (roll-Rtx (map-Rtx Kid Rtx tree y))
  layer y x may whole =
      let z : Rtx-F Rtx = map-Rtx Kid Rtx tree y in
      subst (Becomes New x) (sym (rolled z x)) (by_role (role_of z.code) z y.kids x refl refl may whole)

  -- the tree with the new ones put in has them in the places of their operands, and is the same elsewhere
  pub put_becomes : (p x : Rtx) → MayStand p x → all_pass is_whole x ≡ true → Becomes New x (put p news x)
  put_becomes = ind-Rtx P (λ p y e. subst (λ (z : Rtx-F Rtx). P (roll-Rtx z)) e (layer y))
