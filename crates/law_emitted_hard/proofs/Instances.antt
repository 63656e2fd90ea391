-- What patterns that name registers of the machine alone make of such operands.
use Rattle.std.proofs.Common.{◌≡◌, false, List, [], ◌∷◌, Option, Some, None, refl, sym, subst, ◌∙◌}
use Rattle.std.specs.List.{AllByRecursion}
use Rattle.std.specs.Prelude.{option_map, option_and_then}
use Rattle.rtx_tree.specs.Tree.{RtxHead, head_of, kids_of, tree_of}
use Rattle.rtx_tree.specs.declared.tree.Rtx.{Rtx}
use Rattle.md_match.specs.declared.role.Role.{Role}
use Rattle.md_match.specs.declared.role.Role.TheVariants.{Operand, Operator, Itself}
use Rattle.md_match.specs.Pattern.{Ops, role_of, operand_of, instantiated, all_instantiated}
use Rattle.md_match.proofs.Instantiated.{each_made, made_operand, made_itself, made_operator, made_no_operator}
use Rattle.form_needs.specs.Needs.{is_homeless}
use Rattle.law_emitted_hard.specs.Hard.{IsHard, AreHard, OperandsHard}
use Rattle.law_emitted_hard.proofs.Trees.{induction, hard_tree, hard_here, hard_kids}
use Rattle.law_emitted_hard.proofs.Operands.{numbered_hard}

module _ (operands : Ops) (are : OperandsHard operands) where
  abbrev Makes : Rtx → Type 0
  Makes p = IsHard p → (x : Rtx) → instantiated p operands ≡ Some x → IsHard x

  -- ---- some patterns

  both_by : (a : Option Rtx) (more : Option (List Rtx)) (xs : List Rtx) → ((x : Rtx) → a ≡ Some x → IsHard x) →
      ((rest : List Rtx) → more ≡ Some rest → AreHard rest) → option_and_then (λ x. option_map (λ xs. x ∷ xs) more) a ≡ Some xs → AreHard xs
  both_by None more xs one rest at = absurd (let no : ⊥ = cc in no)
  both_by (Some x) None xs one rest at = absurd (let no : ⊥ = cc in no)
  both_by (Some x) (Some ys) xs one rest at = let same : x ∷ ys ≡ xs = cc in subst AreHard same (one x refl, rest ys refl)

  kids_made : (ps : List Rtx) → AllByRecursion Makes ps → AreHard ps → (xs : List Rtx) → each_made ps operands ≡ Some xs → AreHard xs
  kids_made [] each all xs at = let same : [] ≡ xs = cc in subst AreHard same tt
  kids_made (p ∷ ps) each all xs at =
      both_by (instantiated p operands) (each_made ps operands) xs (each.0 all.0) (kids_made ps each.1 all.1) at

  -- ---- one

  over_by : (h : RtxHead) (o : Option (List Rtx)) (x : Rtx) → is_homeless h.code h.number ≡ false →
      ((xs : List Rtx) → o ≡ Some xs → AreHard xs) → option_map (tree_of h) o ≡ Some x → IsHard x
  over_by h None x here all at = absurd (let no : ⊥ = cc in no)
  over_by h (Some xs) x here all at = let same : tree_of h xs ≡ x = cc in subst IsHard same (hard_tree h xs here (all xs refl))

  operator_by : (p x : Rtx) (o : Option Rtx) → role_of (head_of p).code ≡ Operator → operand_of p operands ≡ o →
      ((xs : List Rtx) → each_made (kids_of p) operands ≡ Some xs → AreHard xs) → instantiated p operands ≡ Some x → IsHard x
  operator_by p x None role is all at =
      absurd (let e : ◌≡◌ {A = Option Rtx} None (Some x) = sym (made_no_operator p operands role is) ∙ at in let no : ⊥ = cc in no)
  operator_by p x (Some y) role is all at =
      over_by (head_of y) (each_made (kids_of p) operands) x (hard_here y (numbered_hard operands (head_of p).number y are is)) all
      (sym (made_operator p operands y role is) ∙ at)

  role_by : (r : Role) (p : Rtx) → role_of (head_of p).code ≡ r → AllByRecursion Makes (kids_of p) → Makes p
  role_by Operand p role each hard x at = numbered_hard operands (head_of p).number x are (sym (made_operand p operands role) ∙ at)
  role_by Operator p role each hard x at =
      operator_by p x (operand_of p operands) role refl (kids_made (kids_of p) each (hard_kids p hard)) at
  role_by Itself p role each hard x at =
      over_by (head_of p) (each_made (kids_of p) operands) x (hard_here p hard) (kids_made (kids_of p) each (hard_kids p hard))
      (sym (made_itself p operands role) ∙ at)

  pub instance_hard : (p : Rtx) → Makes p
  instance_hard = induction Makes (λ p each. role_by (role_of (head_of p).code) p refl each)

  each_makes : (ps : List Rtx) → AllByRecursion Makes ps
  each_makes [] = tt
  each_makes (p ∷ ps) = (instance_hard p, each_makes ps)

  pub instances_hard : (ps xs : List Rtx) → AreHard ps → all_instantiated ps operands ≡ Some xs → AreHard xs
  instances_hard ps xs all at = kids_made ps (each_makes ps) all xs at
