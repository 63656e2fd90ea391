-- The reasons of what stands behind the word of a test, and the trees and codes there.
use Rattle.std.proofs.Common.{◌≡◌, ◌≤◌, ℕ, true, false, ◌&&◌, List, [], ◌∷◌, Option, Some, None, Result, option_map, option_and_then, map, refl, sym, ap, subst, ◌∙◌, arith}
use Rattle.std.specs.Prelude.{is_some, Contains}
use Rattle.std.specs.List.{AllByRecursion}
use Rattle.std.proofs.Math.Bool.{and-true, and-false}
use Rattle.rtx_tree.specs.declared.code.Code.{Code}
use Rattle.rtx_tree.specs.declared.constants.Constant.{Constant}
use Rattle.c_cond.specs.c_words.declared.atom.Dialect.TheVariants as dialect
use Rattle.c_cond.specs.declared.tree.Tree as c_tree
use Rattle.c_cond.specs.Grammar.{IsText, Condition}
use Rattle.md_pattern.specs.lisp_read.declared.tree.Tree.{Tree}
use Rattle.md_pattern.specs.lisp_read.Head.{mode_of_head}
use Rattle.md_pattern.specs.lisp_read.Shape.{string_of}
use Rattle.md_text.specs.Lists.{members}
use Rattle.md_text.specs.Lists as lists
use Rattle.md_pattern.specs.declared.reason.Reason.{Reason}
use Rattle.md_pattern.specs.declared.reason.Reason.TheVariants as reason
use Rattle.md_pattern.specs.Reason.{number_of, judged_with, IsSmallest}
use Rattle.md_pattern.specs.Operand.{number_in}
use Rattle.md_pattern.specs.Pattern.{or_aside}
use Rattle.md_pattern.specs.HasReason.{PartKind, are_kinds, expressions_among}
use Rattle.md_pattern.proofs.Smallest.{Among, none_in, one_more}
use Rattle.md_pattern.proofs.OneList.{some_none}
use Rattle.pred_expr.specs.declared.test.TestKind.{TestKind}
use Rattle.pred_expr.specs.declared.test.TestKind.TheVariants as kind
use Rattle.pred_expr.specs.Test.{text_in, predicate_in, each, test_of}
use Rattle.pred_expr.specs.HasReason.{kinds_of, HasReason}
use Rattle.rtx_tree.specs.Code.{code_in}

-- a tree gives the smallest of its reasons
abbrev pub Least : List Constant → Tree → Type 0
Least cs t = IsSmallest (HasReason cs t) (test_of cs t)

-- tests have no reason with a smaller number
pub two_le : (cs : List Constant) (t : Tree) (r : Reason) → HasReason cs t r → 2 ≤ number_of r
two_le cs t _ (HasReason.no_test _ none) = omega arith
two_le cs t _ (HasReason.wrong_parts _ word k ts is e) = omega arith
two_le cs t _ (HasReason.no_code _ word ts text name is quoted stands e) = omega arith
two_le cs t _ (HasReason.no_mode _ word ts is e) = omega arith
two_le cs t _ (HasReason.no_condition _ word ts text is quoted none) = omega arith
two_le cs t r (HasReason.inside _ word k ts u _ is fit stands has) = two_le cs u r has

pub each_smallest : (cs : List Constant) (ts : List Tree) → AllByRecursion (Least cs) ts → IsSmallest (Among (HasReason cs) ts) (each (map (test_of cs) ts))
each_smallest cs [] all = λ r has. none_in has.0 has.1
each_smallest cs (t ∷ ts) all = one_more (HasReason cs) t ts (λ x xs. x ∷ xs) (test_of cs t) (each (map (test_of cs) ts)) all.0 (each_smallest cs ts all.1)

-- the reasons of what stands behind the word of a test
pub data Behind (cs : List Constant) (word : List ℕ) (k : TestKind) (ts : List Tree) : Reason → Type 0 where
  wrong : are_kinds cs (kinds_of k) ts ≡ false → Behind cs word k ts reason.Parts
  code : (text name : List ℕ) → k ≡ kind.Codes → text_in ts ≡ Some text → Contains (members text) name →
      code_in name ≡ None → Behind cs word k ts reason.Code
  mode : k ≡ kind.Predicate → mode_of_head word ≡ None → Behind cs word k ts reason.Mode
  condition : (text : List ℕ) → k ≡ kind.Condition → text_in ts ≡ Some text →
      ((c : c_tree.Tree) → IsText dialect.Test cs Condition text c → ⊥) → Behind cs word k ts reason.Condition
  inside : (r : Reason) → are_kinds cs (kinds_of k) ts ≡ true →
      Among (HasReason cs) (expressions_among (kinds_of k) ts) r → Behind cs word k ts r

-- ---- the parts of a test

pub one_text : (cs : List Constant) (ts : List Tree) → are_kinds cs (PartKind.Text ∷ []) ts ≡ is_some (text_in ts)
one_text cs [] = refl
one_text cs (s ∷ []) = and-true (is_some (string_of s))
one_text cs (s ∷ x ∷ ts) = and-false (is_some (string_of s))

of_two : (n : Option ℕ) (p : Option (List ℕ)) → (is_some n && is_some p) ≡ is_some (option_and_then (λ (k : ℕ). p) n)
of_two None p = refl
of_two (Some k) p = refl

of_three : (n : Option ℕ) (p c : Option (List ℕ)) → (is_some n && (is_some p && is_some c)) ≡ is_some (option_and_then (λ (text : List ℕ). option_and_then (λ (k : ℕ). p) n) c)
of_three None p None = refl
of_three None p (Some text) = refl
of_three (Some k) None None = refl
of_three (Some k) None (Some text) = refl
of_three (Some k) (Some name) None = refl
of_three (Some k) (Some name) (Some text) = refl

pub predicate : (cs : List Constant) (ts : List Tree) → are_kinds cs (kinds_of kind.Predicate) ts ≡ is_some (predicate_in ts)
predicate cs [] = refl
predicate cs (n ∷ []) = and-false (is_some (number_in n))
predicate cs (n ∷ p ∷ []) = ap (λ b. is_some (number_in n) && b) (and-true (is_some (string_of p))) ∙ of_two (number_in n) (string_of p)
predicate cs (n ∷ p ∷ c ∷ []) = ap (λ b. is_some (number_in n) && (is_some (string_of p) && b)) (and-true (is_some (string_of c))) ∙ of_three (number_in n) (string_of p) (string_of c)
predicate cs (n ∷ p ∷ c ∷ x ∷ ts) =
    ap (λ b. is_some (number_in n) && (is_some (string_of p) && b)) (and-false (is_some (string_of c)))
    ∙ ap (λ b. is_some (number_in n) && b) (and-false (is_some (string_of p))) ∙ and-false (is_some (number_in n))

-- ---- codes by their names

abbrev pub NoCode : List ℕ → Reason → Type 0
NoCode name r = (code_in name ≡ None) × (r ≡ reason.Code)

one_code : (name : List ℕ) (o : Option Code) → code_in name ≡ o → IsSmallest (NoCode name) (or_aside reason.Code o)
one_code name None e = ((e, refl), λ r has. let is = ap number_of has.1 in omega (arith, is))
one_code name (Some c) e = λ r has. some_none c (code_in name) e has.0

front_code : (a : Option Code) (b : Option (List Code)) →
    or_aside reason.Code (option_and_then (λ x. option_map (λ xs. x ∷ xs) b) a) ≡ judged_with (λ x xs. x ∷ xs) (or_aside reason.Code a) (or_aside reason.Code b)
front_code None None = refl
front_code None (Some xs) = refl
front_code (Some x) None = refl
front_code (Some x) (Some xs) = refl

pub all_codes : (names : List (List ℕ)) → IsSmallest (Among NoCode names) (or_aside reason.Code (lists.each code_in names))
all_codes [] = λ r has. none_in has.0 has.1
all_codes (name ∷ names) = subst (λ (x : Result (List Code) Reason). IsSmallest (Among NoCode (name ∷ names)) x) (sym (front_code (code_in name) (lists.each code_in names)))
    (one_more NoCode name names (λ x xs. x ∷ xs) (or_aside reason.Code (code_in name)) (or_aside reason.Code (lists.each code_in names)) (one_code name (code_in name) refl) (all_codes names))
