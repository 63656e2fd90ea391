-- A part that comes in the place of an expression is as simple as it was.
use Rattle.std.proofs.Common.{◌≡◌, ℤ, Bool, true, false, List, [], ◌∷◌, Some, None, subst, if◌then◌else◌}
use Rattle.std.specs.Prelude.{option_and_then}
use Rattle.std.specs.List.{AllByRecursion}
use Rattle.std.specs.Str.{bytes_eq}
use Rattle.rtx_tree.specs.declared.code.Code.{Code}
use Rattle.rtx_tree.specs.declared.code.Code.TheVariants as code
use Rattle.rtx_tree.specs.declared.class.Class.{Class}
use Rattle.rtx_tree.specs.declared.class.Class.TheVariants as class
use Rattle.rtx_tree.specs.declared.tree.Rtx.{Rtx}
use Rattle.rtx_tree.specs.Code.{class_of_code, mode_name}
use Rattle.rtx_tree.specs.Tree.{head_of, kids_of, is_constant}
use Rattle.rtx_simple.specs.Simple.{is_zero, extended_by, extended, where_constant, extended_constant, terms_by, terms_of, added_by, where_zero, without_zero, lowpart_by, lowpart_of, where_mode, extension_cut, IsSimple}
use Rattle.rtx_simple.proofs.Options.{and_some, where_some}
use Rattle.rtx_simple.proofs.Parts.{AreSimple, kids_simple}

pub extended_part : (P : Rtx → Type 0) (c : Class) (kids : List Rtx) (a : Rtx) → AllByRecursion P kids → extended_by c kids ≡ Some a → P a
extended_part P class.Extension [] a all is = cc
extended_part P class.Extension (x ∷ []) a all is = let same : x ≡ a = cc in subst P same all.0
extended_part P class.Extension (x ∷ y ∷ kids) a all is = cc
extended_part P _ kids a all is = cc

pub terms_part : (P : Rtx → Type 0) (c : Code) (kids : List Rtx) (t : Rtx × Rtx) → AllByRecursion P kids → terms_by c kids ≡ Some t → P t.0
terms_part P code.Plus [] t all is = cc
terms_part P code.Plus (x ∷ []) t all is = cc
terms_part P code.Plus (x ∷ y ∷ []) t all is = let same : ◌≡◌ {A = Rtx × Rtx} (x, y) t = cc in subst (λ (q : Rtx × Rtx). P q.0) same all.0
terms_part P code.Plus (x ∷ y ∷ z ∷ kids) t all is = cc
terms_part P _ kids t all is = cc

pub lowpart_part : (P : Rtx → Type 0) (c : Code) (kids : List Rtx) (a : Rtx) → AllByRecursion P kids → lowpart_by c kids ≡ Some a → P a
lowpart_part P code.Subreg [] a all is = cc
lowpart_part P code.Subreg (x ∷ []) a all is = let same : x ≡ a = cc in subst P same all.0
lowpart_part P code.Subreg (x ∷ y ∷ kids) a all is = cc
lowpart_part P _ kids a all is = cc

module _ (x : Rtx) (parts : AreSimple (kids_of x)) where
  pub constant_simple : (y : Rtx) → extended_constant x ≡ Some y → IsSimple y
  unfolding extended_constant
  constant_simple = and_some (extended x) where_constant IsSimple (λ a is. where_some (is_constant a) a IsSimple (extended_part IsSimple (class_of_code (head_of x).code) (kids_of x) a parts is))

  pub zero_simple : (y : Rtx) → without_zero x ≡ Some y → IsSimple y
  unfolding without_zero
  zero_simple = and_some (terms_of x) where_zero IsSimple (λ t is. where_some (is_zero t.1) t.0 IsSimple (terms_part IsSimple (head_of x).code (kids_of x) t parts is))

  pub cut_simple : (y : Rtx) → extension_cut x ≡ Some y → IsSimple y
  unfolding extension_cut
  cut_simple = and_some (option_and_then extended (lowpart_of x)) (where_mode (head_of x).mode) IsSimple
      (λ a is. where_some (bytes_eq (mode_name (head_of a).mode) (mode_name (head_of x).mode)) a IsSimple
      (and_some (lowpart_of x) extended IsSimple (λ whole there a is. extended_part IsSimple (class_of_code (head_of whole).code) (kids_of whole) a (kids_simple whole (lowpart_part IsSimple (head_of x).code (kids_of x) whole parts there)) is) a is))

-- ---- the first term of a sum that adds a constant

added_first : (P : Rtx → Type 0) (t : Rtx × Rtx) (o : Rtx × ℤ) → P t.0 → added_by t ≡ Some o → P o.0
added_first P t o holds is = by_test (is_constant t.1) is
  where
    by_test : (b : Bool) → (if b then Some (t.0, (head_of t.1).number) else None) ≡ Some o → P o.0
    by_test true is = let same : ◌≡◌ {A = Rtx × ℤ} (t.0, (head_of t.1).number) o = cc in subst (λ (q : Rtx × ℤ). P q.0) same holds
    by_test false is = cc

pub added_part : (P : Rtx → Type 0) (c : Code) (kids : List Rtx) → AllByRecursion P kids → (o : Rtx × ℤ) → option_and_then added_by (terms_by c kids) ≡ Some o → P o.0
added_part P c kids all = and_some (terms_by c kids) added_by (λ (o : Rtx × ℤ). P o.0) (λ t is o same. added_first P t o (terms_part P c kids t all is) same)
