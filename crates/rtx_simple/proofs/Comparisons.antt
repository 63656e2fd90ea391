-- The comparisons that a comparison with 0 can become.
use Rattle.std.proofs.Common.{◌≡◌, Bool, true, false, List, [], ◌∷◌, Option, Some, None, refl, sym, ap, ◌∙◌, if◌then◌else◌}
use Rattle.std.specs.Prelude.{option_map}
use Rattle.rtx_tree.specs.declared.code.Code.{Code}
use Rattle.rtx_tree.specs.declared.code.Code.TheVariants as code
use Rattle.rtx_tree.specs.declared.code.Mode.{Mode}
use Rattle.rtx_tree.specs.declared.tree.Rtx.{Rtx}
use Rattle.rtx_tree.specs.Code.{class_of_code, reversed, is_comparison_class}
use Rattle.rtx_tree.specs.Tree.{head_of, kids_of, node_of}
use Rattle.rtx_simple.specs.Simple.{is_zero, tested, compared_by}

is_reversed : (c own : Code) → reversed c ≡ Some own → is_comparison_class (class_of_code own) ≡ true
is_reversed code.Eq own is = let same : own ≡ code.Ne = cc in ap (λ k. is_comparison_class (class_of_code k)) same
is_reversed code.Ne own is = let same : own ≡ code.Eq = cc in ap (λ k. is_comparison_class (class_of_code k)) same
is_reversed code.Lt own is = let same : own ≡ code.Ge = cc in ap (λ k. is_comparison_class (class_of_code k)) same
is_reversed code.Ge own is = let same : own ≡ code.Lt = cc in ap (λ k. is_comparison_class (class_of_code k)) same
is_reversed code.Gt own is = let same : own ≡ code.Le = cc in ap (λ k. is_comparison_class (class_of_code k)) same
is_reversed code.Le own is = let same : own ≡ code.Gt = cc in ap (λ k. is_comparison_class (class_of_code k)) same
is_reversed code.Ltu own is = let same : own ≡ code.Geu = cc in ap (λ k. is_comparison_class (class_of_code k)) same
is_reversed code.Geu own is = let same : own ≡ code.Ltu = cc in ap (λ k. is_comparison_class (class_of_code k)) same
is_reversed code.Gtu own is = let same : own ≡ code.Leu = cc in ap (λ k. is_comparison_class (class_of_code k)) same
is_reversed code.Leu own is = let same : own ≡ code.Gtu = cc in ap (λ k. is_comparison_class (class_of_code k)) same
is_reversed _ own is = cc

has_reverse : (c : Code) → reversed c ≡ None → is_comparison_class (class_of_code c) ≡ false
has_reverse code.Eq none = cc
has_reverse code.Ne none = cc
has_reverse code.Lt none = cc
has_reverse code.Ge none = cc
has_reverse code.Gt none = cc
has_reverse code.Le none = cc
has_reverse code.Ltu none = cc
has_reverse code.Geu none = cc
has_reverse code.Gtu none = cc
has_reverse code.Leu none = cc
has_reverse _ none = refl

no_reverse : (c : Code) → is_comparison_class (class_of_code c) ≡ false → reversed c ≡ None
no_reverse code.Eq none = cc
no_reverse code.Ne none = cc
no_reverse code.Lt none = cc
no_reverse code.Ge none = cc
no_reverse code.Gt none = cc
no_reverse code.Le none = cc
no_reverse code.Ltu none = cc
no_reverse code.Geu none = cc
no_reverse code.Gtu none = cc
no_reverse code.Leu none = cc
no_reverse _ none = refl

-- it is the one that was compared, or its reverse
pub data IsTest (inner own : Code) : Type 0 where
  same : inner ≡ own → IsTest inner own
  reverse : reversed inner ≡ Some own → IsTest inner own

pub is_test : (c inner own : Code) → tested c inner ≡ Some own → IsTest inner own
is_test code.Ne inner own is = by_test (is_comparison_class (class_of_code inner)) is
  where
    by_test : (t : Bool) → (if t then Some inner else None) ≡ Some own → IsTest inner own
    by_test true is = IsTest.same (let own_code : inner ≡ own = cc in own_code)
    by_test false is = cc
is_test code.Eq inner own is = IsTest.reverse is
is_test _ inner own is = cc

pub is_comparison : (c inner own : Code) → tested c inner ≡ Some own → is_comparison_class (class_of_code own) ≡ true
is_comparison code.Ne inner own is = by_test (is_comparison_class (class_of_code inner)) refl is
  where
    by_test : (t : Bool) → is_comparison_class (class_of_code inner) ≡ t → (if t then Some inner else None) ≡ Some own → is_comparison_class (class_of_code own) ≡ true
    by_test true holds is = let own_code : inner ≡ own = cc in ap (λ k. is_comparison_class (class_of_code k)) (sym own_code) ∙ holds
    by_test false holds is = cc
is_comparison code.Eq inner own is = is_reversed inner own is
is_comparison _ inner own is = cc

-- what eq finds no test, ne finds none, and the other way round
neither : (inner other : Code) → tested inner other ≡ None → (own : Code) → reversed inner ≡ Some own → tested own other ≡ None
neither code.Eq other none own is =
    let same : own ≡ code.Ne = cc in
    ap (λ k. tested k other) same ∙ ap (λ t. if t then Some other else None) (has_reverse other none)
neither code.Ne other none own is = let same : own ≡ code.Eq = cc in ap (λ k. tested k other) same ∙ no_reverse other (by_test (is_comparison_class (class_of_code other)) none)
  where
    by_test : (t : Bool) → (if t then Some other else None) ≡ None → t ≡ false
    by_test true none = cc
    by_test false none = refl
neither code.Lt other none own is = let same : own ≡ code.Ge = cc in ap (λ k. tested k other) same
neither code.Ge other none own is = let same : own ≡ code.Lt = cc in ap (λ k. tested k other) same
neither code.Gt other none own is = let same : own ≡ code.Le = cc in ap (λ k. tested k other) same
neither code.Le other none own is = let same : own ≡ code.Gt = cc in ap (λ k. tested k other) same
neither code.Ltu other none own is = let same : own ≡ code.Geu = cc in ap (λ k. tested k other) same
neither code.Geu other none own is = let same : own ≡ code.Ltu = cc in ap (λ k. tested k other) same
neither code.Gtu other none own is = let same : own ≡ code.Leu = cc in ap (λ k. tested k other) same
neither code.Leu other none own is = let same : own ≡ code.Gtu = cc in ap (λ k. tested k other) same
neither _ other none own is = cc

still_none : (inner own : Code) → IsTest inner own → (other : Code) → tested inner other ≡ None → tested own other ≡ None
still_none inner own (IsTest.same is) other none = ap (λ k. tested k other) (sym is) ∙ none
still_none inner own (IsTest.reverse is) other none = neither inner other none own is

-- where the inner comparison is compared with 0 by no rule, the one that takes its place is not either
pub compared_none : (inner own : Code) → IsTest inner own → (m n : Mode) (kids : List Rtx) → compared_by inner m kids ≡ None → compared_by own n kids ≡ None
compared_none inner own test m n [] none = refl
compared_none inner own test m n (a ∷ []) none = refl
compared_none inner own test m n (a ∷ b ∷ []) none = by_test (is_zero b) none
  where
    no_code : (o : Option Code) → option_map (λ own. node_of own m (kids_of a)) o ≡ None → o ≡ None
    no_code None none = refl
    no_code (Some c) none = cc

    by_test : (t : Bool) → (if t then option_map (λ own. node_of own m (kids_of a)) (tested inner (head_of a).code) else None) ≡ None → (if t then option_map (λ own. node_of own n (kids_of a)) (tested own (head_of a).code) else None) ≡ None
    by_test true none = ap (option_map (λ own. node_of own n (kids_of a))) (still_none inner own test (head_of a).code (no_code (tested inner (head_of a).code) none))
    by_test false none = refl
compared_none inner own test m n (a ∷ b ∷ c ∷ kids) none = refl
