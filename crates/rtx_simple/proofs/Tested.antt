-- What a comparison with 0 becomes, and a constant, is simple.
use Rattle.std.proofs.Common.{◌≡◌, ℤ, Bool, true, false, List, [], ◌∷◌, Option, Some, None, refl, sym, ap, subst, ◌∙◌, if◌then◌else◌}
use Rattle.std.specs.Prelude.{option_map, option_and_then}
use Rattle.rtx_tree.specs.declared.code.Code.{Code}
use Rattle.rtx_tree.specs.declared.code.Code.TheVariants as code
use Rattle.rtx_tree.specs.declared.code.Mode.{Mode}
use Rattle.rtx_tree.specs.declared.class.Class.{Class}
use Rattle.rtx_tree.specs.declared.class.Class.TheVariants as class
use Rattle.rtx_tree.specs.declared.tree.Rtx.{Rtx}
use Rattle.rtx_tree.specs.Code.{class_of_code, is_comparison_class}
use Rattle.rtx_tree.specs.Tree.{RtxHead, head_of, kids_of, node_of, const_of}
use Rattle.rtx_tree.proofs.Trees.{head_of-tree, kids_of-tree}
use Rattle.rtx_simple.specs.Simple.{is_zero, extended_by, extended, where_constant, extended_constant, terms_by, added_by, added, with_added, joined_constants, where_zero, without_zero, tested, compared_by, compared_with_zero, lowpart_by, where_mode, extension_cut, is_exchangeable, exchanged_by, constant_second, once, IsSimple}
use Rattle.rtx_simple.proofs.Comparisons.{is_test, is_comparison, compared_none}
use Rattle.rtx_simple.proofs.Options.{or_none, left_none, right_none}
use Rattle.rtx_simple.proofs.Parts.{AreSimple, simple_by, kids_simple}

module _ (own : Code) (mode : Mode) (kids : List Rtx) where
  pub node_code : (head_of (node_of own mode kids)).code ≡ own
  node_code = ap (λ (h : RtxHead). h.code) (head_of-tree _ kids)

  node_mode : (head_of (node_of own mode kids)).mode ≡ mode
  node_mode = ap (λ (h : RtxHead). h.mode) (head_of-tree _ kids)

  pub node_kids : kids_of (node_of own mode kids) ≡ kids
  node_kids = kids_of-tree _ kids

-- a comparison is no sum, no extension, no low part and nothing that is exchanged
no_extension : (c : Code) (kids : List Rtx) → is_comparison_class (class_of_code c) ≡ true → extended_by (class_of_code c) kids ≡ None
no_extension c kids = by_class (class_of_code c)
  where
    by_class : (k : Class) → is_comparison_class k ≡ true → extended_by k kids ≡ None
    by_class class.Comparison is = refl
    by_class _ is = cc

no_sum : (c : Code) (kids : List Rtx) → is_comparison_class (class_of_code c) ≡ true → terms_by c kids ≡ None
no_sum code.Plus kids is = cc
no_sum _ kids is = refl

no_lowpart : (c : Code) (kids : List Rtx) → is_comparison_class (class_of_code c) ≡ true → lowpart_by c kids ≡ None
no_lowpart code.Subreg kids is = cc
no_lowpart _ kids is = refl

no_exchange : (c : Code) → is_comparison_class (class_of_code c) ≡ true → is_exchangeable c ≡ false
no_exchange code.Plus is = cc
no_exchange code.Mult is = cc
no_exchange code.And is = cc
no_exchange code.Ior is = cc
no_exchange code.Xor is = cc
no_exchange _ is = refl

-- no test is one with 0
no_test : (c : Code) (mode : Mode) (kids : List Rtx) → ((inner : Code) → tested c inner ≡ None) → compared_by c mode kids ≡ None
no_test c mode [] none = refl
no_test c mode (a ∷ []) none = refl
no_test c mode (a ∷ b ∷ []) none = by_test (is_zero b)
  where
    by_test : (t : Bool) → (if t then option_map (λ own. node_of own mode (kids_of a)) (tested c (head_of a).code) else None) ≡ None
    by_test true = ap (option_map (λ own. node_of own mode (kids_of a))) (none (head_of a).code)
    by_test false = refl
no_test c mode (a ∷ b ∷ d ∷ kids) none = refl

-- to a constant no rule applies
constant_done : (y : Rtx) → (head_of y).code ≡ code.ConstInt → once y ≡ None
unfolding once extended_constant joined_constants without_zero compared_with_zero extension_cut constant_second
constant_done y is =
    or_none (extended_constant y) _ (ap (λ c. option_and_then where_constant (extended_by (class_of_code c) (kids_of y))) is)
    (or_none (joined_constants y) _ (ap (λ c. option_and_then (λ (outer : Rtx × ℤ). option_map (with_added (head_of y).mode outer.1) (added outer.0)) (option_and_then added_by (terms_by c (kids_of y)))) is)
    (or_none (without_zero y) _ (ap (λ c. option_and_then where_zero (terms_by c (kids_of y))) is)
    (or_none (compared_with_zero y) _ (ap (λ c. compared_by c (head_of y).mode (kids_of y)) is ∙ no_test code.ConstInt (head_of y).mode (kids_of y) (λ inner. refl))
    (or_none (extension_cut y) _ (ap (λ c. option_and_then (where_mode (head_of y).mode) (option_and_then extended (lowpart_by c (kids_of y)))) is)
    (ap (λ c. if is_exchangeable c then exchanged_by (head_of y) (kids_of y) else None) is)))))

pub constant_is : (n : ℤ) → (head_of (const_of n)).code ≡ code.ConstInt
constant_is n = ap (λ (h : RtxHead). h.code) (head_of-tree _ [])

pub number_simple : (n : ℤ) → IsSimple (const_of n)
number_simple n = simple_by (const_of n) (constant_done (const_of n) (constant_is n)) (subst AreSimple (sym (kids_of-tree _ [])) tt)

-- no rule but one applies to a comparison
comparison_done : (y : Rtx) → is_comparison_class (class_of_code (head_of y).code) ≡ true → compared_with_zero y ≡ None → once y ≡ None
unfolding once extended_constant joined_constants without_zero extension_cut constant_second
comparison_done y is none =
    let sum = no_sum (head_of y).code (kids_of y) is in
    or_none (extended_constant y) _ (ap (option_and_then where_constant) (no_extension (head_of y).code (kids_of y) is))
    (or_none (joined_constants y) _ (ap (λ (o : Option (Rtx × Rtx)). option_and_then (λ (outer : Rtx × ℤ). option_map (with_added (head_of y).mode outer.1) (added outer.0)) (option_and_then added_by o)) sum)
    (or_none (without_zero y) _ (ap (option_and_then where_zero) sum)
    (or_none (compared_with_zero y) _ none
    (or_none (extension_cut y) _ (ap (λ o. option_and_then (where_mode (head_of y).mode) (option_and_then extended o)) (no_lowpart (head_of y).code (kids_of y) is))
    (ap (λ t. if t then exchanged_by (head_of y) (kids_of y) else None) (no_exchange (head_of y).code is))))))

-- what the rules one by one say where none applies
done_compared : (x : Rtx) → once x ≡ None → compared_with_zero x ≡ None
unfolding once
done_compared x none = left_none (compared_with_zero x) _ (right_none (without_zero x) _ (right_none (joined_constants x) _ (right_none (extended_constant x) _ none)))

pub done_joined : (x : Rtx) → once x ≡ None → joined_constants x ≡ None
unfolding once
done_joined x none = left_none (joined_constants x) _ (right_none (extended_constant x) _ none)

pub is_done : (x : Rtx) → IsSimple x → once x ≡ None
is_done x simple = simple []

node_simple : (c : Rtx) (code own : Code) (mode : Mode) → IsSimple c → tested code (head_of c).code ≡ Some own → IsSimple (node_of own mode (kids_of c))
unfolding compared_with_zero
node_simple c code own mode simple is =
    let y = node_of own mode (kids_of c) in
    let comparison = ap (λ k. is_comparison_class (class_of_code k)) (node_code own mode (kids_of c)) ∙ is_comparison code (head_of c).code own is in
    let inner = compared_none (head_of c).code own (is_test code (head_of c).code own is) (head_of c).mode mode (kids_of c) (done_compared c (is_done c simple)) in
    let none : compared_with_zero y ≡ None =
    ap (λ (h : RtxHead). compared_by h.code h.mode (kids_of y)) (head_of-tree _ (kids_of c)) ∙ (ap (compared_by own mode) (node_kids own mode (kids_of c)) ∙ inner) in
    simple_by y (comparison_done y comparison none) (subst AreSimple (sym (node_kids own mode (kids_of c))) (kids_simple c simple))

compared_part : (code : Code) (mode : Mode) (kids : List Rtx) → AreSimple kids → (y : Rtx) → compared_by code mode kids ≡ Some y → IsSimple y
compared_part code mode [] all y is = cc
compared_part code mode (a ∷ []) all y is = cc
compared_part code mode (a ∷ b ∷ []) all y is = by_test (is_zero b) is
  where
    by_code : (o : Option Code) → o ≡ tested code (head_of a).code → option_map (λ own. node_of own mode (kids_of a)) o ≡ Some y → IsSimple y
    by_code None told is = cc
    by_code (Some own) told is = let same : node_of own mode (kids_of a) ≡ y = cc in subst IsSimple same (node_simple a code own mode all.0 (sym told))

    by_test : (t : Bool) → (if t then option_map (λ own. node_of own mode (kids_of a)) (tested code (head_of a).code) else None) ≡ Some y → IsSimple y
    by_test true is = by_code (tested code (head_of a).code) refl is
    by_test false is = cc
compared_part code mode (a ∷ b ∷ c ∷ kids) all y is = cc

pub compared_simple : (x : Rtx) → AreSimple (kids_of x) → (y : Rtx) → compared_with_zero x ≡ Some y → IsSimple y
unfolding compared_with_zero
compared_simple x parts = compared_part (head_of x).code (head_of x).mode (kids_of x) parts
