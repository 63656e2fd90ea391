-- An expression whose parts are simple is simple behind three rules at most.
use Rattle.std.proofs.Common.{◌≡◌, ℕ, ℤ, zero, suc, Bool, true, false, List, [], ◌∷◌, map, Option, Some, None, refl, sym, ap, subst, ◌∙◌, if◌then◌else◌}
use Rattle.std.specs.Prelude.{option_map, option_and_then, unwrap_or, ◌&&◌, not}
use Rattle.std.specs.Option.{option_or}
use Rattle.rtx_tree.specs.declared.code.Code.TheVariants as code
use Rattle.rtx_tree.specs.declared.code.Mode.{Mode}
use Rattle.rtx_tree.specs.declared.tree.Rtx.{Rtx}
use Rattle.rtx_tree.specs.Tree.{RtxHead, head_of, kids_of, tree_of, node_of, const_of, is_constant, is_constant_code}
use Rattle.rtx_tree.proofs.Trees.{kids_of-tree}
use Rattle.rtx_simple.specs.Simple.{extended_constant, terms_by, added_by, added, with_added, wrapping_sum, joined_constants, without_zero, compared_with_zero, extension_cut, is_exchangeable, exchanged_by, constant_second, once, settled, IsSimple}
use Rattle.rtx_simple.proofs.Hoisted.{constant_simple, zero_simple, cut_simple, added_part}
use Rattle.rtx_simple.proofs.Options.{or_some, and_some, map_none}
use Rattle.rtx_simple.proofs.Parts.{AreSimple, simple_by, kids_simple}
use Rattle.rtx_simple.proofs.Tested.{node_code, node_kids, constant_is, number_simple, done_joined, is_done, compared_simple}

-- ---- the rules behind which another may apply

-- nothing is to be exchanged any more
record IsSecond (x : Rtx) : Type 0 where
  parts : AreSimple (kids_of x)
  second : constant_second x ≡ None

-- nor to be joined
record IsJoined (x : Rtx) : Type 0 where
  parts : AreSimple (kids_of x)
  second : constant_second x ≡ None
  joined : joined_constants x ≡ None

-- a sum that is joined adds to no sum any more
join_none : (mode : Mode) (a b : Rtx) → added a ≡ None → option_and_then (λ (outer : Rtx × ℤ). option_map (with_added mode outer.1) (added outer.0)) (added_by (a, b)) ≡ None
join_none mode a b none = by_test (is_constant b)
  where
    by_test : (t : Bool) → option_and_then (λ (outer : Rtx × ℤ). option_map (with_added mode outer.1) (added outer.0)) (if t then Some (a, (head_of b).number) else None) ≡ None
    by_test true = ap (option_map (with_added mode (head_of b).number)) none
    by_test false = refl

exchange_none : (h : RtxHead) (a b : Rtx) → (is_constant a && not (is_constant b)) ≡ false → exchanged_by h (a ∷ b ∷ []) ≡ None
exchange_none h a b is = ap (λ t. if t then Some (tree_of h (b ∷ a ∷ [])) else None) is

second_none : (y a b : Rtx) → kids_of y ≡ a ∷ b ∷ [] → (is_constant a && not (is_constant b)) ≡ false → constant_second y ≡ None
unfolding constant_second
second_none y a b kids is = by_test (is_exchangeable (head_of y).code)
  where
    by_test : (t : Bool) → (if t then exchanged_by (head_of y) (kids_of y) else None) ≡ None
    by_test true = ap (exchanged_by (head_of y)) kids ∙ exchange_none (head_of y) a b is
    by_test false = refl

and_false : (t : Bool) → (t && false) ≡ false
and_false true = refl
and_false false = refl

-- a sum of an expression that adds nothing, and a constant
sum_joined : (mode : Mode) (a : Rtx) (n : ℤ) → IsSimple a → added a ≡ None → IsJoined (node_of code.Plus mode (a ∷ const_of n ∷ []))
unfolding joined_constants
sum_joined mode a n simple none =
    let kids : List Rtx = a ∷ const_of n ∷ [] in
    let y = node_of code.Plus mode kids in
    let two = node_kids code.Plus mode kids in record {
      parts = subst AreSimple (sym two) (simple, (number_simple n, tt));
      second = second_none y a (const_of n) two (ap (λ c. is_constant a && not (is_constant_code c)) (constant_is n) ∙ and_false (is_constant a));
      joined =
          ap (λ c. option_and_then (λ (outer : Rtx × ℤ). option_map (with_added (head_of y).mode outer.1) (added outer.0)) (option_and_then added_by (terms_by c (kids_of y)))) (node_code code.Plus mode kids)
          ∙ (ap (λ k. option_and_then (λ (outer : Rtx × ℤ). option_map (with_added (head_of y).mode outer.1) (added outer.0)) (option_and_then added_by (terms_by code.Plus k))) two
          ∙ join_none (head_of y).mode a (const_of n) none);
    }

-- what a sum adds to is no sum that adds to one again
adds_no_more : (x : Rtx) (p : Rtx × ℤ) → IsSimple x → added x ≡ Some p → added p.0 ≡ None
unfolding joined_constants
adds_no_more x p simple is =
    map_none (with_added (head_of x).mode p.1) (added p.0)
    (sym (ap (option_and_then (λ (outer : Rtx × ℤ). option_map (with_added (head_of x).mode outer.1) (added outer.0))) is) ∙ done_joined x (is_done x simple))

inner_joined : (mode : Mode) (d : ℤ) (inner : Rtx) → IsSimple inner → (o : Option (Rtx × ℤ)) → o ≡ added inner → (y : Rtx) → option_map (with_added mode d) o ≡ Some y → IsJoined y
inner_joined mode d inner simple None told y is = cc
inner_joined mode d inner simple (Some p) told y is =
    let same : with_added mode d p ≡ y = cc in
    subst IsJoined same (sum_joined mode p.0 (wrapping_sum p.1 d)
    (added_part IsSimple (head_of inner).code (kids_of inner) (kids_simple inner simple) p (sym told)) (adds_no_more inner p simple (sym told)))

joins_once : (x : Rtx) → AreSimple (kids_of x) → (y : Rtx) → joined_constants x ≡ Some y → IsJoined y
unfolding joined_constants
joins_once x parts = and_some (added x) (λ (outer : Rtx × ℤ). option_map (with_added (head_of x).mode outer.1) (added outer.0)) IsJoined
    (λ outer is. inner_joined (head_of x).mode outer.1 outer.0 (added_part IsSimple (head_of x).code (kids_of x) parts outer is) (added outer.0) refl)

-- a constant that went behind stays there
exchanged_once : (h : RtxHead) (kids : List Rtx) → AreSimple kids → (y : Rtx) → exchanged_by h kids ≡ Some y → IsSecond y
exchanged_once h [] all y is = cc
exchanged_once h (a ∷ []) all y is = cc
exchanged_once h (a ∷ b ∷ []) all y is = by_tests (is_constant a) (is_constant b) refl is
  where
    swapped : is_constant b ≡ false → IsSecond (tree_of h (b ∷ a ∷ []))
    swapped none =
        let two = kids_of-tree h (b ∷ a ∷ []) in record {
          parts = subst AreSimple (sym two) (all.1.0, (all.0, tt));
          second = second_none (tree_of h (b ∷ a ∷ [])) b a two (ap (λ t. t && not (is_constant a)) none);
        }

    by_tests : (s t : Bool) → is_constant b ≡ t → (if s && not t then Some (tree_of h (b ∷ a ∷ [])) else None) ≡ Some y → IsSecond y
    by_tests true false none is = let same : tree_of h (b ∷ a ∷ []) ≡ y = cc in subst IsSecond same (swapped none)
    by_tests true true none is = cc
    by_tests false false none is = cc
    by_tests false true none is = cc
exchanged_once h (a ∷ b ∷ c ∷ kids) all y is = cc

exchanges_once : (x : Rtx) → AreSimple (kids_of x) → (y : Rtx) → constant_second x ≡ Some y → IsSecond y
unfolding constant_second
exchanges_once x parts y is = by_test (is_exchangeable (head_of x).code) is
  where
    by_test : (t : Bool) → (if t then exchanged_by (head_of x) (kids_of x) else None) ≡ Some y → IsSecond y
    by_test true is = exchanged_once (head_of x) (kids_of x) parts y is
    by_test false is = cc

-- ---- so many rules behind one another

-- a simple expression stays
stays : (n : ℕ) (y : Rtx) → IsSimple y → IsSimple (settled n y)
stays zero y simple = simple
stays (suc n) y simple = subst IsSimple (sym (ap (λ o. unwrap_or (option_map (settled n) o) y) (is_done y simple))) simple

-- by what a rule makes, and where none applies
turn : (n : ℕ) (x : Rtx) → AreSimple (kids_of x) → ((y : Rtx) → once x ≡ Some y → IsSimple (settled n y)) → IsSimple (settled (suc n) x)
turn n x parts each = by_rule (once x) refl
  where
    by_rule : (o : Option Rtx) → once x ≡ o → IsSimple (unwrap_or (option_map (settled n) o) x)
    by_rule None is = simple_by x is parts
    by_rule (Some y) is = each y is

none_some : {A : Type 0} (o : Option A) (y : A) → o ≡ None → o ≡ Some y → ⊥
none_some o y none some = cc

by_rules : (n : ℕ) (x : Rtx) → AreSimple (kids_of x) → ((y : Rtx) → joined_constants x ≡ Some y → IsSimple (settled n y)) → ((y : Rtx) → constant_second x ≡ Some y → IsSimple (settled n y)) →
    (y : Rtx) → once x ≡ Some y → IsSimple (settled n y)
unfolding once
by_rules n x parts joins exchanges =
    let P : Rtx → Type 0 = λ y. IsSimple (settled n y) in
    or_some (extended_constant x) _ P (λ y is. stays n y (constant_simple x parts y is))
    (or_some (joined_constants x) _ P joins
    (or_some (without_zero x) _ P (λ y is. stays n y (zero_simple x parts y is))
    (or_some (compared_with_zero x) _ P (λ y is. stays n y (compared_simple x parts y is))
    (or_some (extension_cut x) (constant_second x) P (λ y is. stays n y (cut_simple x parts y is)) exchanges))))

one_left : (n : ℕ) (x : Rtx) → IsJoined x → IsSimple (settled (suc n) x)
one_left n x near = turn n x near.parts (by_rules n x near.parts
    (λ y is. absurd (none_some (joined_constants x) y near.joined is)) (λ y is. absurd (none_some (constant_second x) y near.second is)))

two_left : (n : ℕ) (x : Rtx) → IsSecond x → IsSimple (settled (suc (suc n)) x)
two_left n x near = turn (suc n) x near.parts (by_rules (suc n) x near.parts
    (λ y is. one_left n y (joins_once x near.parts y is)) (λ y is. absurd (none_some (constant_second x) y near.second is)))

-- three are enough
pub settled_simple : (x : Rtx) → AreSimple (kids_of x) → IsSimple (settled 3 x)
settled_simple x parts = turn 2 x parts (by_rules 2 x parts
    (λ y is. one_left 1 y (joins_once x parts y is)) (λ y is. two_left 0 y (exchanges_once x parts y is)))
