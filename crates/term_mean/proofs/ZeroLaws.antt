-- Whether a term is 0: what the rules make of the test has its number, in any number of rounds.
use Rattle.std.proofs.Common.{◌≡◌, ℕ, zero, suc, ◌+◌, ◌*◌, ◌-◌, ◌^◌, ◌<◌, refl, sym, ◌∙◌, ap, subst, arith, tests, cond, eqb, Bool, true, false, ◌&&◌, bit_xor, List, Option, Some, None}
use Rattle.std.specs.declared.cmp.Ordering.{Ordering}
use Rattle.std.specs.declared.cmp.Ordering.TheVariants.{Less, Equal, Greater}
use Rattle.std.proofs.lemmas.Nat.{xor_comm, xor_mod}
use Rattle.std.specs.Int.Bits.{xor_assoc, xor_self, xor_zero_l}
use Rattle.bits64.specs.declared.Width.{Width}
use Rattle.bits64.specs.declared.Width.TheVariants.{W8, W16, W32, W64}
use Rattle.bits64.specs.Words.{bits_of, low, difference_of, sign_extended}
use Rattle.term_tree.specs.declared.head.Head.TheVariants as heads
use Rattle.term_tree.specs.declared.head.Extension.{Extension}
use Rattle.term_tree.specs.declared.head.Extension.TheVariants.{Zero, Sign}
use Rattle.term_tree.specs.Tree.{Tree, Sum, Node, no_atoms, atom, no_trees, tree, tree_size}
use Rattle.term_tree.specs.Form.{same_width}
use Rattle.term_tree.specs.Order.{numbers_cmp}
use Rattle.term_tree.proofs.OrderLaws.{eqb-true, same_width-true}
use Rattle.term_mean.specs.Meaning.{Valuation, mean, truth}
use Rattle.term_mean.specs.Sums.{constant, constant_in, minus, negated}
use Rattle.term_mean.specs.Cuts.{one_part}
use Rattle.term_mean.specs.Extensions.{extended_by}
use Rattle.term_mean.specs.Masks.{low_8}
use Rattle.term_mean.specs.Truths.{is_truth, opposite}
use Rattle.term_mean.specs.Zero.{numbers_of, first_of, nearer, Operands, operands_in, from_zero, as_difference, zero_extended_test, zero_difference, zero_xor, zero_constant, zero_chosen, zero_test, equals_zero}
use Rattle.term_mean.proofs.Modulo.{same-cut}
use Rattle.term_mean.proofs.SumLaws.{mean-plus_times, mean-times, mean-constant}
use Rattle.term_mean.proofs.JoinedLaws.{and-true}
use Rattle.term_mean.proofs.CutLaws.{low-low, sign_extended-low}
use Rattle.term_mean.proofs.ExtendedLaws.{low-within, extended-cut}
use Rattle.term_mean.proofs.RuleLaws.{difference-zero, negative-zero}
use Rattle.term_mean.proofs.MaskLaws.{is-low_8}
use Rattle.term_mean.proofs.ShiftLaws.{constant-is}
use Rattle.term_mean.proofs.TruthLaws.{small_truth, small, truth-is, mean-opposite}
use Rattle.term_mean.proofs.OperandLaws.{operands-are}

-- whether a term's number is 0 in a width
abbrev pub is_zero : Valuation → Width → Tree → ℕ
is_zero v w t = truth (eqb (low w (mean v t)) 0)

abbrev pub IsTest : Valuation → (Width → Tree → Tree) → Type 0
IsTest v f = (w : Width) (t : Tree) → mean v (f w t) ≡ is_zero v w t

same_test : (p q : Bool) → (p ≡ true → q ≡ true) → (q ≡ true → p ≡ true) → p ≡ q
same_test true true f g = refl
same_test true false f g = sym (f refl)
same_test false true f g = g refl
same_test false false f g = refl

eqb-same : (m n : ℕ) → m ≡ n → eqb m n ≡ true
eqb-same m n e = grind (arith, tests)

mean-one_part : (v : Valuation) (w : Width) (t : Tree) → mean v (one_part heads.Eq w t) ≡ is_zero v w t
mean-one_part v w t = small_truth W8 (eqb (low w (mean v t)) 0)

-- ---- equality of a difference
-- a difference is 0 where its parts are equal
zero-minus : (v : Valuation) (w : Width) (a b : Tree) → is_zero v w (minus w a b) ≡ truth (eqb (low w (mean v a)) (low w (mean v b)))
zero-minus v w a b =
    let x : ℕ = mean v a in
    let y : ℕ = mean v b in
    let m : ℕ = 2 ^ bits_of w in
    ap (λ n. truth (eqb n 0)) (ap (low w) (mean-plus_times v w a (m - 1) b) ∙ same-cut m (x + (m - 1) * y)) ∙ ap truth (difference-zero w x y)

-- s and -s are 0 together
zero-nearer : (v : Valuation) (w : Width) (t : Tree) → is_zero v w (nearer w t) ≡ is_zero v w t
zero-nearer v w t = go (numbers_cmp (numbers_of w t) (numbers_of w (negated w t)))
  where
    go : (o : Ordering) → is_zero v w (first_of o t (negated w t)) ≡ is_zero v w t
    go Less = refl
    go Equal = refl
    go Greater =
        let m : ℕ = 2 ^ bits_of w in
        ap (λ n. truth (eqb n 0)) (ap (low w) (mean-times v w (m - 1) t) ∙ same-cut m ((m - 1) * mean v t)) ∙ ap truth (negative-zero w (mean v t))

-- ---- equality of an exclusive or
xor_zero_r : (a : ℕ) → bit_xor a 0 ≡ a
xor_zero_r a = xor_comm a 0 ∙ xor_zero_l a

xor-back : (a b : ℕ) → bit_xor (bit_xor a b) b ≡ a
xor-back a b = xor_assoc a b b ∙ ap (bit_xor a) (xor_self b) ∙ xor_zero_r a

xor-zero : (a b : ℕ) → eqb (bit_xor a b) 0 ≡ eqb a b
xor-zero a b = same_test (eqb (bit_xor a b) 0) (eqb a b)
    (λ e. eqb-same a b (sym (xor-back a b) ∙ ap (λ x. bit_xor x b) (eqb-true (bit_xor a b) 0 e) ∙ xor_zero_l b))
    (λ e. eqb-same (bit_xor a b) 0 (ap (λ x. bit_xor x b) (eqb-true a b e) ∙ xor_self b))

zero-xor : (v : Valuation) (w u : Width) (n : ℕ) (s : List ℕ) (a b : Tree) → u ≡ w → is_zero v w (Node heads.Xor u n s (tree a (tree b no_trees))) ≡ truth (eqb (low w (mean v a)) (low w (mean v b)))
zero-xor v w u n s a b e =
    let x : ℕ = mean v a in
    let y : ℕ = mean v b in
    let q : low w (mean v (Node heads.Xor u n s (tree a (tree b no_trees)))) ≡ bit_xor (low w x) (low w y) =
    ap (λ z. low w (low z (bit_xor x (bit_xor y 0)))) e ∙ same-cut (2 ^ bits_of w) (bit_xor x (bit_xor y 0)) ∙ ap (λ z. low w (bit_xor x z)) (xor_zero_r y) ∙ xor_mod x y (bits_of w) in
    ap (λ z. truth (eqb z 0)) q ∙ ap truth (xor-zero (low w x) (low w y))

-- ---- compared extensions
low-signs : (v w : Width) (n : ℕ) → bits_of v < bits_of w → low v (low w (sign_extended v n)) ≡ low v n
low-signs v w n h = low-low v w (sign_extended v n) (omega arith) ∙ sign_extended-low v v n (omega arith)

extended-equal : (e : Extension) (v w : Width) (a b : ℕ) → bits_of v < bits_of w → eqb (low w (extended_by e v a)) (low w (extended_by e v b)) ≡ eqb (low v a) (low v b)
extended-equal Zero v w a b h =
    ap (λ x. eqb x (low w (low v b))) (low-within v w a (omega arith)) ∙ ap (eqb (low v a)) (low-within v w b (omega arith))
extended-equal Sign v w a b h = same_test _ _
    (λ e. eqb-same (low v a) (low v b) (sym (low-signs v w a h) ∙ ap (low v) (eqb-true _ _ e) ∙ low-signs v w b h))
    (λ e. eqb-same (low w (sign_extended v a)) (low w (sign_extended v b)) (ap (low w) (sym (extended-cut Sign v a) ∙ ap (sign_extended v) (eqb-true _ _ e) ∙ extended-cut Sign v b)))

-- ---- a term as a difference
abbrev IsDifference : Valuation → Width → Tree → Tree × Tree → Type 0
IsDifference v w t d = low w (mean v t) ≡ low w (mean v d.0 + (2 ^ bits_of w - 1) * mean v d.1)

difference-none : (w : Width) (x : ℕ) → low w x ≡ low w (x + (2 ^ bits_of w - 1) * low w 0)
difference-none W8 x = omega arith
difference-none W16 x = omega arith
difference-none W32 x = omega arith
difference-none W64 x = omega arith

is-from_zero : (v : Valuation) (w : Width) (t : Tree) → IsDifference v w t (from_zero w t)
is-from_zero v w t = difference-none w (mean v t) ∙ ap (λ n. low w (mean v t + (2 ^ bits_of w - 1) * n)) (sym (mean-constant v w 0))

-- an atom, less the negative of the constant
difference-constant : (w : Width) (c x : ℕ) → low w (low w (c + (1 * x + 0))) ≡ low w (x + (2 ^ bits_of w - 1) * low w (difference_of w 0 c))
difference-constant W8 c x = omega arith
difference-constant W16 c x = omega arith
difference-constant W32 c x = omega arith
difference-constant W64 c x = omega arith

one-atom : (v : Valuation) (w u : Width) (c k : ℕ) (t : Tree) → (b : Bool) → (same_width u w && eqb k 1) ≡ b → IsDifference v w (Sum u c (atom k t no_atoms)) (cond b (t, constant w (difference_of w 0 c)) (from_zero w (Sum u c (atom k t no_atoms))))
one-atom v w u c k t true e =
    let p = and-true (same_width u w) (eqb k 1) e in
    let m : ℕ = 2 ^ bits_of w in
    ap (λ y. low w (low y (c + (k * mean v t + 0)))) (same_width-true u w p.0)
    ∙ ap (λ y. low w (low w (c + (y * mean v t + 0)))) (eqb-true k 1 p.1)
    ∙ difference-constant w c (mean v t)
    ∙ ap (λ n. low w (mean v t + (m - 1) * n)) (sym (mean-constant v w (difference_of w 0 c)))
one-atom v w u c k t false e = is-from_zero v w (Sum u c (atom k t no_atoms))

two-atoms : (v : Valuation) (w u : Width) (c k j : ℕ) (t r : Tree) → (b : Bool) → (same_width u w && (eqb c 0 && (eqb k 1 && eqb j (2 ^ bits_of w - 1)))) ≡ b → IsDifference v w (Sum u c (atom k t (atom j r no_atoms))) (cond b (t, r) (from_zero w (Sum u c (atom k t (atom j r no_atoms)))))
two-atoms v w u c k j t r true e =
    let p = and-true (same_width u w) (eqb c 0 && (eqb k 1 && eqb j (2 ^ bits_of w - 1))) e in
    let q = and-true (eqb c 0) (eqb k 1 && eqb j (2 ^ bits_of w - 1)) p.1 in
    let z = and-true (eqb k 1) (eqb j (2 ^ bits_of w - 1)) q.1 in
    let x : ℕ = mean v t in
    let y : ℕ = mean v r in
    let m : ℕ = 2 ^ bits_of w in
    let plain : 0 + (1 * x + ((m - 1) * y + 0)) ≡ x + (m - 1) * y = omega arith in
    ap (λ i. low w (low i (c + (k * x + (j * y + 0))))) (same_width-true u w p.0)
    ∙ same-cut m (c + (k * x + (j * y + 0)))
    ∙ ap (λ i. low w (i + (k * x + (j * y + 0)))) (eqb-true c 0 q.0)
    ∙ ap (λ i. low w (0 + (i * x + (j * y + 0)))) (eqb-true k 1 z.0)
    ∙ ap (λ i. low w (0 + (1 * x + (i * y + 0)))) (eqb-true j (m - 1) z.1)
    ∙ ap (low w) plain
two-atoms v w u c k j t r false e = is-from_zero v w (Sum u c (atom k t (atom j r no_atoms)))

is-difference : (v : Valuation) (w : Width) (t : Tree) → IsDifference v w t (as_difference w t)
is-difference v w (Sum u c (atom k t no_atoms)) = one-atom v w u c k t _ refl
is-difference v w (Sum u c (atom k t (atom j r no_atoms))) = two-atoms v w u c k j t r _ refl
is-difference v w (Sum u c (atom k t (atom j r (atom i q xs)))) = is-from_zero v w (Sum u c (atom k t (atom j r (atom i q xs))))
is-difference v w (Sum u c no_atoms) = is-from_zero v w (Sum u c no_atoms)
is-difference v w (Node h u n s ps) = is-from_zero v w (Node h u n s ps)

mean-extended_test : (v : Valuation) (again : Width → Tree → Tree) (w : Width) (t : Tree) (o : Option Operands) → IsTest v again → operands_in w (as_difference w t).0 (as_difference w t).1 ≡ o → mean v (zero_extended_test o again w t) ≡ is_zero v w t
mean-extended_test v again w t (Some x) ih e =
    let a : Tree = (as_difference w t).0 in
    let b : Tree = (as_difference w t).1 in
    let are = operands-are v w a b x e in
    let l : ℕ = mean v x.left in
    let r : ℕ = mean v x.right in
    ih x.width (minus x.width x.left x.right)
    ∙ zero-minus v x.width x.left x.right
    ∙ ap truth (sym (extended-equal x.kind x.width w l r are.0))
    ∙ ap truth (sym (cut-equal (extended_by x.kind x.width l) (extended_by x.kind x.width r) (mean v a) (mean v b) are.1 are.2))
    ∙ ap truth (sym (difference-zero w (mean v a) (mean v b)))
    ∙ ap (λ n. truth (eqb n 0)) (sym (is-difference v w t))
  where
    cut-equal : (l r p q : ℕ) → p ≡ low w l → q ≡ low w r → eqb (low w p) (low w q) ≡ eqb (low w l) (low w r)
    cut-equal l r p q f g = ap (λ n. eqb (low w n) (low w q)) f ∙ ap (λ n. eqb n (low w q)) (same-cut (2 ^ bits_of w) l) ∙ ap (λ n. eqb (low w l) (low w n)) g ∙ ap (eqb (low w l)) (same-cut (2 ^ bits_of w) r)
mean-extended_test v again w t None ih e = mean-one_part v w t

mean-zero_difference : (v : Valuation) (again : Width → Tree → Tree) (w : Width) (t : Tree) → IsTest v again → mean v (zero_difference again w t) ≡ is_zero v w t
mean-zero_difference v again w t ih = mean-extended_test v again w t (operands_in w (as_difference w t).0 (as_difference w t).1) ih refl

mean-zero_xor : (v : Valuation) (again : Width → Tree → Tree) (w : Width) (t : Tree) → IsTest v again → mean v (zero_xor again w t) ≡ is_zero v w t
mean-zero_xor v again w (Node heads.Xor u n s (tree a (tree b no_trees))) ih = go (same_width u w) refl
  where
    go : (c : Bool) → same_width u w ≡ c → mean v (cond c (again w (minus w a b)) (zero_difference again w (Node heads.Xor u n s (tree a (tree b no_trees))))) ≡ is_zero v w (Node heads.Xor u n s (tree a (tree b no_trees)))
    go true e = ih w (minus w a b) ∙ zero-minus v w a b ∙ sym (zero-xor v w u n s a b (same_width-true u w e))
    go false e = mean-zero_difference v again w (Node heads.Xor u n s (tree a (tree b no_trees))) ih
mean-zero_xor v again w t ih = mean-zero_difference v again w t ih

mean-zero_truth : (v : Valuation) (again : Width → Tree → Tree) (w : Width) (t : Tree) → IsTest v again → (b : Bool) → is_truth t ≡ b → mean v (cond b (opposite (low_8 t)) (zero_xor again w t)) ≡ is_zero v w t
mean-zero_truth v again w t ih true e =
    let below = truth-is v t e in
    let is : mean v (low_8 t) ≡ mean v t = (is-low_8 v t).0 ∙ small W8 (mean v t) below in
    mean-opposite v (low_8 t) (subst (λ n. n < 2) (sym is) below) ∙ ap (λ n. truth (eqb n 0)) is ∙ ap (λ n. truth (eqb n 0)) (sym (small w (mean v t) below))
mean-zero_truth v again w t ih false e = mean-zero_xor v again w t ih

mean-zero_constant : (v : Valuation) (again : Width → Tree → Tree) (w : Width) (t : Tree) → IsTest v again → (o : Option ℕ) → constant_in t ≡ o → mean v (zero_constant o again w t) ≡ is_zero v w t
mean-zero_constant v again w t ih (Some c) e =
    mean-constant v W8 (truth (eqb (low w c) 0)) ∙ small_truth W8 (eqb (low w c) 0) ∙ ap (λ n. truth (eqb (low w n) 0)) (sym (constant-is v t c e))
mean-zero_constant v again w t ih None e = mean-zero_truth v again w t ih (is_truth t) refl

pub mean-zero_test : (v : Valuation) (n : ℕ) → IsTest v (zero_test n)
unfolding zero_test
mean-zero_test v zero w t = mean-one_part v w t
mean-zero_test v (suc n) w t = mean-zero_constant v (zero_test n) w (nearer w t) (mean-zero_test v n) (constant_in (nearer w t)) refl ∙ zero-nearer v w t

pub mean-equals_zero : (v : Valuation) (w : Width) (t : Tree) → mean v (equals_zero w t) ≡ is_zero v w t
mean-equals_zero v w t = mean-zero_test v (tree_size t) w t

-- one round
pub zero_test-step : (n : ℕ) (w : Width) (t : Tree) → 0 < n → zero_test n w t ≡ zero_chosen (zero_test (n - 1)) w (nearer w t)
unfolding zero_test
zero_test-step zero w t h = absurd (omega arith)
zero_test-step (suc n) w t h = ap (λ k. zero_chosen (zero_test k) w (nearer w t)) (less n)
  where
    less : (n : ℕ) → n ≡ suc n - 1
    less n = omega arith

pub zero_test-none : (w : Width) (t : Tree) → zero_test 0 w t ≡ one_part heads.Eq w t
unfolding zero_test
zero_test-none w t = refl
