-- Truths are 0 or 1, and the opposite of one is the other.
use Rattle.std.proofs.Common.{◌≡◌, ℕ, zero, suc, ◌+◌, ◌<◌, refl, sym, ◌∙◌, ap, subst, arith, eqb, Bool, true, false, bit_xor, List, [], ◌∷◌}
use Rattle.bits64.specs.declared.Width.{Width}
use Rattle.bits64.specs.declared.Width.TheVariants.{W8, W16, W32, W64}
use Rattle.bits64.specs.Words.{low, less_signed, less_unsigned}
use Rattle.term_tree.specs.declared.head.Head.TheVariants as heads
use Rattle.term_tree.specs.declared.head.Joint.TheVariants.{Xor}
use Rattle.term_tree.specs.Tree.{Tree, Sum, Node, no_atoms, atom, no_trees, tree, width_of}
use Rattle.term_tree.proofs.OrderLaws.{eqb-true}
use Rattle.term_mean.specs.Meaning.{Valuation, Value, mean, values, truth, on_one, on_two}
use Rattle.term_mean.specs.Sums.{constant}
use Rattle.term_mean.specs.Truths.{is_one, is_truth, opposite}
use Rattle.term_mean.proofs.JoinedLaws.{and-true}
use Rattle.term_mean.proofs.MaskLaws.{mean-made_8_at}

pub small_truth : (w : Width) (b : Bool) → low w (truth b) ≡ truth b
small_truth W8 true = refl
small_truth W16 true = refl
small_truth W32 true = refl
small_truth W64 true = refl
small_truth W8 false = refl
small_truth W16 false = refl
small_truth W32 false = refl
small_truth W64 false = refl

truth-below : (b : Bool) → truth b < 2
truth-below true = omega arith
truth-below false = omega arith

pub small : (w : Width) (n : ℕ) → n < 2 → low w n ≡ n
small W8 n h = omega arith
small W16 n h = omega arith
small W32 n h = omega arith
small W64 n h = omega arith

low-below : (w : Width) (n : ℕ) → n < 2 → low w n < 2
low-below w n h = subst (λ x. x < 2) (sym (small w n h)) h

two-below : (f : ℕ → ℕ → Bool) (xs : List Value) → on_two xs (λ a b. truth (f a b)) < 2
two-below f [] = omega arith
two-below f (a ∷ []) = omega arith
two-below f (a ∷ b ∷ []) = truth-below (f a.1 b.1)
two-below f (a ∷ b ∷ c ∷ xs) = omega arith

one-below : (f : Width → ℕ → Bool) (xs : List Value) → on_one xs (λ u a. truth (f u a)) < 2
one-below f [] = omega arith
one-below f (a ∷ []) = truth-below (f a.0 a.1)
one-below f (a ∷ b ∷ xs) = omega arith

-- 1, and a number of one bit
xor-one : (n : ℕ) → n < 2 → bit_xor 1 (bit_xor n 0) ≡ truth (eqb n 0)
xor-one zero h = refl
xor-one (suc zero) h = refl
xor-one (suc (suc n)) h = absurd (omega arith)

mean-one : (v : Valuation) (t : Tree) → is_one t ≡ true → mean v t ≡ 1
mean-one v (Sum w c no_atoms) e = ap (λ n. low w (n + 0)) (eqb-true c 1 e) ∙ small w 1 (omega arith)
mean-one v (Sum w c (atom k t xs)) e = absurd (let none : ⊥ = cc in none)
mean-one v (Node h w n s ps) e = absurd (let none : ⊥ = cc in none)

xor-below : (v : Valuation) (w : Width) (c t : Tree) → mean v c ≡ 1 → mean v t < 2 → low w (bit_xor (mean v c) (bit_xor (mean v t) 0)) < 2
xor-below v w c t e h =
    let n : ℕ = mean v t in
    let is : bit_xor (mean v c) (bit_xor n 0) ≡ truth (eqb n 0) = ap (λ x. bit_xor x (bit_xor n 0)) e ∙ xor-one n h in
    low-below w (bit_xor (mean v c) (bit_xor n 0)) (subst (λ x. x < 2) (sym is) (truth-below (eqb n 0)))

pub truth-is : (v : Valuation) (t : Tree) → is_truth t ≡ true → mean v t < 2
truth-is v (Node heads.Lt w n s ps) e = low-below W8 _ (two-below (less_signed w) (values v ps))
truth-is v (Node heads.Ltu w n s ps) e = low-below W8 _ (two-below (less_unsigned w) (values v ps))
truth-is v (Node heads.Eq w n s ps) e = low-below W8 _ (one-below (λ u a. eqb (low w a) 0) (values v ps))
truth-is v (Node heads.Zext w n s (tree t no_trees)) e = low-below w _ (low-below (width_of t) _ (truth-is v t e))
truth-is v (Node heads.Xor w n s (tree c (tree t no_trees))) e =
    let p = and-true (is_one c) (is_truth t) e in
    xor-below v w c t (mean-one v c p.0) (truth-is v t p.1)
truth-is v t e = absurd (let none : ⊥ = cc in none)

pub mean-opposite : (v : Valuation) (t : Tree) → mean v t < 2 → mean v (opposite t) ≡ truth (eqb (mean v t) 0)
mean-opposite v t h =
    mean-made_8_at v Xor (constant W8 1 ∷ t ∷ []) ∙ ap (low W8) (xor-one (mean v t) h) ∙ small_truth W8 (eqb (mean v t) 0)
